-- Where a root becomes the last, those above it move down by one.
use Rattle.std.proofs.Common.{◌≡◌, ◌≢◌, inl, inr, ℕ, zero, suc, ◌<◌, ◌≤◌, ◌+◌, ◌-◌, Bool, true, false, true≢false}
use Rattle.std.proofs.Common.{if◌then◌else◌, nat_eq, nat_lt, List, [], ◌∷◌, ◌++◌, map, refl, sym, ap, ap₂, ◌∙◌, arith}
use Rattle.std.proofs.lemmas.Bool.{eqb-true, eq-eqb, lt-ltb, ltb-true}
use Rattle.fore_base.specs.Lists.{IsIn}
use Rattle.fa_core.specs.declared.forest.Target.{Target}
use Rattle.fa_core.specs.declared.forest.Target.TheVariants.{Null, Uninit, Dangling, At}
use Rattle.fa_core.specs.Placed.{placed_leaf}
use Rattle.fa_merge.specs.Merged.{others, to_last, lowered, lowering}
use Rattle.fa_merge.specs.Reordered.{counted, place_from, renumber}

pub lowered_above : (r k : ℕ) → r < k → lowered r k + 1 ≡ k
lowered_above r k l = here (nat_lt r k) refl
  where
    here : (b : Bool) → nat_lt r k ≡ b → (if b then k - 1 else k) + 1 ≡ k
    here true e = omega (arith, l)
    here false e = absurd (true≢false (sym (lt-ltb r k l) ∙ e))

pub lowered_below : (r k : ℕ) → k ≤ r → lowered r k ≡ k
lowered_below r k l = here (nat_lt r k) refl
  where
    here : (b : Bool) → nat_lt r k ≡ b → (if b then k - 1 else k) ≡ k
    here true e = (let w = ltb-true r k e in absurd (omega (arith, l, w)))
    here false e = refl

-- past r each stands at its place
place_past : (r j i n k : ℕ) (ys : List ℕ) → r < i → i ≤ k → k < i + n
    → place_from j (others r (counted i n) ++ ys) k + i ≡ j + k
place_past r j i zero k ys a b c = absurd (omega (arith, b, c))
place_past r j i (suc n) k ys a b c = skip (nat_eq i r) refl (place_past r (suc j) (suc i) n k ys)
  where
    Later : Type 0
    Later = r < suc i → suc i ≤ k → k < suc i + n → place_from (suc j) (others r (counted (suc i) n) ++ ys) k + suc i
        ≡ suc j + k

    found : Later → (b : Bool) → nat_eq i k ≡ b
        → (if b then j else place_from (suc j) (others r (counted (suc i) n) ++ ys) k) + i ≡ j + k
    found later true e = (let w = eqb-true i k e in omega (arith, w))
    found later false e =
        let d : i ≢ k = (λ z. true≢false (sym (eq-eqb i k z) ∙ e)) in
        let w = later (omega (arith, a)) (omega (arith, b, d)) (omega (arith, c)) in
        omega (arith, w)

    skip : (b : Bool) → nat_eq i r ≡ b → Later
        → place_from j ((if b then others r (counted (suc i) n) else i ∷ others r (counted (suc i) n)) ++ ys) k + i
        ≡ j + k
    skip true e later = (let w = eqb-true i r e in absurd (omega (arith, a, w)))
    skip false e later = found later (nat_eq i k) refl

place_lowered : (r j i n k : ℕ) (ys : List ℕ) → i ≤ r → i ≤ k → k < i + n → k ≢ r
    → place_from j (others r (counted i n) ++ ys) k + i ≡ j + lowered r k
place_lowered r j i zero k ys a b c d = absurd (omega (arith, b, c))
place_lowered r j i (suc n) k ys a b c d = skip (nat_eq i r) refl (place_lowered r (suc j) (suc i) n k ys)
  where
    Later : Type 0
    Later = suc i ≤ r → suc i ≤ k → k < suc i + n → k ≢ r
        → place_from (suc j) (others r (counted (suc i) n) ++ ys) k + suc i ≡ suc j + lowered r k

    found : Later → (b : Bool) → i ≢ r → nat_eq i k ≡ b
        → (if b then j else place_from (suc j) (others r (counted (suc i) n) ++ ys) k) + i ≡ j + lowered r k
    found later true x e =
        (let w = eqb-true i k e in let z = lowered_below r k (omega (arith, a, w)) in omega (arith, w, z))
    found later false x e =
        let y : i ≢ k = (λ z. true≢false (sym (eq-eqb i k z) ∙ e)) in
        let w = later (omega (arith, a, x)) (omega (arith, b, y)) (omega (arith, c)) d in
        omega (arith, w)

    skip : (b : Bool) → nat_eq i r ≡ b → Later
        → place_from j ((if b then others r (counted (suc i) n) else i ∷ others r (counted (suc i) n)) ++ ys) k + i
        ≡ j + lowered r k
    skip true e later =
        let w = eqb-true i r e in
        let l : r < k = omega (arith, b, d, w) in
        let p = place_past r j (suc i) n k ys (omega (arith, w)) (omega (arith, l, w)) (omega (arith, c)) in
        let z = lowered_above r k l in
        omega (arith, p, z)
    skip false e later = found later (nat_eq i k) (λ z. true≢false (sym (eq-eqb i r z) ∙ e)) refl

pub to_last_lowered : (n r k : ℕ) → k < n → k ≢ r → to_last n r k ≡ lowered r k
to_last_lowered n r k l d = let w = place_lowered r 0 0 n k (r ∷ []) (omega arith) (omega arith) (omega (arith, l)) d in
    omega (arith, w)

-- targets under the new numbers
pub vars_lowered : (n r : ℕ) (us : List Target) → ((k : ℕ) → IsIn (At k) us → (k < n) × (k ≢ r))
    → map (placed_leaf (renumber (to_last n r))) us ≡ map (placed_leaf (lowering r)) us
vars_lowered n r [] h = refl
vars_lowered n r (u ∷ us) h =
    ap₂ (λ (x : Target) (y : List Target). x ∷ y) (one u (λ k e. h k (inl e)))
    (vars_lowered n r us (λ k i. h k (inr i)))
  where
    one : (u : Target) → ((k : ℕ) → At k ≡ u → (k < n) × (k ≢ r)) → placed_leaf (renumber (to_last n r)) u
        ≡ placed_leaf (lowering r) u
    one Null h = refl
    one Uninit h = refl
    one Dangling h = refl
    one (At k) h = let w = h k refl in ap (λ (z : ℕ). At z) (to_last_lowered n r k w.0 w.1)
