-- Lists of numbers and of items: in two parts, and in another order.
use Rattle.std.proofs.Common.{◌≡◌, inl, inr, ℕ, Bool, true, false, nat_eq}
use Rattle.std.proofs.Common.{if◌then◌else◌, cond, List, [], ◌∷◌, ◌++◌, flat_map, filter, refl, sym, ap, ap₂, subst}
use Rattle.std.proofs.Common.{append_assoc, append-nil}
use Rattle.std.proofs.lemmas.Bool.{eqb-true, eq-eqb}
use Rattle.fore_base.specs.Lists.{IsIn, Every, IsDistinct}
use Rattle.fa_core.specs.Rearranged.{Rearranged, empty, chain}
use Rattle.fa_core.specs.Folding.{Ports, taken_at}
use Rattle.fa_core.proofs.Rearranging.{same, equal, after, both, exchange}

-- behind the same items, what is of the one list is of the other
pub both_in : (k : ℕ) (xs ys zs : List ℕ) → (IsIn k ys → IsIn k zs) → IsIn k (xs ++ ys) → IsIn k (xs ++ zs)
both_in k [] ys zs f i = f i
both_in k (x ∷ xs) ys zs f (inl e) = inl e
both_in k (x ∷ xs) ys zs f (inr i) = inr (both_in k xs ys zs f i)

-- what holds of each item holds of those that are left
pub every_filter : {X : Type 0} (q : X → Bool) (P : X → Type 0) (xs : List X) → Every P xs → Every P (filter q xs)
every_filter q P [] h = tt
every_filter q P (x ∷ xs) h = here (q x) (every_filter q P xs h.1)
  where
    here : (b : Bool) → Every P (filter q xs) → Every P (cond b (x ∷ filter q xs) (filter q xs))
    here true k = (h.0, k)
    here false k = k

module _ {X : Type 0} where
  -- (a ++ b) ++ (c ++ e) in the order a, c, b, e
  pub four : (a b c e : List X) → Rearranged ((a ++ b) ++ (c ++ e)) ((a ++ c) ++ (b ++ e))
  four a b c e = rw (append_assoc a b (c ++ e), append_assoc a c (b ++ e)) (after a (exchange b c e))

module _ {X Y : Type 0} where
  -- what each item gives, in two parts
  pub two_parts : (h f g : Y → List X) → ((y : Y) → Rearranged (h y) (f y ++ g y)) → (ys : List Y)
      → Rearranged (flat_map h ys) (flat_map f ys ++ flat_map g ys)
  two_parts h f g p [] = empty
  two_parts h f g p (y ∷ ys) = chain (both (p y) (two_parts h f g p ys))
      (four (f y) (g y) (flat_map f ys) (flat_map g ys))

  -- an item that stands once gives what it gives, and the others nothing
  pub none_given : (h : Y → List X) (ys : List Y) → ((y : Y) → IsIn y ys → h y ≡ []) → flat_map h ys ≡ []
  none_given h [] p = refl
  none_given h (y ∷ ys) p = ap₂ (λ (a b : List X). a ++ b) (p y (inl refl)) (none_given h ys (λ z i. p z (inr i)))

pub eq_self : (k : ℕ) → nat_eq k k ≡ true
eq_self k = eq-eqb k k refl

pub eq_not : (k r : ℕ) → (k ≡ r → ⊥) → nat_eq k r ≡ false
eq_not k r n = here (nat_eq k r) refl
  where
    here : (b : Bool) → nat_eq k r ≡ b → b ≡ false
    here true e = absurd (n (eqb-true k r e))
    here false e = refl

-- What the ports take, root by root and port by port.

module _ {X : Type 0} (t : ℕ → List ℕ → List X) (none : (r : ℕ) → t r [] ≡ []) where
  -- of fields that are put together, each part gives its own
  abbrev pub Adds : ℕ → List ℕ → List ℕ → Type 0
  Adds r fs gs = Rearranged (t r (fs ++ gs)) (t r fs ++ t r gs)

  abbrev pub by_root : Ports → ℕ → List X
  by_root ps r = t r (taken_at ps r)

  -- the ports that stand later take other fields of the same root
  abbrev pub ArePartsApart : Ports → Type 0
  ArePartsApart [] = Unit {0}
  ArePartsApart (p ∷ ps) = Adds p.0 p.1 (taken_at ps p.0) × ArePartsApart ps

  abbrev pub AreIn : List ℕ → Ports → Type 0
  AreIn rs [] = Unit {0}
  AreIn rs (p ∷ ps) = IsIn p.0 rs × AreIn rs ps

  no_ports : (rs : List ℕ) → flat_map (by_root []) rs ≡ []
  no_ports rs = none_given (by_root []) rs (λ r i. none r)

  abbrev pub first : (p : ℕ × List ℕ) → ℕ → List X
  first p r = if nat_eq p.0 r then t r p.1 else []

  -- the first port takes at its own root alone
  one_root : (p : ℕ × List ℕ) (ps : Ports) → Adds p.0 p.1 (taken_at ps p.0) → (r : ℕ)
      → Rearranged (by_root (p ∷ ps) r) (first p r ++ by_root ps r)
  one_root p ps add r = here (nat_eq p.0 r) refl
    where
      here : (b : Bool) → nat_eq p.0 r ≡ b
          → Rearranged (t r (cond b (p.1 ++ taken_at ps r) (taken_at ps r)))
          (cond b (t r p.1) [] ++ t r (taken_at ps r))
      here true e = subst (λ (k : ℕ). Rearranged (t k (p.1 ++ taken_at ps k)) (t k p.1 ++ t k (taken_at ps k)))
          (eqb-true p.0 r e) add
      here false e = same (t r (taken_at ps r))

  nowhere : (p : ℕ × List ℕ) (rs : List ℕ) → (IsIn p.0 rs → ⊥) → flat_map (first p) rs ≡ []
  nowhere p rs n = none_given (first p) rs
      (λ r i. rw (eq_not p.0 r (λ e. n (subst (λ (z : ℕ). IsIn z rs) (sym e) i))) refl)

  pub once_there : (p : ℕ × List ℕ) (rs : List ℕ) → IsDistinct rs → IsIn p.0 rs
      → Rearranged (flat_map (first p) rs) (t p.0 p.1)
  once_there p [] d i = absurd i
  once_there p (r ∷ rs) (g, d) (inl e) =
      rw (nowhere p rs (λ j. g (subst (λ (z : ℕ). IsIn z rs) e j)))
      (subst (λ (k : ℕ). Rearranged (first p k ++ []) (t p.0 p.1)) e
      (rw (eq_self p.0) (equal (append-nil (t p.0 p.1)))))
  once_there p (r ∷ rs) (g, d) (inr i) =
      rw (eq_not p.0 r (λ e. g (subst (λ (z : ℕ). IsIn z rs) e i))) (once_there p rs d i)

  -- root by root, or port by port
  pub by_ports : (ps : Ports) (rs : List ℕ) → IsDistinct rs → AreIn rs ps → ArePartsApart ps
      → Rearranged (flat_map (by_root ps) rs) (flat_map (λ p. t p.0 p.1) ps)
  by_ports [] rs d there apart = equal (no_ports rs)
  by_ports (p ∷ ps) rs d there apart = chain
      (two_parts (by_root (p ∷ ps)) (first p) (by_root ps) (one_root p ps apart.0) rs)
      (both (once_there p rs d there.0) (by_ports ps rs d there.1 apart.1))
