-- What leaves give, root by root and leaf by leaf.
use Rattle.std.proofs.Common.{◌≡◌, inl, inr, ℕ, zero, suc, ◌<◌, ◌+◌, Bool, true, false, cond, nat_eq, List, [], ◌∷◌}
use Rattle.std.proofs.Common.{◌++◌, flat_map, length, refl, sym, ap, ◌∙◌, arith, append-nil}
use Rattle.std.proofs.lemmas.Bool.{eqb-true, eq-eqb}
use Rattle.fore_base.specs.Lists.{IsIn}
use Rattle.fore_base.specs.declared.shape.Shape.{Shape}
use Rattle.fore_base.specs.declared.store.Value.{Value}
use Rattle.fore_base.specs.declared.store.Value.TheVariants.{Null as NullValue, Uninit as UninitValue}
use Rattle.fore_base.specs.declared.store.Value.TheVariants.{Dangling as DanglingValue, Cell}
use Rattle.fa_core.specs.declared.boxes.BoxDef.{BoxDef}
use Rattle.fa_core.specs.declared.faces.Face.{Face}
use Rattle.fa_core.specs.declared.forest.Target.{Target}
use Rattle.fa_core.specs.declared.forest.Target.TheVariants.{Null, Uninit, Dangling, At}
use Rattle.fa_core.specs.Dressed.{nth_value, value_in}
use Rattle.fa_core.specs.Rearranged.{often}
use Rattle.fa_core.proofs.Counts.{often_both}
use Rattle.fa_core.proofs.Given.{Tip, tip_to}
use Rattle.fa_facts.proofs.FactCounts.{at_value, nothing_at}
use Rattle.fa_facts.proofs.TreeFields.{tip_sum, so_both}

-- an edge that gives fields to root r gives none where all edges give it none
pub gift_none : (r : ℕ) (g : List ℕ) (ts : List Tip) → IsIn (At r, g) ts → flat_map (tip_to r) ts ≡ [] → g ≡ []
gift_none r g [] i e = absurd i
gift_none r g (t ∷ ts) (inl i) e = first (tip_to r t) (flat_map (tip_to r) ts) (ap (tip_to r) (sym i) ∙ own) e
  where
    own : tip_to r (At r, g) ≡ g
    own = let w : nat_eq r r ≡ true = eq-eqb r r refl in rw w refl

    first : (xs ys : List ℕ) → xs ≡ g → xs ++ ys ≡ [] → g ≡ []
    first [] ys h e = sym h
    first (x ∷ xs) ys h e = let z : suc (length (xs ++ ys)) ≡ 0 = ap length e in absurd (omega (arith, z))
gift_none r g (t ∷ ts) (inr i) e = gift_none r g ts i (rest (tip_to r t) (flat_map (tip_to r) ts) e)
  where
    rest : (xs ys : List ℕ) → xs ++ ys ≡ [] → ys ≡ []
    rest [] ys e = e
    rest (x ∷ xs) ys e = let z : suc (length (xs ++ ys)) ≡ 0 = ap length e in absurd (omega (arith, z))

module _ (face : Face) (T : List BoxDef) (c f : ℕ) where
  abbrev hs : List Shape
  hs = face.shapes.structs

  -- what the leaves give to the roots from r on, where the roots are these values
  abbrev pub root_sum : List Value → ℕ → List Tip → ℕ
  root_sum [] r ts = 0
  root_sum (v ∷ vs) r ts = at_value hs c f v (often f (flat_map (tip_to r) ts)) + root_sum vs (suc r) ts

  value_both : (v : Value) (j k : ℕ) → at_value hs c f v (j + k) ≡ at_value hs c f v j + at_value hs c f v k
  value_both NullValue j k = omega arith
  value_both UninitValue j k = omega arith
  value_both DanglingValue j k = omega arith
  value_both (Cell m) j k = so_both (nat_eq c m) j k

  root_none : (vs : List Value) (r : ℕ) → root_sum vs r [] ≡ 0
  root_none [] r = refl
  root_none (v ∷ vs) r = let z = nothing_at hs c f v in let e = root_none vs (suc r) in omega (arith, z, e)

  root_more : (vs : List Value) (r : ℕ) (t : Tip) (ts : List Tip)
      → root_sum vs r (t ∷ ts) ≡ root_sum vs r (t ∷ []) + root_sum vs r ts
  root_more [] r t ts = omega arith
  root_more (v ∷ vs) r t ts =
      let e = root_more vs (suc r) t ts in
      let a : at_value hs c f v (often f (flat_map (tip_to r) (t ∷ ts)))
      ≡ at_value hs c f v (often f (tip_to r t)) + at_value hs c f v (often f (flat_map (tip_to r) ts)) =
      ap (at_value hs c f v) (often_both f (tip_to r t) (flat_map (tip_to r) ts))
      ∙ value_both v (often f (tip_to r t)) (often f (flat_map (tip_to r) ts)) in
      let b : at_value hs c f v (often f (flat_map (tip_to r) (t ∷ []))) ≡ at_value hs c f v (often f (tip_to r t)) =
      ap (λ (z : List ℕ). at_value hs c f v (often f z)) (append-nil (tip_to r t)) in
      omega (arith, e, a, b)

  -- a leaf that refers to root k
  here_or_none : (r k : ℕ) (g : List ℕ) (b : Bool) → nat_eq r k ≡ b → (v : Value)
      → at_value hs c f v (often f (flat_map (tip_to r) ((At k, g) ∷ []))) ≡ at_value hs c f v (often f (cond b g []))
  here_or_none r k g b e v = ap (λ (z : List ℕ). at_value hs c f v (often f z))
      (append-nil (cond (nat_eq r k) g []) ∙ ap (λ (x : Bool). cond x g []) e)

  not_same : (r k : ℕ) → k < r → nat_eq r k ≡ false
  not_same r k l = here (nat_eq r k) refl
    where
      here : (b : Bool) → nat_eq r k ≡ b → b ≡ false
      here true e = let z = eqb-true r k e in absurd (omega (arith, z, l))
      here false e = refl

  not_other : (r k : ℕ) → r < k → nat_eq r k ≡ false
  not_other r k l = here (nat_eq r k) refl
    where
      here : (b : Bool) → nat_eq r k ≡ b → b ≡ false
      here true e = let z = eqb-true r k e in absurd (omega (arith, z, l))
      here false e = refl

  root_before : (vs : List Value) (r k : ℕ) (g : List ℕ) → k < r → root_sum vs r ((At k, g) ∷ []) ≡ 0
  root_before [] r k g l = refl
  root_before (v ∷ vs) r k g l =
      let a = here_or_none r k g false (not_same r k l) v in
      let z = nothing_at hs c f v in
      let e = root_before vs (suc r) k g (omega (arith, l)) in
      omega (arith, a, z, e)

  root_from : (vs : List Value) (r j k : ℕ) (g : List ℕ) → k ≡ r + j
      → root_sum vs r ((At k, g) ∷ []) ≡ at_value hs c f (nth_value vs j) (often f g)
  root_from [] r j k g h = refl
  root_from (v ∷ vs) r zero k g h =
      let a = here_or_none r k g true (eq-eqb r k (omega (arith, h))) v in
      let e = root_before vs (suc r) k g (omega (arith, h)) in
      omega (arith, a, e)
  root_from (v ∷ vs) r (suc j) k g h =
      let a = here_or_none r k g false (not_other r k (omega (arith, h))) v in
      let z = nothing_at hs c f v in
      let e = root_from vs (suc r) j k g (omega (arith, h)) in
      omega (arith, a, z, e)

  -- a leaf that refers to no root
  idle : (vs : List Value) (r : ℕ) (t : Tip) → ((q : ℕ) → tip_to q t ≡ []) → root_sum vs r (t ∷ []) ≡ 0
  idle [] r t h = refl
  idle (v ∷ vs) r t h =
      let a : at_value hs c f v (often f (flat_map (tip_to r) (t ∷ []))) ≡ at_value hs c f v 0 =
      ap (λ (z : List ℕ). at_value hs c f v (often f z)) (append-nil (tip_to r t) ∙ h r) in
      let z = nothing_at hs c f v in
      let e = idle vs (suc r) t h in
      omega (arith, a, z, e)

  root_one : (vs : List Value) (t : Target) (g : List ℕ)
      → root_sum vs 0 ((t, g) ∷ []) ≡ at_value hs c f (value_in vs t) (often f g)
  root_one vs Null g = idle vs 0 (Null, g) (λ q. refl)
  root_one vs Uninit g = idle vs 0 (Uninit, g) (λ q. refl)
  root_one vs Dangling g = idle vs 0 (Dangling, g) (λ q. refl)
  root_one vs (At k) g = root_from vs 0 k k g (omega arith)

  -- what all leaves give is what the roots are given
  pub roots_tips : (vs : List Value) (ts : List Tip) → root_sum vs 0 ts ≡ tip_sum face T c f vs ts
  roots_tips vs [] = root_none vs 0
  roots_tips vs (t ∷ ts) =
      let a = root_more vs 0 t ts in
      let b = root_one vs t.0 t.1 in
      let e = roots_tips vs ts in
      omega (arith, a, b, e)
