-- The least field that is given to a root, and which of two trees gives the lesser one.
use Rattle.std.proofs.Common.{◌≡◌, inl, inr, ℕ, ◌<◌, ◌≤◌, ◌+◌, Bool, true, false, nat_eq, cond, List, []}
use Rattle.std.proofs.Common.{
  ◌∷◌,
  ◌++◌,
  refl,
  sym,
  ap,
  subst,
  ◌∙◌,
  Option,
  Some,
  None,
  take,
  length,
  get_or,
  append-nil,
  append_assoc,
  arith,
}
use Rattle.std.proofs.lemmas.Bool.{eqb-true, eq-eqb}
use Rattle.fore_base.specs.Lists.{IsIn, Every}
use Rattle.fore_base.proofs.ListLemmas.{in_left, in_right, in_append, every_push, take_item}
use Rattle.fa_core.specs.declared.signature.RefMark.{RefMark}
use Rattle.fa_order.specs.inner.Backs.{fields_to, IsLeastIn, SignGives}

-- The fields that the marks of a root provide.

pub fields_give : (r : ℕ) (ms : List RefMark) (f : ℕ) → IsIn f (fields_to r ms) → SignGives ms r f
fields_give r [] f h = absurd h
fields_give r (m ∷ ms) f h = here (nat_eq m.root r) refl h (fields_give r ms f)
  where
    here : (b : Bool) → nat_eq m.root r ≡ b → IsIn f (cond b m.provided [] ++ fields_to r ms)
        → (IsIn f (fields_to r ms) → SignGives ms r f) → SignGives (m ∷ ms) r f
    here true e h k = elim (in_append f m.provided (fields_to r ms) h) [
      | inl i ↦ (m, inl refl, eqb-true m.root r e, i)
      | inr i ↦ (let g = k i in (g.0, inr g.1, g.2, g.3))
    ]
    here false e h k = let g = k h in (g.0, inr g.1, g.2, g.3)

pub give_fields : (r : ℕ) (ms : List RefMark) (f : ℕ) → SignGives ms r f → IsIn f (fields_to r ms)
give_fields r [] f h = absurd h.1
give_fields r (m ∷ ms) f (x, inl e, q, i) =
    let t : nat_eq m.root r ≡ true = eq-eqb m.root r (sym (ap (λ (y : RefMark). y.root) e) ∙ q) in
    subst (λ (b : Bool). IsIn f (cond b m.provided [] ++ fields_to r ms)) (sym t)
    (in_left f m.provided (fields_to r ms) (subst (λ (y : RefMark). IsIn f y.provided) e i))
give_fields r (m ∷ ms) f (x, inr j, q, i) =
    in_right f (cond (nat_eq m.root r) m.provided []) (fields_to r ms) (give_fields r ms f (x, j, q, i))

-- The least number.

pub one_least : (xs : List ℕ) (n other : ℕ) → IsLeastIn xs (Some n) → n ≤ other → IsLeastIn (xs ++ other ∷ []) (Some n)
one_least xs n other h l = (in_left n xs (other ∷ []) h.0, every_push (λ y. n ≤ y) xs other h.1 l)

pub new_least : (xs : List ℕ) (n other : ℕ) → IsLeastIn xs (Some n) → other ≤ n
    → IsLeastIn (xs ++ other ∷ []) (Some other)
new_least xs n other h l = (
  in_right other xs (other ∷ []) (inl refl),
  every_push (λ y. other ≤ y) xs other (lower xs h.1) (omega arith),
)
  where
    lower : (ys : List ℕ) → Every (λ y. n ≤ y) ys → Every (λ y. other ≤ y) ys
    lower [] k = tt
    lower (y ∷ ys) k = ((let a = k.0 in omega (arith, l, a)), lower ys k.1)

pub only_least : (xs : List ℕ) (other : ℕ) → IsLeastIn xs None → IsLeastIn (xs ++ other ∷ []) (Some other)
only_least xs other h = subst (λ (z : List ℕ). IsLeastIn (z ++ other ∷ []) (Some other)) (sym h) (
  inl refl,
  (omega arith, tt),
)

-- The fields of one mark more.

fields_push : (r : ℕ) (ms : List RefMark) (m : RefMark) → fields_to r (ms ++ m ∷ [])
    ≡ fields_to r ms ++ cond (nat_eq m.root r) m.provided []
fields_push r [] m = append-nil (cond (nat_eq m.root r) m.provided [])
fields_push r (x ∷ ms) m =
    ap (λ (z : List ℕ). cond (nat_eq x.root r) x.provided [] ++ z) (fields_push r ms m)
    ∙ sym (append_assoc (cond (nat_eq x.root r) x.provided []) (fields_to r ms) (cond (nat_eq m.root r) m.provided []))

module _ (r : ℕ) (ms : List RefMark) (k : ℕ) (m : RefMark) (l : k < length ms) (is : m ≡ get_or ms k m) where
  pub fields_more : m.root ≡ r → (o : Option ℕ) → IsLeastIn (fields_to r (take k ms) ++ m.provided) o
      → IsLeastIn (fields_to r (take (k + 1) ms)) o
  fields_more e o h =
      let t = eq-eqb m.root r e in
      let a : fields_to r (take k ms ++ m ∷ []) ≡ fields_to r (take k ms) ++ m.provided = fields_push r (take k ms) m
      ∙ ap (λ (b : Bool). fields_to r (take k ms) ++ cond b m.provided []) t in
      subst (λ (z : List ℕ). IsLeastIn z o) (sym (ap (fields_to r) (take_item ms k m l is) ∙ a)) h

  pub fields_same : (m.root ≡ r → ⊥) → (o : Option ℕ) → IsLeastIn (fields_to r (take k ms)) o
      → IsLeastIn (fields_to r (take (k + 1) ms)) o
  fields_same n o h =
      let t : nat_eq m.root r ≡ false = differ (nat_eq m.root r) refl in
      let a : fields_to r (take k ms ++ m ∷ []) ≡ fields_to r (take k ms) = fields_push r (take k ms) m
      ∙ ap (λ (b : Bool). fields_to r (take k ms) ++ cond b m.provided []) t ∙ append-nil (fields_to r (take k ms)) in
      subst (λ (z : List ℕ). IsLeastIn z o) (sym (ap (fields_to r) (take_item ms k m l is) ∙ a)) h
    where
      differ : (b : Bool) → nat_eq m.root r ≡ b → nat_eq m.root r ≡ false
      differ true e = absurd (n (eqb-true m.root r e))
      differ false e = e
