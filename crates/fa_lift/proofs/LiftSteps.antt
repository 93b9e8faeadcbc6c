-- Steps of the searches for the edge: one more rule, one more mark.
use Rattle.std.proofs.Common.{◌≡◌, inl, inr, ℕ, true, List, [], ◌∷◌, ◌++◌}
use Rattle.std.proofs.Common.{◌↔◌, IsTrue, refl, sym, ap, subst, ◌∙◌}
use Rattle.fore_base.specs.Lists.{IsIn}
use Rattle.fore_base.proofs.ListLemmas.{in_push}
use Rattle.ta_core.specs.declared.auto.Rule.{Rule}
use Rattle.ta_core.specs.declared.symbol.Symbol.TheVariants.{Ref}
use Rattle.fa_core.specs.declared.signature.RefMark.{RefMark}
use Rattle.fa_core.specs.Ways.{has}
use Rattle.fa_lift.specs.Lift.{MayRefer}
use Rattle.fa_lift.specs.inner.Lifting.{MarksProvide}
use Rattle.fa_back.proofs.RootMarks.{has_in, in_has}

-- Rules that are a reference.

pub refer_there : (rules : List Rule) (r q : ℕ) (o : Rule) → IsIn o rules → o.state ≡ q → o.symbol ≡ Ref r
    → IsTrue true ↔ MayRefer rules r q
refer_there rules r q o i s y = ((λ t. (o, i, s, y)), (λ h. refl))

pub refer_none : (rules : List Rule) (r q : ℕ) (o : Rule) → (MayRefer rules r q → ⊥)
    → (o.state ≡ q → o.symbol ≡ Ref r → ⊥) → MayRefer (rules ++ o ∷ []) r q → ⊥
refer_none rules r q o h g (x, i, s, y) = elim (in_push o x rules i) [
  | inl j ↦ h (x, j, s, y)
  | inr e ↦ g (ap (λ (z : Rule). z.state) (sym e) ∙ s) (ap (λ (z : Rule). z.symbol) (sym e) ∙ y)
]

-- Marks that provide the field.

pub provide_there : (r f : ℕ) (ms : List RefMark) (m : RefMark) → IsIn m ms → m.root ≡ r → has f m.provided ≡ true
    → IsTrue true ↔ MarksProvide r f ms
provide_there r f ms m i e h = ((λ t. (m, i, e, has_in f m.provided h)), (λ g. refl))

pub provide_none : (r f : ℕ) (ms : List RefMark) (m : RefMark) → (MarksProvide r f ms → ⊥)
    → (m.root ≡ r → has f m.provided ≡ true → ⊥) → MarksProvide r f (ms ++ m ∷ []) → ⊥
provide_none r f ms m h g (x, i, e, k) = elim (in_push m x ms i) [
  | inl j ↦ h (x, j, e, k)
  | inr z ↦ g (ap (λ (y : RefMark). y.root) (sym z) ∙ e)
      (in_has f m.provided (subst (λ (y : RefMark). IsIn f y.provided) z k))
]
