use Rattle.std.proofs.Common.{ℕ, List, inl, inr, refl, sym, subst}
use Rattle.std.proofs.lemmas.List.{take_more}
use Rattle.fore_base.specs.Lists.{IsIn}
use Rattle.fore_base.proofs.ListLemmas.{in_append, in_place}
use Rattle.ta_incl.proofs.failing.is_one_of.Goals as goal

pub returns-then-other-state : goal.returns-then-other-state
returns-then-other-state c = (
  λ _. subst (λ (q : ℕ). IsIn q c.args.states.now) c.if-other-state.true
      (in_place c.args.states.now c.loop-other.other-index 0 c.loop-other-test.true),
  λ _. refl,
)

pub loop-other-preserved : goal.loop-other-preserved
loop-other-preserved c =
    let e = take_more c.args.states.now c.loop-other.other-index 0 c.loop-other-test.true in
    λ i. elim (in_append c.args.state _ _ (subst (λ (qs : List ℕ). IsIn c.args.state qs) e i)) [
      | inl k ↦ c.loop-other.invariant k
      | inr (inl k) ↦ c.if-other-state.false (sym k)
      | inr (inr k) ↦ absurd k
    ]
