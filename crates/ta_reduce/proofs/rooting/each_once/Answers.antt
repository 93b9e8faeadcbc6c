use Rattle.std.proofs.Common.{◌↔◌, ℕ, List, get_or, sym, subst}
use Rattle.std.proofs.lemmas.List.{take_all}
use Rattle.std.proofs.lemmas.Grind.{get_or_default_zero}
use Rattle.fore_base.specs.Lists.{IsIn}
use Rattle.ta_reduce.proofs.Once.{same_taken}
use Rattle.ta_reduce.proofs.rooting.each_once.Goals as goal

pub loop-state-preserved : goal.loop-state-preserved
loop-state-preserved c =
    let x = get_or c.args.states.now c.loop-state.state-index 0 in (
      c.in_ok-add_once.ensures.once,
      same_taken c.loop-state.made c.add_once.new.made c.args.states.now c.loop-state.state-index x
          c.loop-state-test.true
          (sym (get_or_default_zero c.args.states.now c.loop-state.state-index x c.loop-state-test.true))
          c.loop-state.invariant.1 c.in_ok-add_once.ensures.same,
    )

pub returns-clause-same : goal.returns-clause-same
returns-clause-same c = λ q.
    subst (λ (xs : List ℕ). IsIn q c.loop-state.made ↔ IsIn q xs)
    (take_all c.loop-state.state-index c.args.states.now c.loop-state-test.false) (c.loop-state.invariant.1 q)
