use Rattle.fa_split.proofs.LiftedTrees.{lifted_ranked}
use Rattle.fa_split.proofs.topping.lift_cells.Goals as goal

pub invariant_of-result : goal.invariant_of-result
invariant_of-result c = rw (
  c.in_ok-states.ensures,
  c.in_ok-roots.ensures,
  c.in_ok-append.ensures.ok,
  c.in_ok-rules.ensures,
  c.in_ok-more.ensures,
  c.rules_of.ensures,
  c.states_of.ensures,
  c.states_of-2.ensures,
)
    (lifted_ranked c.args.auto.now c.args.state c.known.ensures)
