use Rattle.fa_split.proofs.ChildStates.{child_below}
use Rattle.fa_join.proofs.JoinedAutos.{joined_ranked}
use Rattle.fa_join.proofs.autos.join_autos.Goals as goal

pub more_rules-requires-clause-right_place : goal.more_rules-requires-clause-right_place
more_rules-requires-clause-right_place c =
    child_below c.args.right.now c.args.place c.known-2.ensures c.requires.right c.requires.right_place

pub invariant_of-result : goal.invariant_of-result
invariant_of-result c =
    rw (
      c.in_ok-states.ensures,
      c.in_ok-roots.ensures,
      c.in_ok-count.ensures,
      c.states_of.ensures,
      c.in_ok-append.ensures.ok,
      c.in_ok-rules.ensures,
      c.in_ok-more_rules.ensures,
      c.in_ok-both.ensures.value,
    )
    (joined_ranked c.args.left.now c.args.right.now c.args.place c.known.ensures c.known-2.ensures c.requires.left)
