use Rattle.fa_split.proofs.topping.alone.Goals as goal

pub invariant_of-result : goal.invariant_of-result
invariant_of-result c = rw (
  c.in_ok-states.ensures,
  c.in_ok-roots.ensures,
  c.in_ok-push.ensures.ok,
  c.in_ok-rules.ensures,
  c.in_ok-rule_at.ensures,
  c.states_of.ensures,
  c.states_of-2.ensures,
) c.requires
