use Rattle.fa_edit.proofs.DatumTrees.{dated_ranked}
use Rattle.fa_edit.proofs.data.dated.Goals as goal

pub invariant_of-result : goal.invariant_of-result
invariant_of-result c = rw (
  c.in_ok-states.ensures,
  c.in_ok-roots.ensures,
  c.in_ok-push.ensures.ok,
  c.in_ok-rules.ensures,
  c.in_ok-rule_with.ensures,
  c.rule_at_top.ensures,
  c.states_of.ensures,
  c.states_of-2.ensures,
)
    (dated_ranked c.args.auto.now c.known.ensures c.requires c.args.field c.args.datum)
