use Rattle.fa_edit.proofs.NewTrees.{blank_ranked}
use Rattle.fa_edit.proofs.cells.blank.Goals as goal

pub invariant_of-result : goal.invariant_of-result
invariant_of-result c = rw (
  c.in_ok-roots.ensures,
  c.in_ok-push-2.ensures.ok,
  c.in_ok-push.ensures.ok,
  c.new-rules.ensures,
  c.in_ok-blank_rule.ensures,
  c.uninit_rule.ensures,
) (blank_ranked c.args.structs.now c.args.shape)
