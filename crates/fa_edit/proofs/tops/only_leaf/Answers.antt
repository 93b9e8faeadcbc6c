use Rattle.fa_edit.proofs.PlainFields.{only_read, only_there}
use Rattle.fa_edit.proofs.tops.only_leaf.Goals as goal

pub returns : goal.returns
returns c = only_read c.args.rules.now c.args.state c.in-Some.rule.now c.target_of.result c.in-Some.ensures.0
    c.in-Some.ensures.1 c.target_of.ensures c.requires

pub unreachable-requires : goal.unreachable-requires
unreachable-requires c = only_there c.args.rules.now c.args.state c.requires c.in-None.ensures
