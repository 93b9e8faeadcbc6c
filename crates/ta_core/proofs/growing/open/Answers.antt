use Rattle.ta_core.proofs.Smaller.{rule_there}
use Rattle.ta_core.proofs.growing.open.Goals as goal

pub unreachable-requires : goal.unreachable-requires
unreachable-requires c =
    rule_there c.args.rules.now c.args.sizes.now c.args.state c.requires.least c.requires.there c.in-None.ensures
