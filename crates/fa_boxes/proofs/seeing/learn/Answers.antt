use Rattle.std.proofs.Common.{◌<◌}
use Rattle.ta_core.specs.declared.auto.Rule.{Rule}
use Rattle.ta_core.proofs.Rounding.{each_own}
use Rattle.fa_boxes.proofs.seeing.learn.Goals as goal

pub take_all-requires-clause-accepts : goal.take_all-requires-clause-accepts
take_all-requires-clause-accepts c = each_own (λ (r : Rule). r.state < c.args.states) c.args.rules.now c.requires
