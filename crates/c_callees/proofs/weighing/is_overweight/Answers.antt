use Rattle.std.proofs.Common.{ap, ◌∙◌}
use Rattle.std.proofs.Math.Dec.{ltb}
use Rattle.c_typing.specs.Weights.{main_weight}
use Rattle.c_typing.specs.declared.limits.TheConstants.{WEIGHT}
use Rattle.c_callees.proofs.WeightLemmas.{cut_above}
use Rattle.c_callees.proofs.weighing.is_overweight.Goals as goal

pub returns : goal.returns
returns c = ap (ltb WEIGHT) c.in_ok-weight.ensures ∙ cut_above (main_weight c.args.items.now) WEIGHT
