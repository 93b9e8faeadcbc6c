use Rattle.ta_incl.proofs.Upward.{equal_order}
use Rattle.ta_incl.proofs.order.equality.Goals as goal

pub returns : goal.returns
returns c a b = record { left = equal_order a; right = equal_order b }
