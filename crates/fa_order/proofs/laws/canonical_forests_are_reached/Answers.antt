use Rattle.fa_order.proofs.CanonicalReached.{canonical_reached}
use Rattle.fa_order.proofs.laws.canonical_forests_are_reached.Goals as goal

pub returns : goal.returns
returns c = λ face F can. canonical_reached face F can
