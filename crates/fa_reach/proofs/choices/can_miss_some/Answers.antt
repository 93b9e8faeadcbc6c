use Rattle.fa_reach.proofs.Known.{knows_first}
use Rattle.fa_reach.proofs.choices.can_miss_some.Goals as goal

pub roots-init : goal.roots-init
roots-init c = rw (c.in_ok-known.ensures) (knows_first c.args.parts.now c.args.from c.requires.from)
