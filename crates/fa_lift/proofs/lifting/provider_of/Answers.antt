use Rattle.fa_lift.proofs.lifting.provider_of.Goals as goal

pub unreachable-requires : goal.unreachable-requires
unreachable-requires c = (let none = rw c.in-None.is at c.in_ok-from.ensures in none c.requires.0 c.requires.1)
