use Rattle.room_forests.proofs.canonizing.canonical_of.Goals as goal

pub canonical-requires-clause-reached : goal.canonical-requires-clause-reached
canonical-requires-clause-reached g c κs within = rw c.in-None.is at c.in_ok-leak.ensures.root
