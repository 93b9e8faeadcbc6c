use Rattle.room_forests.proofs.placing.place.Goals as goal

pub place_roots-requires-clause-reached : goal.place_roots-requires-clause-reached
place_roots-requires-clause-reached c = rw c.in-None.is at c.in_ok-leak.ensures.root
