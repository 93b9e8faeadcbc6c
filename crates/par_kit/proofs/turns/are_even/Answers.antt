use Rattle.fore_base.proofs.ListLemmas.{every_place}
use Rattle.par_kit.proofs.turns.are_even.Goals as goal

pub make_all-made-requires-clause-accepted : goal.make_all-made-requires-clause-accepted
make_all-made-requires-clause-accepted g c κs within = every_place (λ item. Unit {0}) _ 0 (λ place less. tt)

pub first_index-found-requires-clause-accepted : goal.first_index-found-requires-clause-accepted
first_index-found-requires-clause-accepted g c κs within = every_place (λ item. Unit {0}) _ 0 (λ place less. tt)
