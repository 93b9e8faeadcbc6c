use Rattle.par_kit.proofs.turns.rows_are_even.Goals as goal

pub fill_rows-requires-clause-accepted : goal.fill_rows-requires-clause-accepted
fill_rows-requires-clause-accepted g c κs within = λ k less. tt
