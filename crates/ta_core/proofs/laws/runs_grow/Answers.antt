use Rattle.ta_core.proofs.Runs.{widened}
use Rattle.ta_core.proofs.laws.runs_grow.Goals as goal

pub returns : goal.returns
returns c = λ few many more q t r. widened few many more r
