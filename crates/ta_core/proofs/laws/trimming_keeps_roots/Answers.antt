use Rattle.ta_core.proofs.Shifting.{root_runs}
use Rattle.ta_core.proofs.laws.trimming_keeps_roots.Goals as goal

pub returns : goal.returns
returns c = root_runs
