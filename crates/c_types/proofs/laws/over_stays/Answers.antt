use Rattle.c_types.proofs.RunLaws.{run_stays_over}
use Rattle.c_types.proofs.laws.over_stays.Goals as goal

pub returns : goal.returns
returns c = run_stays_over c.args.program.now
