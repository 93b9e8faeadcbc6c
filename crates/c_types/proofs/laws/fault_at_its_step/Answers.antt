use Rattle.c_types.proofs.RunLaws.{run_met_at}
use Rattle.c_types.proofs.laws.fault_at_its_step.Goals as goal

pub returns : goal.returns
returns c = run_met_at c.args.program.now
