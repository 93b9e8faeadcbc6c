use Rattle.c_types.proofs.ChoiceLaws.{run_starved}
use Rattle.c_types.proofs.laws.starved_where_needed.Goals as goal

pub returns : goal.returns
returns c = run_starved c.args.program.now
