use Rattle.c_types.proofs.ChoiceLaws.{run_more}
use Rattle.c_types.proofs.laws.more_choices_are_ignored.Goals as goal

pub returns : goal.returns
returns c = run_more c.args.program.now
