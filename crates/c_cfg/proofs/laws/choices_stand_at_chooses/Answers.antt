use Rattle.c_cfg.proofs.ItsChoices.{stand_at_chooses}
use Rattle.c_cfg.proofs.laws.choices_stand_at_chooses.Goals as goal

pub returns : goal.returns
returns c = stand_at_chooses c.args.program.now c.args.graph.now
