use Rattle.c_check.proofs.AnswerLemmas.{types_all, finds_all}
use Rattle.c_check.proofs.units.check.Goals as goal

pub returns-clause-types : goal.returns-clause-types
returns-clause-types c = types_all c.args.unit.now c.answer.result c.answer.ensures.ok c.answer.ensures.err

pub returns-clause-finds : goal.returns-clause-finds
returns-clause-finds c = finds_all c.args.unit.now c.answer.result c.answer.ensures.ok c.answer.ensures.err
