use Rattle.fore_base.proofs.NameLemmas.{in_at, number_of_added}
use Rattle.fore_base.proofs.names.Names.number.Goals as goal

pub returns-in-Some-clause-added : goal.returns-in-Some-clause-added
returns-in-Some-clause-added c =
    λ absent. absurd (absent (in_at c.args.self.now c.in-Some.number c.args.text.now c.in-Some.ensures))

pub returns-in-None-clause-number : goal.returns-in-None-clause-number
returns-in-None-clause-number c =
    number_of_added c.add.result c.args.self.now c.add.new.self c.args.text.now c.add.ensures.number c.add.ensures.ok
