use Rattle.fa_opening.proofs.Rounds.{choices}
use Rattle.fa_opening.proofs.choosing.ChooseStep.apply.Goals as goal

pub returns-clause-each : goal.returns-clause-each
returns-clause-each c =
    let m = c.in_ok-made.ensures in
    choices c.args.self.now.root c.args.part.now c.in_ok-made.made m.face m.vars m.tops m.regroups
