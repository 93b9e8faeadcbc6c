use Rattle.std.proofs.Common.{sym, subst}
use Rattle.fa_core.specs.declared.faces.Face.{Face}
use Rattle.fa_opening.specs.Opened.{IsBared}
use Rattle.fa_opening.proofs.Rounds.{stays_bared, stays_whole}
use Rattle.fa_opening.proofs.opening.step_bared.Goals as goal

pub returns-clause-each : goal.returns-clause-each
returns-clause-each c =
    let s = c.args.forest.now in
    rw c.in_ok-made.ensures
    (stays_bared c.args._table.now c.args._root c.args._field s c.requires.ready
    (subst (λ (x : Face). IsBared x.boxes c.args._root c.args._field s.forest) (sym c.requires.ready.at.face)
    c.requires.bared))

pub returns-clause-whole : goal.returns-clause-whole
returns-clause-whole c =
    rw c.in_ok-made.ensures (stays_whole c.args._table.now c.args._root c.args._field c.args.forest.now)
