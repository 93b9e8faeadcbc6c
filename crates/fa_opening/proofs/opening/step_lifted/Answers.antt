use Rattle.std.proofs.Common.{subst}
use Rattle.fa_core.specs.declared.faces.Face.{Face}
use Rattle.fa_opening.specs.Opened.{IsBared}
use Rattle.fa_opening.proofs.PlainForests.{none_provides}
use Rattle.fa_opening.proofs.Rounds.{lifted_lowered, lifted_whole, parts_give, stepped}
use Rattle.fa_opening.proofs.opening.step_lifted.Goals as goal

pub on_each-requires : goal.on_each-requires
on_each-requires c =
    let at = c.requires.ready.at in
    let m = c.in_ok-lifted.ensures in
    rw c.as_slice.ensures
    (parts_give c.args.table.now c.args.root c.args.field c.args.forest.now at.face c.known.ensures at.target
    c.in_ok-lifted.lifted m.face m.vars m.lifted.0 m.lifted.1 m.lifted.2)

pub returns-clause-each : goal.returns-clause-each
returns-clause-each c =
    let s = c.args.forest.now in
    let at = c.requires.ready.at in
    let m = c.in_ok-lifted.ensures in
    stepped c.args.table.now c.args.root c.args.field s.forest
    (λ b. (subst (λ (x : Face). IsBared x.boxes c.args.root c.args.field s.forest) at.face b).given c.requires.given.0
    c.requires.given.1)
    c.in_ok-made.made
    (lifted_lowered c.args.table.now c.args.root c.args.field s at.face c.known.ensures at.target
    c.in_ok-lifted.lifted m.face m.vars
    (λ plain. none_provides s.forest plain s.face.boxes c.args.root c.args.field c.requires.given.0 c.requires.given.1)
    (m.regroups c.args.table.now.defs) c.in_ok-made.made
    (rw c.as_slice.ensures at c.in_ok-made.ensures.each))

pub returns-clause-whole : goal.returns-clause-whole
returns-clause-whole c =
    let s = c.args.forest.now in
    let at = c.requires.ready.at in
    let m = c.in_ok-lifted.ensures in
    lifted_whole c.args.table.now c.args.root c.args.field s at.face c.known.ensures at.target
    c.in_ok-lifted.lifted m.face m.vars (m.whole c.args.table.now.defs) c.in_ok-made.made
    (rw c.as_slice.ensures at c.in_ok-made.ensures.whole)
