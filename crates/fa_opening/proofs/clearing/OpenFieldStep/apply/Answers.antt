use Rattle.std.proofs.Common.{sym, subst}
use Rattle.fa_core.specs.declared.faces.Face.{Face}
use Rattle.fa_sound.specs.Unions.{forests}
use Rattle.fa_opening.specs.Opened.{IsThatField, OpensInto}
use Rattle.fa_opening.proofs.ClearedCells.{opened_parts}
use Rattle.fa_opening.proofs.clearing.OpenFieldStep.apply.Goals as goal

pub open_edges-requires-clause-face : goal.open_edges-requires-clause-face
open_edges-requires-clause-face c = c.requires.face

pub open_edges-requires-clause-target : goal.open_edges-requires-clause-target
open_edges-requires-clause-target c = c.requires.target

pub returns-clause-each : goal.returns-clause-each
returns-clause-each c =
    let s = c.args.self.now in
    let m = c.in_ok-made.ensures in
    opened_parts s.table.now s.root s.field c.args.part.now c.requires.face c.in_ok-made.made
    (rw c.as_slice.ensures at c.known_each.ensures) m.bared m.face m.vars m.stays m.each

pub returns-clause-whole : goal.returns-clause-whole
returns-clause-whole c =
    let s = c.args.self.now in
    subst
    (λ (x : Face). OpensInto x.boxes s.table.now.defs s.root (IsThatField s.field) c.args.part.now.forest
    (forests c.in_ok-made.made)) (sym c.requires.face) c.in_ok-made.ensures.whole
