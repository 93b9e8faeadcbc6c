use Rattle.std.proofs.lemmas.Result.{IfOk-weaker, IfErr-weaker}
use Rattle.fa_box_rules.specs.Rules.{IsUnbroken}
use Rattle.fa_faces.specs.Faults.{box_inside, IsFaultOf}
use Rattle.fa_faces.proofs.Carried.{unbroken_written, fault_written}
use Rattle.fa_faces.proofs.Firsts.{trimmed_ready}
use Rattle.fa_faces.proofs.Trimmed.{full_trimmed}
use Rattle.fa_faces.proofs.face.decided.Goals as goal

pub trimmed_face-requires : goal.trimmed_face-requires
trimmed_face-requires c =
    let full = rw c.as_slice.ensures at c.in_ok-is_some_empty.ensures.full c.if-branch.false in
    let made = rw c.as_slice-2.ensures at c.in_ok-trimmed.ensures in
    rw c.as_slice-3.ensures
    (trimmed_ready c.args.table.now.face c.args.table.now.defs c.args.input c.args.output c.args.inside.now.autos
    c.in_ok-trimmed.trimmed made c.requires.named full c.requires.count)

pub returns-clause-face : goal.returns-clause-face
returns-clause-face c =
    let full = rw c.as_slice.ensures at c.in_ok-is_some_empty.ensures.full c.if-branch.false in
    let made = rw c.as_slice-2.ensures at c.in_ok-trimmed.ensures in
    let told = rw c.as_slice-3.ensures at c.trimmed_face.ensures.face in
    IfOk-weaker c.trimmed_face.result
    (IsUnbroken c.args.table.now.face c.args.table.now.defs
    (box_inside c.args.input c.args.output c.in_ok-trimmed.trimmed))
    (IsUnbroken c.args.table.now.face c.args.table.now.defs
    (box_inside c.args.input c.args.output c.args.inside.now.autos))
    (unbroken_written c.args.table.now.face c.args.table.now.defs c.args.input c.args.output c.args.inside.now.autos
    c.in_ok-trimmed.trimmed made full) told

pub returns-clause-breaks : goal.returns-clause-breaks
returns-clause-breaks c =
    let full = rw c.as_slice.ensures at c.in_ok-is_some_empty.ensures.full c.if-branch.false in
    let made = rw c.as_slice-2.ensures at c.in_ok-trimmed.ensures in
    let told = rw c.as_slice-3.ensures at c.trimmed_face.ensures.breaks in
    IfErr-weaker c.trimmed_face.result
    (IsFaultOf c.args.table.now.face c.args.table.now.defs
    (box_inside c.args.input c.args.output c.in_ok-trimmed.trimmed))
    (IsFaultOf c.args.table.now.face c.args.table.now.defs
    (box_inside c.args.input c.args.output c.args.inside.now.autos))
    (fault_written c.args.table.now.face c.args.table.now.defs c.args.input c.args.output c.args.inside.now.autos
    c.in_ok-trimmed.trimmed made full (full_trimmed c.args.inside.now.autos c.in_ok-trimmed.trimmed made full)) told
