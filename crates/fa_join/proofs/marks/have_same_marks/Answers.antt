use Rattle.std.proofs.Common.{sym, subst}
use Rattle.fa_core.specs.declared.faces.Face.{Face}
use Rattle.fa_sound.specs.Components.{component_at}
use Rattle.fa_split.specs.Marks.{HasMarks}
use Rattle.fa_split.specs.Split.{child_state}
use Rattle.fa_join.proofs.Children.{marks_decide}
use Rattle.fa_join.proofs.marks.have_same_marks.Goals as goal

pub returns : goal.returns
returns c =
    let r = c.args.root in
    let p = c.args.child in
    let a = component_at c.args.left.now.forest.autos r in
    let b = component_at c.args.right.now.forest.autos r in
    let second = subst (λ (f : Face). HasMarks f.boxes b (child_state b p) c.child_marks-second.result.now)
    (sym c.requires.face) c.child_marks-second.ensures in
    let d = marks_decide c.args.left.now.face.boxes a b (child_state a p) (child_state b p)
    c.child_marks-first.result.now c.child_marks-second.result.now c.child_marks-first.ensures second in
    ((λ t. d.0 (c.are_same.ensures.0 t)), (λ h. c.are_same.ensures.1 (d.1 h)))
