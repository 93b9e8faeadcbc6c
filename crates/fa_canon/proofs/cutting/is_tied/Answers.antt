use Rattle.std.proofs.Common.{◌≡◌, ◌∙◌, sym}
use Rattle.fa_split.specs.Split.{child_state, top_rule}
use Rattle.fa_canon.specs.inner.Cutting.{has_field_at}
use Rattle.fa_sound.specs.Components.{component_at}
use Rattle.fa_canon.proofs.KnotSteps.{knot_or_not, no_knot}
use Rattle.fa_canon.proofs.cutting.is_tied.Goals as goal

pub component-requires : goal.component-requires
component-requires c = rw c.forest.ensures c.requires.root

pub has_field_at-is_field-requires : goal.has_field_at-is_field-requires
has_field_at-is_field-requires c = rw (c.component.ensures, c.forest.ensures) c.requires.top

pub returns-then-is_field : goal.returns-then-is_field
returns-then-is_field c =
    let a = component_at c.args.forest.now.forest.autos c.args.root in
    let e : c.has_field_at-is_field.result ≡ has_field_at (top_rule a).symbol c.args.place =
    rw (c.component.ensures, c.forest.ensures) at c.has_field_at-is_field.ensures in
    knot_or_not c.args.forest.now.face.boxes a (child_state a c.args.place) c.args.root c.child_marks.result.now
    c.child_marks.ensures.each (has_field_at (top_rule a).symbol c.args.place) c.is_marked_root-is_named.result
    (sym e ∙ c.if-is_field.true) c.is_marked_root-is_named.ensures

pub returns-else-is_field : goal.returns-else-is_field
returns-else-is_field c =
    let a = component_at c.args.forest.now.forest.autos c.args.root in
    let e : c.has_field_at-is_field.result ≡ has_field_at (top_rule a).symbol c.args.place =
    rw (c.component.ensures, c.forest.ensures) at c.has_field_at-is_field.ensures in
    no_knot c.args.forest.now.face.boxes a (child_state a c.args.place) c.args.root c.child_marks.result.now
    c.child_marks.ensures.each (has_field_at (top_rule a).symbol c.args.place) c.has_field_at-is_field.result e
    c.if-is_field.false
