use Rattle.std.proofs.Common.{length, refl, ap, ◌∙◌}
use Rattle.fore_base.specs.Shapes.{targets_in}
use Rattle.c_cfg.proofs.SomeFields.{ptr_field_here, ptr_field_later}
use Rattle.c_cfg.proofs.ranges.is_ptr_field.Goals as goal

pub returns-then-field-count_ptrs : goal.returns-then-field-count_ptrs
returns-then-field-count_ptrs c =
    let counted = c.count_ptrs.ensures ∙ ap (λ fs. length (targets_in fs)) c.as_slice.ensures in (
      (λ h. ptr_field_here c.args.field c.args.structs.now c.loop-shape.shape-index c.shape-item.result
          c.loop-shape-test.true c.shape-item.is (rw counted at c.if-field-count_ptrs.true)),
      (λ h. refl),
    )

pub loop-shape-preserved : goal.loop-shape-preserved
loop-shape-preserved c =
    let counted = c.count_ptrs.ensures ∙ ap (λ fs. length (targets_in fs)) c.as_slice.ensures in
    ptr_field_later c.args.field c.args.structs.now c.loop-shape.shape-index c.shape-item.result c.loop-shape-test.true
    c.shape-item.is (rw counted at c.if-field-count_ptrs.false) c.loop-shape.invariant
