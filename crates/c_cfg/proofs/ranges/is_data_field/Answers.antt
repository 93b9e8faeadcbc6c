use Rattle.std.proofs.Common.{refl, ap, ◌∙◌}
use Rattle.fore_base.specs.Shapes.{datums_in}
use Rattle.c_cfg.proofs.SomeFields.{data_field_here, data_field_later}
use Rattle.c_cfg.proofs.ranges.is_data_field.Goals as goal

pub returns-then-field-count_datums : goal.returns-then-field-count_datums
returns-then-field-count_datums c =
    let counted = c.count_datums.ensures ∙ ap datums_in c.as_slice.ensures in (
      (λ h. data_field_here c.args.field c.args.structs.now c.loop-shape.shape-index c.shape-item.result
          c.loop-shape-test.true c.shape-item.is (rw counted at c.if-field-count_datums.true)),
      (λ h. refl),
    )

pub loop-shape-preserved : goal.loop-shape-preserved
loop-shape-preserved c =
    let counted = c.count_datums.ensures ∙ ap datums_in c.as_slice.ensures in
    data_field_later c.args.field c.args.structs.now c.loop-shape.shape-index c.shape-item.result c.loop-shape-test.true
    c.shape-item.is (rw counted at c.if-field-count_datums.false) c.loop-shape.invariant
