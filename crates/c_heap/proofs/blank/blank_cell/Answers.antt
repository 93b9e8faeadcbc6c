use Rattle.std.proofs.Common.{◌≡◌, ◌-◌, ℕ, List, length, sym, ap, ◌∙◌, arith}
use Rattle.std.specs.Prelude.{replicate}
use Rattle.fore_base.specs.declared.store.Value.{Value}
use Rattle.fore_base.specs.declared.store.Value.TheVariants.{Uninit}
use Rattle.fore_base.specs.declared.store.Datum.{Datum}
use Rattle.fore_base.specs.declared.store.Datum.TheVariants.{Undefined}
use Rattle.fore_base.specs.Shapes.{targets_in, datums_in, targets_of, datums_of}
use Rattle.fore_base.specs.Shapes.{fields_at}
use Rattle.fore_base.proofs.ShapeLemmas.{targets_there, datums_there}
use Rattle.c_heap.proofs.blank.blank_cell.Goals as goal

pub returns : goal.returns
returns c =
    let shapes = c.args.shapes.now in
    let shape = c.args.shape in
    let kinds : c.fields_of-kinds.result.now ≡ fields_at shapes shape = c.fields_of-kinds.ensures in
    let pointers : c.pointers_in.result ≡ length (targets_of shapes shape) =
    c.pointers_in.ensures.pointers ∙ ap (λ fs. length (targets_in fs)) kinds
    ∙ ap (λ (ts : List ℕ). length ts) (sym (targets_there shapes shape)) in
    let others : length c.fields_of-kinds.result.now - c.pointers_in-2.result ≡ datums_in c.fields_of-kinds.result.now =
    omega (arith, c.pointers_in-2.ensures.pointers, c.pointers_in-2.ensures.datums) in
    let datums : length c.fields_of-kinds.result.now - c.pointers_in-2.result ≡ datums_of shapes shape =
    others ∙ ap datums_in kinds ∙ sym (datums_there shapes shape) in
    let fields_is : c.in_ok-fields.fields ≡ replicate (length (targets_of shapes shape)) Uninit = c.in_ok-fields.ensures
    ∙ ap (λ n. replicate n Uninit) pointers in
    let datums_is : c.in_ok-datums.datums ≡ replicate (datums_of shapes shape) Undefined = c.in_ok-datums.ensures
    ∙ ap (λ n. replicate n Undefined) datums in
    ap (λ (fs : List Value).
    record { number = c.args.number; shape = shape; datums = c.in_ok-datums.datums; fields = fs }) fields_is
    ∙ ap (λ (ds : List Datum).
    record {
      number = c.args.number;
      shape = shape;
      datums = ds;
      fields = replicate (length (targets_of shapes shape)) Uninit;
    }) datums_is
