use Rattle.std.proofs.Common.{◌≡◌, ◌<◌, ◌+◌, ◌-◌, length, get_or, sym, ap, ◌∙◌, arith}
use Rattle.c_types.specs.Program.{Program}
use Rattle.fa_print.specs.Names.{Texts}
use Rattle.fa_print.proofs.NameLemmas.{text_within, text_past}
use Rattle.fa_print.proofs.variables.put_datum_name.Goals as goal

pub returns-then-number-names : goal.returns-then-number-names
returns-then-number-names c =
    let names = c.args.program.now.data_vars in
    let same : c.as_slice-names.result.now ≡ names =
    c.as_slice-names.ensures ∙ ap (λ (p : Program). p.data_vars) c.program.view_is in
    let name = c.index-names-number.result in
    let low : c.args.number < length names = rw same at c.if-number-names.true in
    let is : name ≡ get_or names c.args.number name = rw same at c.index-names-number.is in
    rw (c.as_slice.ensures ∙ is ∙ sym (text_within names c.args.number name low)) at c.put.ensures.ok

pub returns-else-number-names : goal.returns-else-number-names
returns-else-number-names c =
    let names = c.args.program.now.data_vars in
    let same : c.as_slice-names.result.now ≡ names =
    c.as_slice-names.ensures ∙ ap (λ (p : Program). p.data_vars) c.program.view_is in
    let left = c.args.number - length c.as_slice-names.result.now in
    let is : c.args.number ≡ length names + left =
    omega (arith, c.if-number-names.false, ap (λ (xs : Texts). length xs) same) in
    rw (sym (text_past names c.args.number left is)) at c.put_temporary.ensures
