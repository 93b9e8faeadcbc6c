use Rattle.std.proofs.Common.{◌≡◌, List, ◌<◌, ◌+◌, ◌-◌, length, get_or, sym, ap, ◌∙◌, arith}
use Rattle.c_types.specs.Program.{Program}
use Rattle.c_types.specs.declared.program.VarDef.{VarDef}
use Rattle.fa_print.proofs.NameLemmas.{variable_within, variable_past}
use Rattle.fa_print.proofs.variables.put_pointer_name.Goals as goal

pub returns-then-number-vars : goal.returns-then-number-vars
returns-then-number-vars c =
    let vars = c.args.program.now.vars in
    let same : c.as_slice-vars.result.now ≡ vars =
    c.as_slice-vars.ensures ∙ ap (λ (p : Program). p.vars) c.program.view_is in
    let var = c.index-vars-number.result in
    let low : c.args.number < length vars = rw same at c.if-number-vars.true in
    rw (c.as_slice.ensures ∙ ap (λ xs. (get_or xs c.args.number var).name) same
    ∙ sym (variable_within (λ v. v.name) vars c.args.number var low)) at c.put.ensures.ok

pub returns-else-number-vars : goal.returns-else-number-vars
returns-else-number-vars c =
    let vars = c.args.program.now.vars in
    let same : c.as_slice-vars.result.now ≡ vars =
    c.as_slice-vars.ensures ∙ ap (λ (p : Program). p.vars) c.program.view_is in
    let left = c.args.number - length c.as_slice-vars.result.now in
    let is : c.args.number ≡ length vars + left =
    omega (arith, c.if-number-vars.false, ap (λ (xs : List VarDef). length xs) same) in
    rw (sym (variable_past (λ v. v.name) vars c.args.number left is)) at c.put_temporary.ensures
