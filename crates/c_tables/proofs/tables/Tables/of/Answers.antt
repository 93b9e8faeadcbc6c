use Rattle.std.proofs.Common.{◌≡◌, ap, sym, ◌∙◌, map}
use Rattle.std.proofs.lemmas.Result.{IfOk-at_ok}
use Rattle.c_typing.specs.Globals.{function_heads, function_of, main_head, maybe_function_of, struct_name}
use Rattle.c_defined.specs.Defined.{Defined}
use Rattle.c_tables.proofs.GlobalLemmas.{from_parts}
use Rattle.c_tables.proofs.tables.Tables.of.Goals as goal

pub returns : goal.returns
returns c =
    let items = c.args.items.now in
    let names = c.struct_names.result.now in
    let heads = c.in_ok-definitions-2.heads in
    let kept = c.in_ok-definitions-2.ensures.ok.0 in
    let made = c.in_ok-definitions-2.ensures.ok.1 in
    from_parts items c.in_ok-definitions-2.definitions names heads.functions heads.main c.in_ok-calls.calls
    (ap (λ (d : Defined). d.structs) kept ∙ c.in_ok-definitions.ensures.structs)
    (ap (λ (d : Defined). d.enums) kept ∙ c.in_ok-definitions.ensures.enums)
    (ap (λ (d : Defined). d.values) kept ∙ c.in_ok-definitions.ensures.values)
    (c.struct_names.ensures ∙ ap (λ (d : Defined). map struct_name d.structs) (sym kept))
    (IfOk-at_ok (λ h. h.functions ≡ map (function_of names) (function_heads items)) made c.of-heads.ensures.functions)
    (IfOk-at_ok (λ h. h.main ≡ maybe_function_of names (main_head items)) made c.of-heads.ensures.main)
    c.in_ok-calls.ensures
