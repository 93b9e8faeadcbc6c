use Rattle.std.proofs.Common.{List, Option, [], map, sym, ap, ◌∙◌}
use Rattle.c_typing.specs.ItemSites.{result_sites}
use Rattle.c_typing.specs.Scopes.{Var, declared_so_far, innermost, var_name}
use Rattle.c_typing.specs.Sites.{Defines}
use Rattle.c_typing.specs.declared.meaning.Family.TheVariants.{Variable}
use Rattle.c_typing.specs.declared.meaning.Kind.{Kind}
use Rattle.c_expressions.specs.Meeting.{met, noted}
use Rattle.c_expressions.proofs.MeetingLemmas.{met-one}
use Rattle.c_check.proofs.functions.result_faults.Goals as goal

pub returns-in-Some : goal.returns-in-Some
returns-in-Some c =
    let g = c.args.tables.now in
    let f0 = c.args.found.now in
    let name = c.args.name.now in
    let scope = c.args.scope.now in
    c.defines_variable.ensures
    ∙ ap
    (λ (bs : List (List Var)). noted g f0 (Defines Variable name (map var_name (innermost bs)) (declared_so_far scope)))
    c.requires
    ∙ sym (met-one g f0 (Defines Variable name [] (declared_so_far scope)))
    ∙ ap (λ (k : Option Kind). met g f0 (result_sites k name scope)) (sym c.in-Some.is)
