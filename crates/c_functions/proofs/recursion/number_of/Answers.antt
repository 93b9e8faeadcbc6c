use Rattle.std.proofs.Common.{ℕ, Some, None, cond, codes, map, sym, ap, ◌∙◌}
use Rattle.std.proofs.lemmas.List.{length-map}
use Rattle.c_typing.specs.Globals.{function_name}
use Rattle.c_typing.specs.Texts.{same}
use Rattle.c_functions.proofs.NumberLemmas.{number_first, number_later}
use Rattle.c_functions.proofs.recursion.number_of.Goals as goal

pub returns-in-Some : goal.returns-in-Some
returns-in-Some c =
    sym (number_first c.args.name.now (codes "main") (map function_name c.args.tables.now.functions) c.in-Some.number
    (sym c.in-Some.ensures))

pub returns-in-None : goal.returns-in-None
returns-in-None c =
    let x = c.args.name.now in
    let fs = c.args.tables.now.functions in
    c.number_of_main.ensures
    ∙ ap (λ (n : ℕ). cond (same x (codes "main")) (Some n) None) (sym (length-map fs function_name))
    ∙ sym (number_later x (codes "main") (map function_name fs) (sym c.in-None.ensures))
