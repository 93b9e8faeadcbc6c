use Rattle.std.proofs.Common.{ℕ, Bool, Some, None, cond, length, sym, ap, ◌∙◌}
use Rattle.c_functions.proofs.recursion.number_of_main.Goals as goal

pub returns-then-is_main_name : goal.returns-then-is_main_name
returns-then-is_main_name c =
    ap (λ (n : ℕ). Some n) c.main_number.ensures
    ∙ sym (ap (λ (b : Bool). cond b (Some (length c.args.tables.now.functions)) None)
    (sym c.is_main_name.ensures ∙ c.if-is_main_name.true))

pub returns : goal.returns
returns c =
    sym (ap (λ (b : Bool). cond b (Some (length c.args.tables.now.functions)) None)
    (sym c.is_main_name.ensures ∙ c.if-is_main_name.false))
