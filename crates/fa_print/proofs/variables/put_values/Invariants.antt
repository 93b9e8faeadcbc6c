use Rattle.std.proofs.Common.{◌≡◌, ◌++◌, drop}
use Rattle.fa_print.specs.Names.{pointer_variables}
use Rattle.fa_print.specs.Texts.{value_lines}
use Rattle.fa_print.proofs.variables.put_values.Given as goal

abbrev pub invariant-loop-i : goal.invariant-loop-i
invariant-loop-i l =
    l.text ++ value_lines (pointer_variables l.program) l.i (drop l.i l.values)
    ≡ l.initial.text ++ value_lines (pointer_variables l.program) 0 l.values
