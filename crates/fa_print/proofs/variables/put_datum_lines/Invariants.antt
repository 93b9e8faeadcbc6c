use Rattle.std.proofs.Common.{◌≡◌, ◌++◌, drop}
use Rattle.fa_print.specs.Texts.{datum_lines}
use Rattle.fa_print.proofs.variables.put_datum_lines.Given as goal

abbrev pub invariant-loop-i : goal.invariant-loop-i
invariant-loop-i l =
    l.text ++ datum_lines l.program.data_vars l.i (drop l.i l.datums)
    ≡ l.initial.text ++ datum_lines l.program.data_vars 0 l.datums
