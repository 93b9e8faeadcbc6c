use Rattle.std.proofs.Common.{◌≡◌, ◌++◌, drop}
use Rattle.fa_print.specs.Lines.{lines_text, parts_lines}
use Rattle.fa_print.proofs.components.put_components.Given as goal

abbrev pub invariant-loop-i : goal.invariant-loop-i
invariant-loop-i l =
    l.text ++ lines_text (parts_lines l.table l.i (drop l.i l.autos))
    ≡ l.initial.text ++ lines_text (parts_lines l.table 0 l.autos)
