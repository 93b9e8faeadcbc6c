use Rattle.std.proofs.Common.{◌≡◌, ◌++◌, drop}
use Rattle.fa_print.specs.Names.{pointer_variables}
use Rattle.fa_print.specs.Texts.{target_lines}
use Rattle.fa_print.proofs.variables.put_targets.Given as goal

abbrev pub invariant-loop-i : goal.invariant-loop-i
invariant-loop-i l =
    l.text ++ target_lines (pointer_variables l.program) l.i (drop l.i l.targets)
    ≡ l.initial.text ++ target_lines (pointer_variables l.program) 0 l.targets
