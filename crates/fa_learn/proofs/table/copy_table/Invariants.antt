use Rattle.fa_learn.specs.inner.Copied.{HasFirst}
use Rattle.fa_learn.proofs.table.copy_table.Given as goal

abbrev pub invariant-loop-box_no : goal.invariant-loop-box_no
invariant-loop-box_no l = HasFirst l.table l.box_no l.made
