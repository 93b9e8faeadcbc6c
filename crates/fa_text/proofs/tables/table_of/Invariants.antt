use Rattle.fa_text.specs.inner.Next.{IsMade}
use Rattle.fa_text.proofs.tables.table_of.Given as goal

abbrev pub invariant-loop-i : goal.invariant-loop-i
invariant-loop-i l = IsMade l.shapes l.named l.i l.table
