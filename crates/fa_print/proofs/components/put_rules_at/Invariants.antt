use Rattle.std.proofs.Common.{◌≡◌, ◌++◌, take}
use Rattle.fa_print.specs.inner.Putting.{rules_text_at}
use Rattle.fa_print.proofs.components.put_rules_at.Given as goal

abbrev pub invariant-loop-place : goal.invariant-loop-place
invariant-loop-place l = l.text ≡ l.initial.text ++ rules_text_at l.table l.rules (take l.place-index l.places)
