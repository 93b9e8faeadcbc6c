use Rattle.std.proofs.Common.{◌≡◌, take}
use Rattle.fa_signatures.specs.inner.Telling.{told_states}
use Rattle.fa_signatures.proofs.telling.told_states.Given as goal

abbrev pub invariant-loop-rule : goal.invariant-loop-rule
invariant-loop-rule l = l.told ≡ told_states l.boxes (take l.rule-index l.rules)
