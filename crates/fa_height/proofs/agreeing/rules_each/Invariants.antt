use Rattle.std.proofs.Common.{◌≡◌, length}
use Rattle.fa_height.specs.inner.Agreeing.{AreRulesEach}
use Rattle.fa_height.proofs.agreeing.rules_each.Given as goal

abbrev pub invariant-loop-state : goal.invariant-loop-state
invariant-loop-state l = (length l.made ≡ l.state) × AreRulesEach l.rules l.state l.made
