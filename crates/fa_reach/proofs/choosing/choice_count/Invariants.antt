use Rattle.std.proofs.Common.{◌≡◌, ◌*◌, drop}
use Rattle.fa_reach.specs.inner.Parts.{choice_count}
use Rattle.fa_reach.proofs.choosing.choice_count.Given as goal

abbrev pub invariant-loop-parts : goal.invariant-loop-parts
invariant-loop-parts l = l.count * choice_count (drop l.parts-index l.all) ≡ choice_count l.all
