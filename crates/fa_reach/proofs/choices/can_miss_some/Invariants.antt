use Rattle.std.proofs.Common.{length, ◌-◌}
use Rattle.fore_base.specs.Marks.{marked_count}
use Rattle.fa_reach.specs.inner.Sweeps.{Knows}
use Rattle.fa_reach.proofs.choices.can_miss_some.Given as goal

abbrev pub invariant-roots : goal.invariant-roots
invariant-roots l = Knows l.parts l.from l.known

abbrev pub decreases-roots : goal.decreases-roots
decreases-roots l = length l.known - marked_count l.known
