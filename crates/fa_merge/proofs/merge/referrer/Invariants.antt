use Rattle.std.proofs.Common.{ℕ, ◌<◌}
use Rattle.fa_sound.specs.Components.{component_at}
use Rattle.fa_merge.specs.inner.Lone.{NoneRefer}
use Rattle.fa_merge.proofs.merge.referrer.Given as goal

abbrev pub invariant-loop-other : goal.invariant-loop-other
invariant-loop-other l = (k : ℕ) → k < l.other → NoneRefer (component_at l.forest.forest.autos k) l.root
