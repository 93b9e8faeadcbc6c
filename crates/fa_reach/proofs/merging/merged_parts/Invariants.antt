use Rattle.std.proofs.Common.{◌≡◌, ◌++◌, drop, map}
use Rattle.fa_reach.specs.inner.Going.{merged}
use Rattle.fa_reach.proofs.merging.merged_parts.Given as goal

abbrev pub invariant-loop-part : goal.invariant-loop-part
invariant-loop-part l = l.all ++ map merged (drop l.part-index l.parts) ≡ map merged l.parts
