use Rattle.std.proofs.Common.{◌<◌, ℕ, List}
use Rattle.ta_core.specs.declared.tree.Tree.{Tree}
use Rattle.fa_core.specs.Filled.{Choice}
use Rattle.fa_part.specs.Ports.{ports_of}
use Rattle.fa_part.specs.inner.Found.{RefersInside}
use Rattle.fa_part.proofs.finding.is_alone.Given as goal

abbrev pub invariant-loop-root : goal.invariant-loop-root
invariant-loop-root l = (ts : List Tree) → Choice l.forest.forest.autos ts → (r : ℕ) → r < l.root
    → RefersInside ts (ports_of l.ports) l.inner r → ⊥
