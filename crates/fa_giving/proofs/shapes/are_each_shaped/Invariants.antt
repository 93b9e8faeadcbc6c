use Rattle.std.proofs.Common.{true, ℕ, List, ◌<◌}
use Rattle.ta_core.specs.declared.tree.Tree.{Tree}
use Rattle.fore_base.specs.Lists.{Paired}
use Rattle.fa_giving.specs.inner.Shaped.{IsShapedRoot, AreTopStructs}
use Rattle.fa_giving.specs.inner.Totals.{ForAll}
use Rattle.fa_giving.proofs.shapes.are_each_shaped.Given as goal

abbrev pub invariant-loop-place : goal.invariant-loop-place
invariant-loop-place l = Paired AreTopStructs l.autos l.tops
    × ForAll l.autos (λ (ts : List Tree). (r : ℕ) → r < l.place → IsShapedRoot l.face r ts) true
