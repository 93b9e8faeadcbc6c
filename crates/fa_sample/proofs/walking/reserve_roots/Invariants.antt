use Rattle.std.proofs.Common.{◌≡◌, ◌++◌, drop, suc, length}
use Rattle.fa_sample.specs.inner.Dressing.{root_values}
use Rattle.fa_sample.specs.inner.Walk.{roots_reserved}
use Rattle.fa_sample.proofs.walking.reserve_roots.Given as goal

abbrev pub invariant-loop-tree : goal.invariant-loop-tree
invariant-loop-tree l =
    (l.values ++ root_values l.ports (drop l.tree-index l.trees) (suc (length l.drafts))
    ≡ root_values l.initial.ports l.trees (suc (length l.initial.drafts)))
    × (roots_reserved l.ports (drop l.tree-index l.trees) l.drafts
    ≡ roots_reserved l.initial.ports l.trees l.initial.drafts)
