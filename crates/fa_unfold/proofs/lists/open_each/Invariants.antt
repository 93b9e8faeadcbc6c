use Rattle.std.proofs.Common.{◌≡◌, map, take}
use Rattle.fa_unfold.specs.Unfolding.{open_root, with_inner}
use Rattle.fa_unfold.proofs.lists.open_each.Given as goal

abbrev pub invariant-loop-rule : goal.invariant-loop-rule
invariant-loop-rule l = l.made
    ≡ map (λ z. with_inner l.inner (open_root l.boxes l.forest l.root l.place l.port z)) (take l.rule-index l.rules)
