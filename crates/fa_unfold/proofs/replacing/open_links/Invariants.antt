use Rattle.std.proofs.Common.{◌≡◌, map, flat_map, take}
use Rattle.fa_unfold.specs.Unfolding.{open_root, with_end, with_inner}
use Rattle.fa_unfold.proofs.replacing.open_links.Given as goal

abbrev pub invariant-loop-rule : goal.invariant-loop-rule
invariant-loop-rule l = l.made
    ≡ flat_map
    (λ z. map (with_inner l.inner)
    (with_end l.boxes (open_root l.boxes l.forest l.root l.place l.input z) l.root l.end l.ends l.output.auto
    l.output.tops)) (take l.rule-index l.rules)
