-- The references to a root among the trees of a dressed forest are counted on the dressed forest.
use Rattle.std.proofs.Common.{◌≡◌, ℕ, ◌+◌, length, flat_map, refl, sym, ap, ap₂, ◌∙◌, length-append}
use Rattle.fa_core.specs.Canonical.{references}
use Rattle.fa_core.specs.Choices.{bares}
use Rattle.fa_core.specs.Dressed.{Nodes, no_nodes, more, refs, all_refs}
use Rattle.fa_core.specs.Member.{bare}
use Rattle.fa_core.specs.Rearranged.{often}
use Rattle.fa_core.specs.Ways.{ways, to_root}
use Rattle.fa_core.proofs.Counts.{often_both}
use Rattle.fa_core.proofs.PlainWays.{to_often}
use Rattle.fa_core.proofs.WaysOf.{tree_roots}

pub references_are : (d : Nodes) (r : ℕ) → references (bares d) r ≡ often r (all_refs d)
references_are no_nodes r = refl
references_are (more n ns) r =
    let a : length (to_root r (ways (bare n))) ≡ often r (refs n) = to_often r (ways (bare n))
    ∙ ap (often r) (tree_roots n) in
    length-append (to_root r (ways (bare n))) (flat_map (λ t. to_root r (ways t)) (bares ns))
    ∙ ap₂ (λ (x y : ℕ). x + y) a (references_are ns r) ∙ sym (often_both r (refs n) (all_refs ns))
