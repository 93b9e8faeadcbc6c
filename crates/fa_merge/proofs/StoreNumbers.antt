-- Without box edges the cells of a store are those of its dressed forest's own trees.
use Rattle.std.proofs.Common.{◌≡◌, ℕ, List, [], ◌++◌, map, ap, subst, ◌∙◌, append-nil}
use Rattle.fore_base.specs.Lists.{IsDistinct}
use Rattle.fore_base.specs.declared.shape.Shape.{Shape}
use Rattle.fore_base.specs.declared.store.Store.{Store}
use Rattle.fa_core.specs.declared.boxes.BoxDef.{BoxDef}
use Rattle.fa_core.specs.declared.forest.Forest.{Forest}
use Rattle.fa_core.specs.Boxes.{head_of, heads}
use Rattle.fa_core.specs.Choices.{all_numbers}
use Rattle.fa_core.specs.Dressed.{Nodes, facts, roots_of}
use Rattle.fa_core.specs.Member.{StandsBy}
use Rattle.fa_core.specs.Rearranged.{Rearranged, chain}
use Rattle.fa_core.proofs.Permuted.{distinct_moved}
use Rattle.fa_core.proofs.PlainNodes.{NoEdgesIn}
use Rattle.fa_core.proofs.Rearranging.{back, flat_mapped}
use Rattle.fa_back.specs.inner.Hops.{Edge, forest_own, forest_edges}
use Rattle.fa_back.proofs.Apart.{forest_apart, forest_numbers, inner}
use Rattle.fa_back.proofs.StoreLaws.{cell_number, no_edges, same_numbers as heads_numbered, differ as heads_differ}

plain_heads : (d : Nodes) → NoEdgesIn d → Rearranged (heads (facts d)) (all_numbers d)
plain_heads d plain =
    let none : forest_own (roots_of d) d ++ inner (forest_edges [] (roots_of d) d) ≡ forest_own (roots_of d) d =
    ap (λ (es : List Edge). forest_own (roots_of d) d ++ inner es) (no_edges [] (roots_of d) d plain)
    ∙ append-nil (forest_own (roots_of d) d) in
    subst (λ (z : List ℕ). Rearranged (heads (facts d)) z)
    (ap heads none ∙ forest_numbers [] (roots_of d) d)
    (flat_mapped head_of (forest_apart [] (roots_of d) d))

module _ (hs : List Shape) (T : List BoxDef) (F : Forest) (d : Nodes) (s : Store) (h : StandsBy hs T F d s)
    (plain : NoEdgesIn d) where
  -- the cells of the store are those of the dressed forest
  pub same_numbers : Rearranged (all_numbers d) (map cell_number s.cells)
  same_numbers = chain (back (plain_heads d plain)) (heads_numbered hs T F d s h)

  pub differ : IsDistinct (all_numbers d)
  differ = distinct_moved (plain_heads d plain) (heads_differ hs T F d s h)
