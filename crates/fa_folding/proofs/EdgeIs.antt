-- The edge of a fold, with an output and without; ports at two roots take apart.
use Rattle.std.proofs.Common.{◌≡◌, ℕ, List, [], ◌∷◌, refl, sym, append-nil}
use Rattle.fa_core.specs.Dressed.{Nodes, number, roots_of, inside_facts, SeenLink, SeenHook}
use Rattle.fa_core.proofs.Rearranging.{equal}
use Rattle.fa_unfold.specs.Opens.{HasSlot, opened}
use Rattle.fa_folding.specs.Folded.{node_or, root_cell}
use Rattle.fa_folding.proofs.Law.{taken_items, none_items, port_cells}
use Rattle.fa_folding.proofs.Lists.{ArePartsApart, eq_not}

module _ (d : Nodes) (n i : ℕ) (ins : List ℕ) (inside : Nodes) where
  pub link_is : (j : ℕ) (outs : List ℕ) → opened (HasSlot (number (node_or d i)) (SeenLink n inside (root_cell d j)))
      ≡ inside_facts (port_cells d ((i, ins) ∷ (j, outs) ∷ [])) inside
  link_is j outs = refl

  pub hook_is : opened (HasSlot (number (node_or d i)) (SeenHook n inside))
      ≡ inside_facts (port_cells d ((i, ins) ∷ [])) inside
  hook_is = refl

  pub two_apart : (j : ℕ) (outs : List ℕ) → (j ≡ i → ⊥)
      → ArePartsApart (taken_items (roots_of d) d) (none_items (roots_of d) d) ((i, ins) ∷ (j, outs) ∷ [])
  two_apart j outs f = (
    rw (eq_not j i f)
        (rw (append-nil ins, none_items (roots_of d) d i)
        (equal (sym (append-nil (taken_items (roots_of d) d i ins))))),
    (
      rw (append-nil outs, none_items (roots_of d) d j)
          (equal (sym (append-nil (taken_items (roots_of d) d j outs)))),
      tt,
    ),
  )
