-- The boxes of the edges of a tree stay where its leaves are placed.
use Rattle.std.proofs.Common.{◌≡◌, ℕ, List, ◌∷◌, ◌++◌, refl, ap, ap₂}
use Rattle.fa_core.specs.Dressed.{Node, Parts, End, node, no_parts, field, link, hook, under, leaf}
use Rattle.fa_core.specs.Placed.{placed, placed_parts, placed_end}
use Rattle.fa_core.specs.declared.forest.Target.{Target}
use Rattle.fa_unfold.specs.Opens.{tree_boxes, slot_boxes, end_boxes}

mutual
  pub tree_placed : (f : ℕ → Target) (n : Node) → tree_boxes (placed f n) ≡ tree_boxes n
  tree_placed f (node c s ds ps) = slots_placed f ps

  pub slots_placed : (f : ℕ → Target) (ps : Parts) → slot_boxes (placed_parts f ps) ≡ slot_boxes ps
  slots_placed f no_parts = refl
  slots_placed f (field g e ps) = ap₂ (λ (x y : List ℕ). x ++ y) (end_placed f e) (slots_placed f ps)
  slots_placed f (link b i e ps) =
      ap (λ (z : List ℕ). b ∷ z) (ap₂ (λ (x y : List ℕ). x ++ y) (end_placed f e) (slots_placed f ps))
  slots_placed f (hook b i ps) = ap (λ (z : List ℕ). b ∷ z) (slots_placed f ps)

  end_placed : (f : ℕ → Target) (e : End) → end_boxes (placed_end f e) ≡ end_boxes e
  end_placed f (under n) = tree_placed f n
  end_placed f (leaf t) = refl
