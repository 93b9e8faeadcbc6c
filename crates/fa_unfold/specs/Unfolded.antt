-- Dressed forests in which a box edge is replaced by its inside.
use Rattle.std.specs.Prelude.{◌≡◌, ℕ, List, map, Some, slice_get}
use Rattle.fore_base.specs.Lists.{IsIn}
use Rattle.fore_base.specs.declared.store.Datum.{Datum}
use Rattle.fa_core.specs.declared.boxes.BoxDef.{BoxDef}
use Rattle.fa_core.specs.declared.forest.Forest.{Forest}
use Rattle.fa_core.specs.Dressed.{Parts, Nodes, node, value_in, roots_of}
use Rattle.fa_core.specs.Member.{OfForest}
use Rattle.fa_back.specs.Reached.{node_at}
use Rattle.fa_unfold.specs.Opens.{Item, Opens}
use Rattle.fa_unfold.specs.Parts.{Part, IsEdge, listed, part_item}

-- x is the item of the box edge at that slot of that root
pub record IsEdgeAt (root slot : ℕ) (d : Nodes) (x : Item) : Type 0 where
  pub cell : ℕ
  pub shape : ℕ
  pub datums : List Datum
  pub parts : Parts
  pub part : Part
  pub at : node_at d root ≡ Some (node cell shape datums parts)
  pub has : slice_get (listed parts) slot ≡ Some part
  pub edge : IsEdge part
  pub is : x ≡ part_item (roots_of d) cell part

-- e of G is d of F with the box edge at that slot replaced by its inside: the facts are the same, every other cell and
-- slot stays, and so does each variable
pub record Unfolded (F G : Forest) (root slot : ℕ) (d e : Nodes) : Type 0 where
  pub edge : Item
  pub at : IsEdgeAt root slot d edge
  pub opens : Opens edge d e
  pub vars : map (value_in (roots_of d)) F.vars ≡ map (value_in (roots_of e)) G.vars
  pub data_vars : F.data_vars ≡ G.data_vars

-- each dressed forest of G is one of F with that edge replaced
abbrev pub UnfoldsFrom : List BoxDef → Forest → ℕ → ℕ → Forest → Type 0
UnfoldsFrom T F root slot G = (e : Nodes) → OfForest T G e → (d : Nodes) × OfForest T F d × Unfolded F G root slot d e

-- each dressed forest of F is, with that edge replaced, one of some forest of the list
abbrev pub UnfoldsInto : List BoxDef → Forest → ℕ → ℕ → List Forest → Type 0
UnfoldsInto T F root slot Gs = (d : Nodes) → OfForest T F d
    → (G : Forest) × IsIn G Gs × ((e : Nodes) × OfForest T G e × Unfolded F G root slot d e)
