-- Reachability where each box edge is one hop down, and one up where its box leads back.
use Rattle.std.specs.Prelude.{◌≡◌, ℕ, Bool, true, false, List, [], ◌∷◌, ◌++◌}
use Rattle.fore_base.specs.Lists.{IsIn}
use Rattle.fore_base.specs.declared.store.Value.{Value}
use Rattle.fore_base.specs.declared.store.Value.TheVariants.{Cell, Dangling}
use Rattle.fa_core.specs.declared.faces.BoxFace.{BoxFace}
use Rattle.fa_core.specs.Dressed.{Node, Parts, End, Nodes, node, no_parts, field, link, hook, under, leaf, no_nodes}
use Rattle.fa_core.specs.Dressed.{more, Fact, Head, Points, end_value, inside_facts}
use Rattle.fa_core.specs.Ways.{back_of}

-- a box edge: its upper cell, what its lower end is, the facts of its inside, and whether its box leads back
pub record Edge : Type 0 where
  pub input : ℕ
  pub output : Value
  pub facts : List Fact
  pub back : Bool

-- the cells that a variable names, those that a field of such a cell names, those at the lower end of an edge of such a
-- cell, and those from which an edge that leads back goes to such a cell
pub data Hops (vars : List Value) (own : List Fact) (edges : List Edge) : ℕ → Type 0 where
  hop_var : {n : ℕ} → IsIn (Cell n) vars → Hops vars own edges n
  hop_own : {n : ℕ} (m f : ℕ) → Hops vars own edges m → IsIn (Points m f (Cell n)) own → Hops vars own edges n
  hop_down : {n : ℕ} (e : Edge) → IsIn e edges → Hops vars own edges e.input → e.output ≡ Cell n → Hops vars own edges n
  hop_up : {n : ℕ} (e : Edge) (m : ℕ) → IsIn e edges → e.back ≡ true → e.output ≡ Cell m → Hops vars own edges m → n
      ≡ e.input → Hops vars own edges n

-- a link as an edge, and a hook
abbrev pub link_edge : List BoxFace → List Value → ℕ → ℕ → Nodes → End → Edge
link_edge bs vs c b inside e = record {
  input = c;
  output = end_value vs e;
  facts =
      inside_facts (Cell c ∷ (end_value vs e ∷ [])) inside;
  back = back_of bs b;
}

abbrev pub hook_edge : ℕ → Nodes → Edge
hook_edge c inside = record { input = c; output = Dangling; facts = inside_facts (Cell c ∷ []) inside; back = false }

abbrev mutual
  -- the facts of a tree's own cells, insides left out
  pub tree_own : List Value → Node → List Fact
  tree_own vs (node c s ds ps) = Head c s ds ∷ part_own vs c ps

  pub part_own : List Value → ℕ → Parts → List Fact
  part_own vs c no_parts = []
  part_own vs c (field f e ps) = Points c f (end_value vs e) ∷ (end_own vs e ++ part_own vs c ps)
  part_own vs c (link b inside e ps) = end_own vs e ++ part_own vs c ps
  part_own vs c (hook b inside ps) = part_own vs c ps

  pub end_own : List Value → End → List Fact
  end_own vs (under n) = tree_own vs n
  end_own vs (leaf t) = []

abbrev mutual
  -- the box edges of a tree
  pub tree_edges : List BoxFace → List Value → Node → List Edge
  tree_edges bs vs (node c s ds ps) = part_edges bs vs c ps

  pub part_edges : List BoxFace → List Value → ℕ → Parts → List Edge
  part_edges bs vs c no_parts = []
  part_edges bs vs c (field f e ps) = end_edges bs vs e ++ part_edges bs vs c ps
  part_edges bs vs c (link b inside e ps) = link_edge bs vs c b inside e ∷ (end_edges bs vs e ++ part_edges bs vs c ps)
  part_edges bs vs c (hook b inside ps) = hook_edge c inside ∷ part_edges bs vs c ps

  pub end_edges : List BoxFace → List Value → End → List Edge
  end_edges bs vs (under n) = tree_edges bs vs n
  end_edges bs vs (leaf t) = []

abbrev pub forest_own : List Value → Nodes → List Fact
forest_own vs no_nodes = []
forest_own vs (more n ns) = tree_own vs n ++ forest_own vs ns

abbrev pub forest_edges : List BoxFace → List Value → Nodes → List Edge
forest_edges bs vs no_nodes = []
forest_edges bs vs (more n ns) = tree_edges bs vs n ++ forest_edges bs vs ns
