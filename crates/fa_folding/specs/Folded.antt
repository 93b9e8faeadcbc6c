-- A part of a dressed forest put inside a box edge.
use Rattle.std.specs.Prelude.{◌≡◌, ℕ, zero, suc, nat_eq, if◌then◌else◌, List, [], ◌∷◌, ◌++◌, map}
use Rattle.fore_base.specs.declared.store.Datum.{Datum}
use Rattle.fore_base.specs.declared.store.Value.{Value}
use Rattle.fore_base.specs.declared.store.Value.TheVariants.{Cell}
use Rattle.fa_core.specs.declared.forest.Target.{Target}
use Rattle.fa_core.specs.Dressed.{Node, Parts, End, Nodes, node, no_parts, field, link, hook, under, leaf, no_nodes}
use Rattle.fa_core.specs.Dressed.{more, number}
use Rattle.fa_core.specs.Folding.{Ports}
use Rattle.fa_core.specs.Placed.{placed, placed_parts}
use Rattle.fa_core.specs.Ways.{has}

-- the fields that are taken, with what stands below them, and the other slots
abbrev pub taken_parts : List ℕ → Parts → Parts
taken_parts fs no_parts = no_parts
taken_parts fs (field f e ps) = if has f fs then field f e (taken_parts fs ps) else taken_parts fs ps
taken_parts fs (link b inside e ps) = taken_parts fs ps
taken_parts fs (hook b inside ps) = taken_parts fs ps

abbrev pub left_parts : List ℕ → Parts → Parts
left_parts fs no_parts = no_parts
left_parts fs (field f e ps) = if has f fs then left_parts fs ps else field f e (left_parts fs ps)
left_parts fs (link b inside e ps) = link b inside e (left_parts fs ps)
left_parts fs (hook b inside ps) = hook b inside (left_parts fs ps)

abbrev pub shape_of : Node → ℕ
shape_of (node c s ds ps) = s

abbrev pub datums_of : Node → List Datum
datums_of (node c s ds ps) = ds

abbrev pub parts_of : Node → Parts
parts_of (node c s ds ps) = ps

-- the k-th tree
abbrev pub node_or : Nodes → ℕ → Node
node_or no_nodes k = node 0 0 [] no_parts
node_or (more n ns) zero = n
node_or (more n ns) (suc k) = node_or ns k

-- a tree of each root of the list
abbrev pub each_node : (ℕ → Node) → List ℕ → Nodes
each_node g [] = no_nodes
each_node g (r ∷ rs) = more (g r) (each_node g rs)

abbrev pub root_cell : Nodes → ℕ → Value
root_cell d k = Cell (number (node_or d k))

-- the inside: ports, then inner roots, with other leaves
abbrev pub port_nodes : (ℕ → Target) → Nodes → Ports → List ℕ → Nodes → Nodes
port_nodes f d [] shapes ns = ns
port_nodes f d (p ∷ ps) [] ns = ns
port_nodes f d (p ∷ ps) (s ∷ shapes) ns =
    more (node 0 s [] (placed_parts f (taken_parts p.1 (parts_of (node_or d p.0))))) (port_nodes f d ps shapes ns)

abbrev pub inside_of_part : (ℕ → Target) → Nodes → Ports → List ℕ → List ℕ → Nodes
inside_of_part f d ps shapes inner = port_nodes f d ps shapes (each_node (λ r. placed f (node_or d r)) inner)
