-- The facts of a dressed forest in the order in which a walk writes them: the head of a cell as soon as the cell has
-- its number, and a pointer when what stands at its end has one.
use Rattle.std.specs.Prelude.{ℕ, List, [], ◌∷◌, ◌++◌}
use Rattle.fore_base.specs.declared.store.Value.{Value}
use Rattle.fore_base.specs.declared.store.Value.TheVariants.{Null as NullValue, Uninit as UninitValue}
use Rattle.fore_base.specs.declared.store.Value.TheVariants.{Dangling as DanglingValue, Cell}
use Rattle.fa_core.specs.Dressed.{Node, Parts, End, Nodes, node, no_parts, field, link, hook, under, leaf, no_nodes}
use Rattle.fa_core.specs.Dressed.{more, Fact, Head, Points, end_value, with_ports}

-- the head of a tree's top
abbrev pub node_head : Node → List Fact
node_head (node c s ds ps) = Head c s ds ∷ []

-- the head of the cell at an end
abbrev pub end_head : End → List Fact
end_head (under n) = node_head n
end_head (leaf t) = []

-- the heads of the roots that are no ports
abbrev pub root_heads : List Value → Nodes → List Fact
root_heads ports no_nodes = []
root_heads [] (more n ns) = node_head n ++ root_heads [] ns
root_heads (v ∷ ports) (more n ns) = root_heads ports ns

abbrev mutual
  -- the slots of cell c, and what stands below them
  pub slots_out : List Value → ℕ → Parts → List Fact
  slots_out vs c no_parts = []
  slots_out vs c (field f e ps) =
      end_head e ++ (Points c f (end_value vs e) ∷ (below_out vs e ++ slots_out vs c ps))
  slots_out vs c (link b inside e ps) =
      end_head e
      ++ ((root_heads (Cell c ∷ (end_value vs e ∷ [])) inside
      ++ trees_out (with_ports (Cell c ∷ (end_value vs e ∷ [])) inside) (Cell c ∷ (end_value vs e ∷ [])) inside)
      ++ (below_out vs e ++ slots_out vs c ps))
  slots_out vs c (hook b inside ps) =
      (root_heads (Cell c ∷ []) inside
      ++ trees_out (with_ports (Cell c ∷ []) inside) (Cell c ∷ []) inside)
      ++ slots_out vs c ps

  -- the slots of the cell at an end
  pub below_out : List Value → End → List Fact
  below_out vs (under n) = node_out vs n
  below_out vs (leaf t) = []

  -- the slots of a tree's top
  pub node_out : List Value → Node → List Fact
  node_out vs (node c s ds ps) = slots_out vs c ps

  -- the slots of the tops of trees, of which the first are ports with these values
  pub trees_out : List Value → List Value → Nodes → List Fact
  trees_out vs ports no_nodes = []
  trees_out vs [] (more n ns) = node_out vs n ++ trees_out vs [] ns
  trees_out vs (v ∷ ports) (more n ns) = port_out vs v n ++ trees_out vs ports ns

  -- the slots of a port that is this value
  pub port_out : List Value → Value → Node → List Fact
  port_out vs (Cell m) (node c s ds ps) = slots_out vs m ps
  port_out vs NullValue (node c s ds ps) = []
  port_out vs UninitValue (node c s ds ps) = []
  port_out vs DanglingValue (node c s ds ps) = []

-- a forest of which the first roots are ports with these values
abbrev pub forest_out : List Value → Nodes → List Fact
forest_out ports d = root_heads ports d ++ trees_out (with_ports ports d) ports d
