-- Another leaf in a pointer field of a root.
use Rattle.std.specs.Prelude.{◌≡◌, ℕ, zero, suc, nat_eq, if◌then◌else◌, List, Option, Some, None}
use Rattle.fa_core.specs.Dressed.{Node, Parts, End, Nodes, node, no_parts, field, link, hook, leaf, no_nodes, more}
use Rattle.fa_core.specs.Member.{OfForest}
use Rattle.fa_core.specs.declared.boxes.BoxDef.{BoxDef}
use Rattle.fa_core.specs.declared.forest.Forest.{Forest}
use Rattle.fa_core.specs.declared.forest.Target.{Target}
use Rattle.fa_back.specs.Reached.{node_at}
use Rattle.fa_split.specs.Split.{top_parts}

-- the end of field f, where the slots have this field
abbrev pub end_of_field : ℕ → Parts → Option End
end_of_field f no_parts = None
end_of_field f (field g e ps) = if nat_eq g f then Some e else end_of_field f ps
end_of_field f (link b inside e ps) = end_of_field f ps
end_of_field f (hook b inside ps) = end_of_field f ps

-- the slots with the leaf u at the end of field f
abbrev pub put_leaf : ℕ → Target → Parts → Parts
put_leaf f u no_parts = no_parts
put_leaf f u (field g e ps) = if nat_eq g f then field g (leaf u) ps else field g e (put_leaf f u ps)
put_leaf f u (link b inside e ps) = link b inside e (put_leaf f u ps)
put_leaf f u (hook b inside ps) = hook b inside (put_leaf f u ps)

-- the cell with the leaf u at the end of field f
abbrev pub with_leaf : ℕ → Target → Node → Node
with_leaf f u (node c s ds ps) = node c s ds (put_leaf f u ps)

-- the r-th tree changed by g
abbrev pub put_at : ℕ → (Node → Node) → Nodes → Nodes
put_at r g no_nodes = no_nodes
put_at zero g (more n ns) = more (g n) ns
put_at (suc r) g (more n ns) = more n (put_at r g ns)

-- the leaf t stands in field f of root r
abbrev pub HasLeaf : Nodes → ℕ → ℕ → Target → Type 0
HasLeaf d r f t = (n : Node) × (node_at d r ≡ Some n) × (end_of_field f (top_parts n) ≡ Some (leaf t))

-- in each dressed forest of F the leaf t stands in field f of root r
abbrev pub AllHaveLeaf : List BoxDef → Forest → ℕ → ℕ → Target → Type 0
AllHaveLeaf T F r f t = (d : Nodes) → OfForest T F d → HasLeaf d r f t

-- root r has no slot of field f
abbrev pub LacksField : Nodes → ℕ → ℕ → Type 0
LacksField d r f = (n : Node) × (node_at d r ≡ Some n) × (end_of_field f (top_parts n) ≡ None)

-- in each dressed forest of F root r has no slot of field f
abbrev pub AllLackField : List BoxDef → Forest → ℕ → ℕ → Type 0
AllLackField T F r f = (d : Nodes) → OfForest T F d → LacksField d r f

-- the dressed forest with the leaf u in field f of root r
abbrev pub leaf_put : ℕ → ℕ → Target → Nodes → Nodes
leaf_put r f u d = put_at r (with_leaf f u) d

-- in each dressed forest of F the leaf t stands in field f of root r; with the leaf u in its place it is one of G, and
-- the other way
pub record IsPut (T : List BoxDef) (F G : Forest) (r f : ℕ) (t u : Target) : Type 0 where
  pub vars : G.vars ≡ F.vars
  pub data_vars : G.data_vars ≡ F.data_vars
  pub old : AllHaveLeaf T F r f t
  pub forth : (d : Nodes) → OfForest T F d → OfForest T G (leaf_put r f u d)
  pub new : AllHaveLeaf T G r f u
  pub back : (d : Nodes) → OfForest T G d → OfForest T F (leaf_put r f t d)
