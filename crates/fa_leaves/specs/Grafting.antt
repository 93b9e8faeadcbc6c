-- A tree put in the place of the references to its root.
use Rattle.std.specs.Prelude.{ℕ, if◌then◌else◌, nat_eq}
use Rattle.fa_core.specs.declared.forest.Target.{Target}
use Rattle.fa_core.specs.declared.forest.Target.TheVariants.{Null, Uninit, Dangling, At}
use Rattle.fa_core.specs.Dressed.{Node, Parts, End, Nodes, node, no_parts, field, link, hook, under, leaf, no_nodes}
use Rattle.fa_core.specs.Dressed.{more}

module _ (r : ℕ) (m : Node) where
  -- a leaf, or m for a leaf that refers to r
  abbrev pub plug_leaf : Target → End
  plug_leaf Null = leaf Null
  plug_leaf Uninit = leaf Uninit
  plug_leaf Dangling = leaf Dangling
  plug_leaf (At k) = if nat_eq r k then under m else leaf (At k)

  abbrev mutual
    -- the tree with m in the place of each leaf that refers to root r
    pub plug : Node → Node
    plug (node c s ds ps) = node c s ds (plug_parts ps)

    -- the slots after the graft
    pub plug_parts : Parts → Parts
    plug_parts no_parts = no_parts
    plug_parts (field f e ps) = field f (plug_end e) (plug_parts ps)
    plug_parts (link b inside e ps) = link b inside (plug_end e) (plug_parts ps)
    plug_parts (hook b inside ps) = hook b inside (plug_parts ps)

    -- an end after the graft
    pub plug_end : End → End
    plug_end (under n) = under (plug n)
    plug_end (leaf t) = plug_leaf t

  -- all trees after the graft
  abbrev pub plug_all : Nodes → Nodes
  plug_all no_nodes = no_nodes
  plug_all (more n ns) = more (plug n) (plug_all ns)
