-- Nodes whose forests are held by the numbers of their components in one pool.
use Rattle.std.specs.Prelude.{◌≡◌, ◌↔◌, ◌<◌, ◌^◌, ℕ, List, map, length, Some, slice_get}
use Rattle.std.specs.Option.{IfSome}
use Rattle.fore_base.specs.Lists.{IsIn, Every}
use Rattle.ta_core.specs.Auto.{Automaton}
use Rattle.fa_core.specs.declared.faces.Face.{Face}
use Rattle.fa_pool.specs.Looks.{with_looks}
use Rattle.fa_pool.specs.Pools.{IsKeptIn}
use Rattle.fa_pool.specs.declared.kept.Kept.{Kept}
use Rattle.fa_kept.specs.Memos.{Agrees}
use Rattle.fa_groups.specs.Grouped.{Key, Grouped, numbers_of}
use Rattle.fix_core.specs.declared.held.Held.{Held}
use Rattle.fix_core.specs.declared.held.HeldNode.{HeldNode}
use Rattle.fix_core.specs.declared.nodes.Node.{Node}
use Rattle.fix_core.specs.Reads.{read, read_if}
use Rattle.fix_core.specs.States.{IsSoundState}

-- the key of a location and of what a kept forest there looks like: its targets, its data, and how many components it
-- has
abbrev pub key_at : ℕ → Kept → Key
key_at location kept = (location, with_looks 0 kept.vars kept.data_vars (length kept.parts))

-- the node as which a held one reads by the pool, over the face
abbrev pub node_of : Face → List Automaton → HeldNode → Node
node_of face pool node =
    record {
      head = node.head;
      state =
          record {
            face = face;
            forest = read pool node.forest;
            middle = read_if pool node.middle;
            folds = node.folds;
          };
    }

-- the nodes as which what is held reads
abbrev pub nodes_of : Face → Held → List Node
nodes_of face held = map (node_of face held.pool) held.nodes

-- each part of its forests is the number of an automaton
pub record IsHeldIn (pool : List Automaton) (node : HeldNode) : Type 0 where
  pub forest : IsKeptIn pool node.forest
  pub middle : IfSome node.middle (IsKeptIn pool)

-- the node of the number has this key
pub record HasKey (nodes : List HeldNode) (key : Key) (number : ℕ) : Type 0 where
  pub node : HeldNode
  pub is : slice_get nodes number ≡ Some node
  pub same_key : key_at node.head.location node.forest ≡ key

-- the numbers of each group are those of the nodes with its key, and no others
abbrev pub AreGrouped : List HeldNode → Grouped → Type 0
AreGrouped nodes groups = (key : Key) (number : ℕ) → IsIn number (numbers_of groups key) ↔ HasKey nodes key number

-- Fewer than 2^32 nodes, whose parts are numbers of automata and whose forests are sound over the face, with answers of
-- inclusion that are right, and with the number of each node in the group of its key.
pub record IsHeld (face : Face) (held : Held) : Type 0 where
  pub few : length held.nodes < 2 ^ 32
  pub kept : Every (IsHeldIn held.pool) held.nodes
  pub sound : Every (λ n. IsSoundState n.state) (nodes_of face held)
  pub agrees : Agrees held.memo held.pool
  pub grouped : AreGrouped held.nodes held.groups
