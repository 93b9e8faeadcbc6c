-- What the steps by which nodes are held do.
use Rattle.std.specs.Prelude.{◌≡◌, ◌<◌, ◌++◌, ℕ, List, [], ◌∷◌, length, Option, Some, slice_get, Bool, true, false}
use Rattle.std.specs.Option.{IfSome}
use Rattle.fore_base.specs.Lists.{IsIn}
use Rattle.ta_core.specs.Auto.{Automaton}
use Rattle.fa_core.specs.Covering.{Covers}
use Rattle.fa_core.specs.declared.faces.Face.{Face}
use Rattle.fa_core.specs.declared.forest.Forest.{Forest}
use Rattle.fa_pool.specs.Pools.{IsKeptIn}
use Rattle.fa_pool.specs.declared.kept.Kept.{Kept}
use Rattle.fa_kept.specs.Memos.{Agrees}
use Rattle.fa_groups.specs.Grouped.{AreSame, IsJoined}
use Rattle.fix_core.specs.Held.{key_at, node_of, nodes_of, IsHeldIn, IsHeld}
use Rattle.fix_core.specs.Reads.{read, read_if}
use Rattle.fix_core.specs.declared.held.Held.{Held}
use Rattle.fix_core.specs.declared.held.HeldNode.{HeldNode}
use Rattle.fix_core.specs.declared.nodes.Node.{Node}

-- the nodes are as before; the pool may have more automata behind the old ones, answers that were right are, and each
-- group has what it had
pub record HasGrown (before after : Held) : Type 0 where
  pub nodes : after.nodes ≡ before.nodes
  pub more : List Automaton
  pub pool : after.pool ≡ before.pool ++ more
  pub memo : Agrees before.memo before.pool → Agrees after.memo after.pool
  pub groups : AreSame before.groups after.groups

-- the kept forest reads as F
abbrev pub IsKeptAs : List Automaton → Forest → Kept → Type 0
IsKeptAs pool F kept = IsKeptIn pool kept × (read pool kept ≡ F)

-- so does the one that may be there
abbrev pub IsKeptIfThere : List Automaton → Option Forest → Option Kept → Type 0
IsKeptIfThere pool M kept = IfSome kept (IsKeptIn pool) × (read_if pool kept ≡ M)

-- the held node reads as n
abbrev pub IsHeldAs : Face → List Automaton → Node → HeldNode → Type 0
IsHeldAs face pool n node = IsHeldIn pool node × (node_of face pool node ≡ n)

-- the node is the last one, and its number is in the group of its key
pub record IsPushed (before : Held) (node : HeldNode) (after : Held) : Type 0 where
  pub nodes : after.nodes ≡ before.nodes ++ node ∷ []
  pub pool : after.pool ≡ before.pool
  pub memo : after.memo ≡ before.memo
  pub groups : IsJoined before.groups (key_at node.head.location node.forest) (length before.nodes) after.groups

-- the kept forest is that of the node of the number
abbrev pub IsForestOf : List HeldNode → ℕ → Kept → Type 0
IsForestOf nodes number kept = (node : HeldNode) × (slice_get nodes number ≡ Some node) × (kept ≡ node.forest)

-- one of the kept forests covers the narrow one, or none does
abbrev pub IsCoveredBy : List Automaton → List Kept → Kept → Bool → Type 0
IsCoveredBy pool alike narrow true =
    (wide : Kept) × IsIn wide alike × Covers (read pool wide) (read pool narrow)
IsCoveredBy pool alike narrow false = (wide : Kept) → IsIn wide alike → Covers (read pool wide) (read pool narrow) → ⊥

-- what is held reads as the same nodes
abbrev pub StaysHeld : Face → Held → Held → Type 0
StaysHeld face before after = IsHeld face after × (nodes_of face after ≡ nodes_of face before)

-- what is held reads as the same nodes with n behind them
abbrev pub IsHeldWith : Face → Held → Node → Held → Type 0
IsHeldWith face before n after = IsHeld face after × (nodes_of face after ≡ nodes_of face before ++ n ∷ [])

-- what is held reads as the node alone, with one node
pub record IsHeldAlone (n : Node) (held : Held) : Type 0 where
  pub some : 0 < length held.nodes
  pub held_is : IsHeld n.state.face held
  pub nodes_are : nodes_of n.state.face held ≡ n ∷ []
