-- A forest in which the child at a place below the top of a root is one leaf, or, where it is a cell, a root of its
-- own.
use Rattle.std.specs.Prelude.{◌≡◌, ◌↔◌, ◌<◌, ◌⊎◌, ℕ, zero, suc, ◌+◌, ◌&&◌, false, nat_eq, if◌then◌else◌, not, List, []}
use Rattle.std.specs.Prelude.{◌∷◌, ◌++◌, map, length, Option, Some, None, slice_get, slice_set, slice_index_or}
use Rattle.fore_base.specs.Lists.{IsIn, Every, IsDistinct}
use Rattle.ta_core.specs.Auto.{Automaton}
use Rattle.ta_core.specs.Language.{InLanguage, RunOf}
use Rattle.ta_core.specs.Single.{HasOneTop}
use Rattle.ta_core.specs.declared.auto.Rule.{Rule}
use Rattle.ta_core.specs.declared.symbol.Symbol.TheVariants.{Null as NullSymbol}
use Rattle.ta_core.specs.declared.tree.Tree.{Tree, out-Tree}
use Rattle.fa_core.specs.declared.boxes.BoxDef.{BoxDef}
use Rattle.fa_core.specs.declared.forest.Forest.{Forest}
use Rattle.fa_core.specs.declared.forest.Target.{Target}
use Rattle.fa_core.specs.declared.forest.Target.TheVariants.{At}
use Rattle.fa_core.specs.Cells.{is_leaf}
use Rattle.fa_core.specs.Choices.{count}
use Rattle.fa_core.specs.Covering.{Covers}
use Rattle.fa_core.specs.Dressed.{Node, Parts, End, Nodes, node, no_parts, field, link, hook, under, leaf, no_nodes}
use Rattle.fa_core.specs.Dressed.{more}
use Rattle.fa_core.specs.Filled.{IsRoot}
use Rattle.fa_core.specs.Member.{OfForest, bare_end, leaf_symbol}
use Rattle.fa_core.specs.Ways.{has}
use Rattle.fa_back.specs.Reached.{node_at}
use Rattle.fa_sound.specs.Components.{component_at, with_component}

-- The condition.

-- the first rule of one of the states; where there is none, that of a null pointer at state 0
abbrev pub first_of : List ℕ → List Rule → Rule
first_of qs [] = record { state = 0; symbol = NullSymbol; children = [] }
first_of qs (x ∷ xs) = if has x.state qs then x else first_of qs xs

-- the rule at the top
abbrev pub top_rule : Automaton → Rule
top_rule a = first_of a.roots a.rules

-- root r has one rule, and that a child at place p
pub record CanSplit (F : Forest) (r p : ℕ) : Type 0 where
  pub root : r < length F.autos
  pub top : HasOneTop (component_at F.autos r)
  pub place : p < length (top_rule (component_at F.autos r)).children

-- What the child may be.

-- u stands at place p below the top of some tree of root r
abbrev pub MayStand : Forest → ℕ → ℕ → Tree → Type 0
MayStand F r p u = (t : Tree) × InLanguage (component_at F.autos r) t × (slice_get (out-Tree t).children p ≡ Some u)

-- the leaf does
abbrev pub MayBeLeaf : Forest → ℕ → ℕ → Target → Type 0
MayBeLeaf F r p y = MayStand F r p (bare_end (leaf y))

-- some cell does
abbrev pub MayBeCell : Forest → ℕ → ℕ → Type 0
MayBeCell F r p = (u : Tree) × (is_leaf (out-Tree u).symbol ≡ false) × MayStand F r p u

-- The forests.

-- the state of the child at place p below the top
abbrev pub child_state : Automaton → ℕ → ℕ
child_state a p = slice_index_or (top_rule a).children p 0

-- the rule at the top with a new root state, and a new state for the child at place p
abbrev pub fresh_top : Automaton → ℕ → Rule
fresh_top a p =
    record {
      state = a.states;
      symbol = (top_rule a).symbol;
      children = slice_set (top_rule a).children p (a.states + 1);
    }

-- the new state of the child has the leaf y alone
abbrev pub fresh_leaf : Automaton → Target → Rule
fresh_leaf a y = record { state = a.states + 1; symbol = leaf_symbol y; children = [] }

-- the automaton with the leaf y alone at place p below its one rule at the top
abbrev pub fixed : Automaton → ℕ → Target → Automaton
fixed a p y =
    record { states = a.states + 2; roots = a.states ∷ []; rules = a.rules ++ fresh_top a p ∷ fresh_leaf a y ∷ [] }

-- the rules of cells at state q, at state z
abbrev pub cell_rules : ℕ → ℕ → List Rule → List Rule
cell_rules z q [] = []
cell_rules z q (x ∷ xs) = if nat_eq x.state q && not (is_leaf x.symbol) then record x { state = z } ∷ cell_rules z q xs
    else cell_rules z q xs

-- the automaton of the trees of state q that are cells, with a new root state
abbrev pub lifted : Automaton → ℕ → Automaton
lifted a q = record { states = a.states + 1; roots = a.states ∷ []; rules = a.rules ++ cell_rules a.states q a.rules }

-- the forest in which the child is the leaf y
abbrev pub split_leaf : Forest → ℕ → ℕ → Target → Forest
split_leaf F r p y = with_component F r (fixed (component_at F.autos r) p y)

-- the forest in which the child's cells are a new last root, to which the one leaf in the child's place refers
abbrev pub split_cells : Forest → ℕ → ℕ → Forest
split_cells F r p = record F {
  autos = slice_set F.autos r (fixed (component_at F.autos r) p (At (length F.autos)))
      ++ lifted (component_at F.autos r) (child_state (component_at F.autos r) p) ∷ [];
}

-- the list has those that meet P, each once
pub record AreThose {X : Type 0} (P : X → Type 0) (xs : List X) : Type 0 where
  pub each : Every P xs
  pub all : (x : X) → P x → IsIn x xs
  pub once : IsDistinct xs

-- the list has G where P holds, and nothing where it does not
abbrev pub IsWhere : Type 0 → Forest → List Forest → Type 0
IsWhere P G Gs = (P × (Gs ≡ G ∷ [])) ⊎ ((P → ⊥) × (Gs ≡ []))

-- one forest for each leaf that the child may be, each once, and behind them, where the child may be a cell, the one in
-- which its cells are a new last root
abbrev pub AreSplit : Forest → ℕ → ℕ → List Forest → Type 0
AreSplit F r p Gs = (ys : List Target) × AreThose (MayBeLeaf F r p) ys
    × ((Hs : List Forest) × IsWhere (MayBeCell F r p) (split_cells F r p) Hs × (Gs ≡ map (split_leaf F r p) ys ++ Hs))

-- root r of G has one rule, that of root r of F but for the state of its child at place p: the trees of that state are
-- the leaf y alone, which names a root that is there, if it names one
pub record IsFixedAt (F : Forest) (r p : ℕ) (y : Target) (G : Forest) : Type 0 where
  pub root : r < length G.autos
  pub top : HasOneTop (component_at G.autos r)
  pub symbol : (top_rule (component_at G.autos r)).symbol ≡ (top_rule (component_at F.autos r)).symbol
  pub state : ℕ
  pub children : (top_rule (component_at G.autos r)).children
      ≡ slice_set (top_rule (component_at F.autos r)).children p state
  pub run : RunOf (component_at G.autos r).rules state (bare_end (leaf y))
  pub only : (t : Tree) → RunOf (component_at G.autos r).rules state t → t ≡ bare_end (leaf y)
  pub end : IsRoot (length G.autos) y

-- Dressed forests.

-- what stands at the end of the child at place p; a slot without a child is none
abbrev pub end_at : ℕ → Parts → Option End
end_at p no_parts = None
end_at zero (field f e ps) = Some e
end_at (suc p) (field f e ps) = end_at p ps
end_at zero (link b inside e ps) = Some e
end_at (suc p) (link b inside e ps) = end_at p ps
end_at p (hook b inside ps) = end_at p ps

-- the slots with x at the end of the child at place p
abbrev pub set_end : ℕ → End → Parts → Parts
set_end p x no_parts = no_parts
set_end zero x (field f e ps) = field f x ps
set_end (suc p) x (field f e ps) = field f e (set_end p x ps)
set_end zero x (link b inside e ps) = link b inside x ps
set_end (suc p) x (link b inside e ps) = link b inside e (set_end p x ps)
set_end p x (hook b inside ps) = hook b inside (set_end p x ps)

-- the trees with n as the r-th
abbrev pub set_node : ℕ → Node → Nodes → Nodes
set_node r n no_nodes = no_nodes
set_node zero n (more m ns) = more n ns
set_node (suc r) n (more m ns) = more m (set_node r n ns)

-- the trees, and m behind them
abbrev pub with_last : Nodes → Node → Nodes
with_last no_nodes m = more m no_nodes
with_last (more n ns) m = more n (with_last ns m)

-- the slots of the top
abbrev pub top_parts : Node → Parts
top_parts (node c s ds ps) = ps

-- the tree with x at the end of the child at place p
abbrev pub with_end : ℕ → End → Node → Node
with_end p x (node c s ds ps) = node c s ds (set_end p x ps)

-- the child at place p of the r-th tree is x
abbrev pub HasChild : Nodes → ℕ → ℕ → End → Type 0
HasChild d r p x = (n : Node) × (node_at d r ≡ Some n) × (end_at p (top_parts n) ≡ Some x)

-- d with the cell m, which is the child at place p of the r-th tree, as a last tree of its own, and a reference to it
-- in its place
pub record IsTakenOut (r p : ℕ) (d e : Nodes) : Type 0 where
  pub above : Node
  pub child : Node
  pub is_above : node_at d r ≡ Some above
  pub is_child : end_at p (top_parts above) ≡ Some (under child)
  pub taken : e ≡ with_last (set_node r (with_end p (leaf (At (count d))) above) d) child

-- the dressed forests of G are those of F whose child is the leaf y
abbrev pub IsSplitLeaf : List BoxDef → Forest → ℕ → ℕ → Target → Forest → Type 0
IsSplitLeaf T F r p y G = (d : Nodes) → OfForest T G d ↔ (OfForest T F d × HasChild d r p (leaf y))

-- the dressed forests of G are those of F with the child, where it is a cell, taken out
pub record IsSplitCells (T : List BoxDef) (F : Forest) (r p : ℕ) (G : Forest) : Type 0 where
  pub forth : (d e : Nodes) → OfForest T F d → IsTakenOut r p d e → OfForest T G e
  pub back : (e : Nodes) → OfForest T G e → (d : Nodes) × OfForest T F d × IsTakenOut r p d e

-- G is one of the forests into which F is split, and so are its dressed forests; where the child is a leaf, F covers it
abbrev pub IsSplitOf : List BoxDef → Forest → ℕ → ℕ → Forest → Type 0
IsSplitOf T F r p G =
    ((y : Target) × MayBeLeaf F r p y × (G ≡ split_leaf F r p y) × Covers F G × IsSplitLeaf T F r p y G)
    ⊎ (MayBeCell F r p × (G ≡ split_cells F r p) × IsSplitCells T F r p G)
