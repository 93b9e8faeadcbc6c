-- Knots cut out of the trees of shared roots, root by root and place by place: on one tree of each component.
use Rattle.std.specs.Prelude.{◌≡◌, ◌≢◌, ◌<◌, ◌≤◌, ◌⊎◌, ℕ, zero, suc, Bool, true, false, List, [], ◌∷◌, ◌++◌, length}
use Rattle.std.specs.Prelude.{Option, Some, slice_get, slice_set}
use Rattle.fore_base.specs.Lists.{IsIn}
use Rattle.fore_base.specs.declared.store.Datum.{Datum}
use Rattle.ta_core.specs.Arity.{child_slots}
use Rattle.ta_core.specs.declared.symbol.Slot.{Slot}
use Rattle.ta_core.specs.declared.symbol.Slot.TheVariants.{Field, Link, Hook}
use Rattle.ta_core.specs.declared.symbol.Symbol.{Symbol}
use Rattle.ta_core.specs.declared.symbol.Symbol.TheVariants.{Null, Uninit, Dangling, Ref, Cell}
use Rattle.ta_core.specs.declared.tree.Tree.{Tree, out-Tree, roll-Tree}
use Rattle.fa_core.specs.declared.forest.Forest.{Forest}
use Rattle.fa_core.specs.declared.forest.Target.{Target}
use Rattle.fa_core.specs.declared.forest.Target.TheVariants.{At}
use Rattle.fa_core.specs.Canonical.{IsKnot, IsShared, RefersTo}
use Rattle.fa_core.specs.Filled.{Choice}
use Rattle.fa_canon.specs.inner.Merges.{IsSettled}

-- Trees.

-- the child at a place below the top
abbrev pub child_at : Tree → ℕ → Option Tree
child_at t p = slice_get (out-Tree t).children p

-- the tree with another child at a place below the top
abbrev pub with_child : Tree → ℕ → Tree → Tree
with_child t p u = roll-Tree (record { symbol = (out-Tree t).symbol; children = slice_set (out-Tree t).children p u })

-- the leaf that refers to root r
abbrev pub ref_leaf : ℕ → Tree
ref_leaf r = roll-Tree (record { symbol = Ref r; children = [] })

-- a cell stands at the top, with a child for each of its fields and Links
pub record IsRankedCell (t : Tree) : Type 0 where
  pub shape : ℕ
  pub datums : List Datum
  pub slots : List Slot
  pub symbol : (out-Tree t).symbol ≡ Cell shape datums slots
  pub many : length (out-Tree t).children ≡ child_slots slots

-- whether a field leads to the child at the place
abbrev pub field_at : List Slot → ℕ → Bool
field_at [] p = false
field_at (Hook b ∷ ss) p = field_at ss p
field_at (Field f ∷ ss) zero = true
field_at (Field f ∷ ss) (suc p) = field_at ss p
field_at (Link b ∷ ss) zero = false
field_at (Link b ∷ ss) (suc p) = field_at ss p

-- the same below a symbol
abbrev pub has_field_at : Symbol → ℕ → Bool
has_field_at Null p = false
has_field_at Uninit p = false
has_field_at Dangling p = false
has_field_at (Ref r) p = false
has_field_at (Cell s ds ss) p = field_at ss p

-- us is ts with the child at place p of tree r as a last tree, and a reference to it in its place
pub record IsCutOff (r p : ℕ) (ts us : List Tree) : Type 0 where
  pub above : Tree
  pub child : Tree
  pub is_above : slice_get ts r ≡ Some above
  pub is_child : child_at above p ≡ Some child
  pub cut : us ≡ slice_set ts r (with_child above p (ref_leaf (length ts))) ++ child ∷ []

-- What holds while knots are cut.

-- the child at place p of tree k, if a field leads to it and it is a cell, does not refer to root k
abbrev pub IsLoose : List Tree → ℕ → ℕ → Type 0
IsLoose ts k p = (t u : Tree) → slice_get ts k ≡ Some t → has_field_at (out-Tree t).symbol p ≡ true
    → child_at t p ≡ Some u → (out-Tree u).symbol ≢ Ref k → RefersTo u k → ⊥

-- place q of root k comes before place p of root r
abbrev pub IsBefore : ℕ → ℕ → ℕ → ℕ → Type 0
IsBefore k q r p = (k < r) ⊎ ((k ≡ r) × (q < p))

-- the first n roots are shared or alone, each further one is a knot, and the children of shared roots at the places
-- before place p of root r are loose
pub record AreCut (vars : List Target) (n r p : ℕ) (ts : List Tree) : Type 0 where
  pub settled : (k : ℕ) → k < n → IsSettled vars ts k
  pub knots : (k : ℕ) → n ≤ k → k < length ts → IsKnot vars ts k
  pub loose : (k q : ℕ) → IsBefore k q r p → IsShared vars ts k → IsLoose ts k q

-- the same whichever trees are taken; variables are at the first n roots only
pub record IsCutting (n r p : ℕ) (F : Forest) : Type 0 where
  pub few : n ≤ length F.autos
  pub vars : (k : ℕ) → IsIn (At k) F.vars → k < n
  pub trees : (ts : List Tree) → Choice F.autos ts → AreCut F.vars n r p ts

-- each tree of root r has so many children below its top
abbrev pub HasWidth : Forest → ℕ → ℕ → Type 0
HasWidth F r m = (ts : List Tree) (t : Tree) → Choice F.autos ts → slice_get ts r ≡ Some t
    → length (out-Tree t).children ≡ m
