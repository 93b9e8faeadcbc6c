-- Canonical forests: which cells are roots, and in which order they stand.
use Rattle.std.specs.Prelude.{◌≡◌, ◌≢◌, ◌<◌, ◌≤◌, ◌⊎◌, ℕ, zero, suc, true, List, [], ◌∷◌, ◌++◌, map, length, flat_map}
use Rattle.std.specs.Prelude.{Some, slice_get}
use Rattle.fore_base.specs.Lists.{IsIn, Every}
use Rattle.ta_core.specs.Single.{HasOneTop}
use Rattle.ta_core.specs.declared.symbol.Slot.{Slot}
use Rattle.ta_core.specs.declared.symbol.Slot.TheVariants.{Field, Link, Hook}
use Rattle.ta_core.specs.declared.symbol.Symbol.{Symbol}
use Rattle.ta_core.specs.declared.symbol.Symbol.TheVariants.{Null, Uninit, Dangling, Ref, Cell}
use Rattle.ta_core.specs.declared.tree.Tree.{Tree, out-Tree}
use Rattle.fa_core.specs.declared.faces.BoxFace.{BoxFace}
use Rattle.fa_core.specs.declared.faces.Face.{Face}
use Rattle.fa_core.specs.declared.forest.Target.{Target}
use Rattle.fa_core.specs.declared.forest.Target.TheVariants.{At}
use Rattle.fa_core.specs.declared.forest.Forest.{Forest}
use Rattle.fa_core.specs.Filled.{Choice, IsWellFormed}
use Rattle.fa_core.specs.Ways.{Way, ways, to_root, leads_back, led_to, given, roots_met}

-- The four kinds of roots, for one tree of each component.

-- the trees at the ends of the fields, those at the ends of box edges left out
abbrev pub at_fields : List Slot → List Tree → List Tree
at_fields [] ts = []
at_fields (Hook b ∷ ss) ts = at_fields ss ts
at_fields (Field f ∷ ss) [] = []
at_fields (Field f ∷ ss) (t ∷ ts) = t ∷ at_fields ss ts
at_fields (Link b ∷ ss) [] = []
at_fields (Link b ∷ ss) (t ∷ ts) = at_fields ss ts

-- the trees at the ends of the fields of a cell with this symbol
abbrev pub fields_under : Symbol → List Tree → List Tree
fields_under Null ts = []
fields_under Uninit ts = []
fields_under Dangling ts = []
fields_under (Ref r) ts = []
fields_under (Cell s ds ss) ts = at_fields ss ts

-- the trees at the ends of the fields of t's top
abbrev pub field_trees : Tree → List Tree
field_trees t = fields_under (out-Tree t).symbol (out-Tree t).children

-- t refers to root r
abbrev pub RefersTo : Tree → ℕ → Type 0
RefersTo t r = IsIn r (map (λ (w : Way). w.root) (ways t))

-- how many references to root r the trees have
abbrev pub references : List Tree → ℕ → ℕ
references ts r = length (flat_map (λ t. to_root r (ways t)) ts)

-- kinds 1 and 2: a cell to which a variable points, or to which there are two references
abbrev pub IsShared : List Target → List Tree → ℕ → Type 0
IsShared vars ts r = IsIn (At r) vars ⊎ (2 ≤ references ts r)

-- a way back from root i into tree j leads to root r: to the tree's own root where the whole way leads back, and to
-- each root below the highest cell from which the rest of it does
abbrev pub LeadsBack : List BoxFace → List Tree → ℕ → ℕ → ℕ → Type 0
LeadsBack bs ts i j r = (t : Tree) × (slice_get ts j ≡ Some t)
    × ((w : Way) × IsIn w (ways t) × (w.root ≡ i)
    × (((r ≡ j) × (leads_back bs w.steps ≡ true)) ⊎ IsIn r (led_to bs w.steps)))

-- kind 3: no variable points to the cell and nothing outside its own tree refers to it, and a way back from another
-- root into its own tree leads to it
pub record IsLedTo (bs : List BoxFace) (vars : List Target) (ts : List Tree) (r : ℕ) : Type 0 where
  pub no_var : IsIn (At r) vars → ⊥
  pub alone : (j : ℕ) (u : Tree) → slice_get ts j ≡ Some u → j ≢ r → RefersTo u r → ⊥
  pub from : ℕ
  pub other : from ≢ r
  pub led : LeadsBack bs ts from r r

-- kind 4, a knot: the one reference to the cell is a field of a root of kind 1 or 2, and the cell's own tree refers to
-- that root
pub record IsKnot (vars : List Target) (ts : List Tree) (r : ℕ) : Type 0 where
  pub one : references ts r ≡ 1
  pub from : ℕ
  pub shared : IsShared vars ts from
  pub above : Tree
  pub is_above : slice_get ts from ≡ Some above
  pub leaf : Tree
  pub in_field : IsIn leaf (field_trees above)
  pub refers : (out-Tree leaf).symbol ≡ Ref r
  pub own : Tree
  pub is_own : slice_get ts r ≡ Some own
  pub ties : RefersTo own from

-- the root is of one of the four kinds
abbrev pub IsRootKind : List BoxFace → List Target → List Tree → ℕ → Type 0
IsRootKind bs vars ts r = IsShared vars ts r ⊎ (IsLedTo bs vars ts r ⊎ IsKnot vars ts r)

-- no other cell is of one of the kinds. Only kind 4 could be: no cell in a field of a root of kind 1 or 2 has a tree
-- that refers to that root
abbrev pub IsUntied : List Target → List Tree → Type 0
IsUntied vars ts = (r : ℕ) (t u : Tree) → IsShared vars ts r → slice_get ts r ≡ Some t → IsIn u (field_trees t)
    → (out-Tree u).symbol ≢ Ref r → RefersTo u r → ⊥

-- The order of the roots.

-- the walk: `todo` is to be visited, and the roots below k are placed; it ends with n placed. `Next k` says that it
-- goes on from root k where nothing is left to visit
pub data Walks (refers : ℕ → List ℕ) (Next : ℕ → Type 0) : List ℕ → ℕ → ℕ → Type 0 where
  ended : {n : ℕ} → Walks refers Next [] n n
  old : {r k n : ℕ} {todo : List ℕ} → r < k → Walks refers Next todo k n → Walks refers Next (r ∷ todo) k n
  new : {k n : ℕ} {todo : List ℕ} → Walks refers Next (refers k ++ todo) (suc k) n → Walks refers Next (k ∷ todo) k n
  again : {k n : ℕ} → k < n → Next k → Walks refers Next (k ∷ []) k n → Walks refers Next [] k n

-- from root i, which is placed, a way back into tree j leads to a root that is not
abbrev pub IsOpen : List BoxFace → List Tree → ℕ → ℕ → ℕ → Type 0
IsOpen bs ts k i j = (r : ℕ) × (k ≤ r) × (i < k) × LeadsBack bs ts i j r

-- box edges of tree j give field f to root i
abbrev pub provides : List BoxFace → List Tree → ℕ → ℕ → ℕ → Type 0
provides bs ts i j f = (t : Tree) × (slice_get ts j ≡ Some t)
    × IsIn f (flat_map (λ (w : Way). given bs w.steps) (to_root i (ways t)))

-- k is the first root of the list that meets P and is not placed yet
abbrev pub IsFirstOpen : (ℕ → Type 0) → ℕ → List ℕ → Type 0
IsFirstOpen P k [] = ⊥
IsFirstOpen P k (r ∷ rs) = ((r ≡ k) × P k) ⊎ ((k ≤ r → P r → ⊥) × IsFirstOpen P k rs)

-- where the roots below k are placed and nothing is left to visit, the walk goes on from root k
pub record GoesOn (bs : List BoxFace) (ts : List Tree) (k : ℕ) : Type 0 where
  pub from : ℕ
  pub into : ℕ
  pub open_way : IsOpen bs ts k from into
  -- from the lowest placed root that has an open way back
  pub lowest : (i j : ℕ) → IsOpen bs ts k i j → from ≤ i
  -- into the tree whose box edges give the least field there
  pub field : ℕ
  pub provided : provides bs ts from into field
  pub least : (j f : ℕ) → IsOpen bs ts k from j → provides bs ts from j f → field ≤ f
  -- to that tree's own root, if the way back leads to it and it is not placed
  pub own_first : k ≤ into → LeadsBack bs ts from into into → k ≡ into
  -- else to the first root in the tree's signature to which the way back leads and which is not placed
  pub then_list : (LeadsBack bs ts from into into → into < k) → (t : Tree) → slice_get ts into ≡ Some t
      → IsFirstOpen (λ r. LeadsBack bs ts from into r) k (roots_met (ways t))

-- the roots to which tree r refers, in the order of first visit
abbrev pub refs_at : List Tree → ℕ → List ℕ
refs_at [] r = []
refs_at (t ∷ ts) zero = roots_met (ways t)
refs_at (t ∷ ts) (suc r) = refs_at ts r

-- the roots at which variables are, in order
abbrev pub var_roots : List Target → List ℕ
var_roots [] = []
var_roots (At r ∷ vs) = r ∷ var_roots vs
var_roots (v ∷ vs) = var_roots vs

-- Canonical forests.

-- each component has one root state with one rule; the roots are the cells of the four kinds, and stand in the order of
-- the walk
pub record IsCanonical (face : Face) (F : Forest) : Type 0 where
  pub well_formed : IsWellFormed face F
  pub tops : Every HasOneTop F.autos
  pub kinds : (ts : List Tree) → Choice F.autos ts → (r : ℕ) → r < length ts → IsRootKind face.boxes F.vars ts r
  pub untied : (ts : List Tree) → Choice F.autos ts → IsUntied F.vars ts
  pub order : (ts : List Tree) → Choice F.autos ts
      → Walks (refs_at ts) (GoesOn face.boxes ts) (var_roots F.vars) 0 (length ts)
