-- Which stores a forest stands for, and when one forest groups the cells of another into other trees.
use Rattle.std.specs.Prelude.{◌≡◌, ℕ, zero, suc, List, [], ◌∷◌, ◌++◌, map, length, Option, Some, None}
use Rattle.fore_base.specs.Heap.{IsProper}
use Rattle.fore_base.specs.Lists.{IsIn, Every}
use Rattle.fore_base.specs.Shapes.{targets_of}
use Rattle.fore_base.specs.declared.shape.Shape.{Shape}
use Rattle.fore_base.specs.declared.store.Value.{Value}
use Rattle.fore_base.specs.declared.store.CellRec.{CellRec}
use Rattle.fore_base.specs.declared.store.Store.{Store}
use Rattle.ta_core.specs.Auto.{Automaton}
use Rattle.ta_core.specs.Language.{InLanguage}
use Rattle.ta_core.specs.declared.symbol.Slot.{Slot}
use Rattle.ta_core.specs.declared.symbol.Slot.TheVariants.{Field, Link, Hook}
use Rattle.ta_core.specs.declared.symbol.Symbol.{Symbol}
use Rattle.ta_core.specs.declared.symbol.Symbol.TheVariants.{Null as NullSymbol, Uninit as UninitSymbol}
use Rattle.ta_core.specs.declared.symbol.Symbol.TheVariants.{Dangling as DanglingSymbol, Ref, Cell as CellSymbol}
use Rattle.ta_core.specs.declared.tree.Tree.{Tree, roll-Tree}
use Rattle.fa_core.specs.declared.boxes.BoxDef.{BoxDef}
use Rattle.fa_core.specs.declared.forest.Target.{Target}
use Rattle.fa_core.specs.declared.forest.Target.TheVariants.{Null, Uninit, Dangling, At}
use Rattle.fa_core.specs.declared.forest.Forest.{Forest}
use Rattle.fa_core.specs.Dressed.{Node, Parts, End, Nodes, node, no_parts, field, link, hook, under, leaf, no_nodes}
use Rattle.fa_core.specs.Dressed.{more, Fact, Head, Points, facts, cells, roots_of, value_in}
use Rattle.fa_core.specs.Rearranged.{Rearranged}

-- Trees without numbers and insides.

-- the symbol of a leaf
abbrev pub leaf_symbol : Target → Symbol
leaf_symbol Null = NullSymbol
leaf_symbol Uninit = UninitSymbol
leaf_symbol Dangling = DanglingSymbol
leaf_symbol (At r) = Ref r

-- the slots of a cell's symbol
abbrev pub slots_of : Parts → List Slot
slots_of no_parts = []
slots_of (field f e ps) = Field f ∷ slots_of ps
slots_of (link b inside e ps) = Link b ∷ slots_of ps
slots_of (hook b inside ps) = Hook b ∷ slots_of ps

abbrev mutual
  -- a dressed tree without its numbers and insides
  pub bare : Node → Tree
  bare (node c s ds ps) = roll-Tree (record { symbol = CellSymbol s ds (slots_of ps); children = bare_parts ps })

  -- the children
  pub bare_parts : Parts → List Tree
  bare_parts no_parts = []
  bare_parts (field f e ps) = bare_end e ∷ bare_parts ps
  bare_parts (link b inside e ps) = bare_end e ∷ bare_parts ps
  bare_parts (hook b inside ps) = bare_parts ps

  -- the child at an end
  pub bare_end : End → Tree
  bare_end (under n) = bare n
  bare_end (leaf t) = roll-Tree (record { symbol = leaf_symbol t; children = [] })

-- Dressed forests of a forest.

-- the components of the inside of box b
abbrev pub inside_of : List BoxDef → ℕ → Option (List Automaton)
inside_of [] b = None
inside_of (d ∷ ds) zero = Some d.inside.autos
inside_of (d ∷ ds) (suc b) = inside_of ds b

abbrev mutual
  -- each inside in the tree is of its box
  pub InsidesOf : List BoxDef → Node → Type 0
  InsidesOf T (node c s ds ps) = InsidesOfParts T ps

  -- each inside of the slots and of what stands below them is of its box
  pub InsidesOfParts : List BoxDef → Parts → Type 0
  InsidesOfParts T no_parts = Unit {0}
  InsidesOfParts T (field f e ps) = InsidesOfEnd T e × InsidesOfParts T ps
  InsidesOfParts T (link b inside e ps) =
      ((autos : List Automaton) × (inside_of T b ≡ Some autos) × TreesOf T autos inside) × InsidesOfEnd T e
      × InsidesOfParts T ps
  InsidesOfParts T (hook b inside ps) =
      ((autos : List Automaton) × (inside_of T b ≡ Some autos) × TreesOf T autos inside) × InsidesOfParts T ps

  -- each inside below the end is of its box
  pub InsidesOfEnd : List BoxDef → End → Type 0
  InsidesOfEnd T (under n) = InsidesOf T n
  InsidesOfEnd T (leaf t) = Unit {0}

  -- one tree for each component: without numbers and insides it is in the component's language, and each inside in it
  -- is of its box
  pub TreesOf : List BoxDef → List Automaton → Nodes → Type 0
  TreesOf T [] no_nodes = Unit {0}
  TreesOf T [] (more n ns) = ⊥
  TreesOf T (a ∷ autos) no_nodes = ⊥
  TreesOf T (a ∷ autos) (more n ns) = InLanguage a (bare n) × InsidesOf T n × TreesOf T autos ns

-- d is a dressed forest of F, by the box table T
abbrev pub OfForest : List BoxDef → Forest → Nodes → Type 0
OfForest T F d = TreesOf T F.autos d

-- Members.

-- the pointers of cell c from field k on, with their values
abbrev pub points : ℕ → ℕ → List Value → List Fact
points c k [] = []
points c k (v ∷ vs) = Points c k v ∷ points c (suc k) vs

-- the head and the fields of a cell
abbrev pub cell_facts : CellRec → List Fact
cell_facts c = Head c.number c.shape c.datums ∷ points c.number 0 c.fields

-- the heads and fields of a store's cells
abbrev pub store_facts : List CellRec → List Fact
store_facts [] = []
store_facts (c ∷ cs) = cell_facts c ++ store_facts cs

-- the cell has a value for each pointer field of its struct, and no more
abbrev pub HasItsFields : List Shape → CellRec → Type 0
HasItsFields hs c = length c.fields ≡ length (targets_of hs c.shape)

-- F stands for the store s by the dressed forest d: d is one of F, its facts are the heads and fields of s, each target
-- is its variable, and the data are equal
pub record StandsBy (hs : List Shape) (T : List BoxDef) (F : Forest) (d : Nodes) (s : Store) : Type 0 where
  pub proper : IsProper s
  pub fields : Every (HasItsFields hs) s.cells
  pub of : OfForest T F d
  pub same_facts : Rearranged (facts d) (store_facts s.cells)
  pub vars : s.vars ≡ map (value_in (roots_of d)) F.vars
  pub data_vars : s.data_vars ≡ F.data_vars

-- F stands for the store s: s is a member of F, by the structs hs and the box table T
abbrev pub Stands : List Shape → List BoxDef → Forest → Store → Type 0
Stands hs T F s = (d : Nodes) × StandsBy hs T F d s

-- Regrouping.

-- e is a dressed forest of F with the cells of the dressed forest d of G: the same symbols and insides, each slot with
-- the same value at its end, and each variable with the same value
pub record Regrouping (T : List BoxDef) (F G : Forest) (d e : Nodes) : Type 0 where
  pub of : OfForest T F e
  pub same_cells : Rearranged (cells d) (cells e)
  pub vars : map (value_in (roots_of d)) G.vars ≡ map (value_in (roots_of e)) F.vars
  pub data_vars : G.data_vars ≡ F.data_vars

-- each dressed forest of G can be regrouped into one of F
abbrev pub Regroups : List BoxDef → Forest → Forest → Type 0
Regroups T F G = (d : Nodes) → OfForest T G d → (e : Nodes) × Regrouping T F G d e

-- each dressed forest of F can be regrouped into one of some forest of the list
abbrev pub RegroupsInto : List BoxDef → Forest → List Forest → Type 0
RegroupsInto T F Gs = (d : Nodes) → OfForest T F d → (G : Forest) × IsIn G Gs × ((e : Nodes) × Regrouping T G F d e)
