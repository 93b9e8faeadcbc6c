-- Choices of trees as dressed forests: what is asked of the box table, and the numbers of the cells.
use Rattle.std.specs.Prelude.{◌≡◌, ℕ, suc, List, [], ◌∷◌, ◌++◌, Some}
use Rattle.fore_base.specs.Lists.{Every}
use Rattle.ta_core.specs.Auto.{Automaton}
use Rattle.ta_core.specs.declared.symbol.Slot.{Slot}
use Rattle.ta_core.specs.declared.symbol.Slot.TheVariants.{Field, Link, Hook}
use Rattle.ta_core.specs.declared.symbol.Symbol.{Symbol}
use Rattle.ta_core.specs.declared.symbol.Symbol.TheVariants.{Null, Uninit, Dangling, Ref, Cell}
use Rattle.ta_core.specs.declared.tree.Tree.{Tree}
use Rattle.fa_core.specs.declared.boxes.BoxDef.{BoxDef}
use Rattle.fa_core.specs.Dressed.{Node, Parts, End, Nodes, node, no_parts, field, link, hook, under, leaf, no_nodes}
use Rattle.fa_core.specs.Dressed.{more}
use Rattle.fa_core.specs.Filled.{numbered}
use Rattle.fa_core.specs.Member.{inside_of, TreesOf, bare}

-- the trees without numbers and insides
abbrev pub bares : Nodes → List Tree
bares no_nodes = []
bares (more n ns) = bare n ∷ bares ns

-- how many trees there are
abbrev pub count : Nodes → ℕ
count no_nodes = 0
count (more n ns) = suc (count ns)

abbrev mutual
  -- the numbers of a tree's cells in the order of a walk through it, those of insides left out
  pub numbers : Node → List ℕ
  numbers (node c s ds ps) = c ∷ numbers_of ps

  -- the numbers of the cells below the slots
  pub numbers_of : Parts → List ℕ
  numbers_of no_parts = []
  numbers_of (field f e ps) = end_numbers e ++ numbers_of ps
  numbers_of (link b inside e ps) = end_numbers e ++ numbers_of ps
  numbers_of (hook b inside ps) = numbers_of ps

  -- the numbers of the cells below an end
  pub end_numbers : End → List ℕ
  end_numbers (under n) = numbers n
  end_numbers (leaf t) = []

-- the numbers of the cells of all trees
abbrev pub all_numbers : Nodes → List ℕ
all_numbers no_nodes = []
all_numbers (more n ns) = numbers n ++ all_numbers ns

-- the numbers are those from k on, in rising order
abbrev pub IsNumbered : ℕ → List ℕ → Type 0
IsNumbered k ns = ns ≡ numbered k ns

-- the table has a box of this number, with a dressed inside
abbrev pub HasInside : List BoxDef → ℕ → Type 0
HasInside T b = (inside : Nodes) × (autos : List Automaton) × (inside_of T b ≡ Some autos) × TreesOf T autos inside

-- the box of the slot, if it is a box edge, has a dressed inside
abbrev pub SlotHasInside : List BoxDef → Slot → Type 0
SlotHasInside T (Field f) = Unit {0}
SlotHasInside T (Link b) = HasInside T b
SlotHasInside T (Hook b) = HasInside T b

-- the boxes of the symbol's slots have dressed insides
abbrev pub SymbolHasInsides : List BoxDef → Symbol → Type 0
SymbolHasInsides T Null = Unit {0}
SymbolHasInsides T Uninit = Unit {0}
SymbolHasInsides T Dangling = Unit {0}
SymbolHasInsides T (Ref r) = Unit {0}
SymbolHasInsides T (Cell s ds ss) = Every (SlotHasInside T) ss

-- the boxes of all rules have dressed insides
abbrev pub HasInsides : List BoxDef → Automaton → Type 0
HasInsides T a = Every (λ r. SymbolHasInsides T r.symbol) a.rules
