-- Leaves put in the place of references: for any map from the numbers of roots to leaves, also one that sends two
-- numbers to one leaf.
use Rattle.std.specs.Prelude.{ℕ, map}
use Rattle.ta_core.specs.Auto.{Automaton}
use Rattle.ta_core.specs.declared.auto.Rule.{Rule}
use Rattle.ta_core.specs.declared.symbol.Symbol.{Symbol}
use Rattle.ta_core.specs.declared.symbol.Symbol.TheVariants.{Null as NullSymbol, Uninit as UninitSymbol}
use Rattle.ta_core.specs.declared.symbol.Symbol.TheVariants.{Dangling as DanglingSymbol, Ref, Cell as CellSymbol}
use Rattle.fa_core.specs.declared.forest.Target.{Target}
use Rattle.fa_core.specs.declared.forest.Target.TheVariants.{Null, Uninit, Dangling, At}
use Rattle.fa_core.specs.Dressed.{Node, Parts, End, Nodes, node, no_parts, field, link, hook, under, leaf, no_nodes}
use Rattle.fa_core.specs.Dressed.{more}
use Rattle.fa_core.specs.Member.{leaf_symbol}

-- a reference becomes the leaf of its root; another leaf stays
abbrev pub placed_leaf : (ℕ → Target) → Target → Target
placed_leaf f Null = Null
placed_leaf f Uninit = Uninit
placed_leaf f Dangling = Dangling
placed_leaf f (At k) = f k

abbrev mutual
  -- the tree with other leaves; insides have roots of their own, and stay
  pub placed : (ℕ → Target) → Node → Node
  placed f (node c s ds ps) = node c s ds (placed_parts f ps)

  -- the slots, and what stands below them
  pub placed_parts : (ℕ → Target) → Parts → Parts
  placed_parts f no_parts = no_parts
  placed_parts f (field g e ps) = field g (placed_end f e) (placed_parts f ps)
  placed_parts f (link b inside e ps) = link b inside (placed_end f e) (placed_parts f ps)
  placed_parts f (hook b inside ps) = hook b inside (placed_parts f ps)

  -- what stands at an end
  pub placed_end : (ℕ → Target) → End → End
  placed_end f (under n) = under (placed f n)
  placed_end f (leaf t) = leaf (placed_leaf f t)

-- all trees with other leaves
abbrev pub placed_all : (ℕ → Target) → Nodes → Nodes
placed_all f no_nodes = no_nodes
placed_all f (more n ns) = more (placed f n) (placed_all f ns)

-- the symbol of the other leaf
abbrev pub placed_symbol : (ℕ → Target) → Symbol → Symbol
placed_symbol f NullSymbol = NullSymbol
placed_symbol f UninitSymbol = UninitSymbol
placed_symbol f DanglingSymbol = DanglingSymbol
placed_symbol f (Ref k) = leaf_symbol (f k)
placed_symbol f (CellSymbol s ds ss) = CellSymbol s ds ss

-- the rule of the other leaf
abbrev pub placed_rule : (ℕ → Target) → Rule → Rule
placed_rule f r = record { state = r.state; symbol = placed_symbol f r.symbol; children = r.children }

-- the automaton of the trees with other leaves
abbrev pub placed_auto : (ℕ → Target) → Automaton → Automaton
placed_auto f a = record { states = a.states; roots = a.roots; rules = map (placed_rule f) a.rules }
