-- Which leaves may stand in a pointer field of a root.
use Rattle.std.specs.Prelude.{◌≡◌, ◌<◌, ℕ, List, length, Option, Some, None}
use Rattle.fore_base.specs.declared.shape.Shape.{Shape}
use Rattle.ta_core.specs.Single.{HasOneTop}
use Rattle.ta_core.specs.declared.symbol.Symbol.{Symbol}
use Rattle.ta_core.specs.declared.symbol.Symbol.TheVariants.{Null as NullSymbol, Uninit as UninitSymbol}
use Rattle.ta_core.specs.declared.symbol.Symbol.TheVariants.{Dangling as DanglingSymbol, Ref, Cell}
use Rattle.fa_core.specs.Filled.{target_of}
use Rattle.fa_core.specs.declared.forest.Forest.{Forest}
use Rattle.fa_core.specs.declared.forest.Target.{Target}
use Rattle.fa_core.specs.declared.forest.Target.TheVariants.{Null, Uninit, Dangling, At}
use Rattle.fa_sound.specs.Components.{component_at}
use Rattle.fa_split.specs.Split.{top_rule}

-- the struct of a cell's symbol
abbrev pub symbol_shape : Symbol → Option ℕ
symbol_shape NullSymbol = None
symbol_shape UninitSymbol = None
symbol_shape DanglingSymbol = None
symbol_shape (Ref r) = None
symbol_shape (Cell s ds ss) = Some s

-- the struct at the top of root r, which has one rule
abbrev pub shape_at : Forest → ℕ → Option ℕ
shape_at F r = symbol_shape (top_rule (component_at F.autos r)).symbol

-- k is a root with one rule, of the struct to which field f of root r points
pub record IsRootFor (hs : List Shape) (F : Forest) (r f k : ℕ) : Type 0 where
  pub root : k < length F.autos
  pub top : HasOneTop (component_at F.autos k)
  pub above : ℕ
  pub is_above : shape_at F r ≡ Some above
  pub below : ℕ
  pub is_below : shape_at F k ≡ Some below
  pub points : target_of hs above f ≡ Some below

-- the leaf may stand in field f of root r: it names no root, or such a one
abbrev pub LeafFits : List Shape → Forest → ℕ → ℕ → Target → Type 0
LeafFits hs F r f Null = Unit {0}
LeafFits hs F r f Uninit = Unit {0}
LeafFits hs F r f Dangling = Unit {0}
LeafFits hs F r f (At k) = IsRootFor hs F r f k
