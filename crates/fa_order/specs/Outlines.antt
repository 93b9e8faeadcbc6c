-- Outlines of trees: what decides whether the roots of a forest are those of a canonical one.
use Rattle.std.specs.Prelude.{ℕ, List, map}
use Rattle.ta_core.specs.declared.symbol.Symbol.{Symbol}
use Rattle.ta_core.specs.declared.symbol.Symbol.TheVariants.{Null, Uninit, Dangling, Ref, Cell}
use Rattle.ta_core.specs.declared.tree.Tree.{Tree, out-Tree}
use Rattle.fa_core.specs.Ways.{ways, roots_met, signature}
use Rattle.fa_core.specs.declared.faces.BoxFace.{BoxFace}
use Rattle.fa_core.specs.declared.signature.RefMark.{RefMark}

-- what a child shows: its leaf, or, where it is a cell, the roots to which its tree refers
pub data Stub : Type 0 where
  leaf : Symbol → Stub
  cell : List ℕ → Stub

-- what a child with this symbol shows, whose tree refers to these roots
abbrev pub stub_by : Symbol → List ℕ → Stub
stub_by Null rs = leaf Null
stub_by Uninit rs = leaf Uninit
stub_by Dangling rs = leaf Dangling
stub_by (Ref r) rs = leaf (Ref r)
stub_by (Cell s ds ss) rs = cell rs

-- what a child shows, the roots in the order of first visit
abbrev pub stub : Tree → Stub
stub t = stub_by (out-Tree t).symbol (roots_met (ways t))

-- the outline of a tree: the symbol at its top, its signature, and what its children show
pub record Outline : Type 0 where
  pub top : Symbol
  pub marks : List RefMark
  pub stubs : List Stub

abbrev pub outline : List BoxFace → Tree → Outline
outline bs t = record { top = (out-Tree t).symbol; marks = signature bs t; stubs = map stub (out-Tree t).children }
