-- The cells of a tree below its top, and the ends and the order of all its cells, apart from what is given at the top.
use Rattle.std.specs.Prelude.{◌≡◌, ◌⊎◌, ℕ, Bool, true, false, List, [], ◌++◌, flat_map, Some, slice_get}
use Rattle.fore_base.specs.Lists.{IsIn, Every}
use Rattle.fore_base.specs.declared.store.Datum.{Datum}
use Rattle.ta_core.specs.Auto.{Automaton}
use Rattle.ta_core.specs.Language.{InLanguage}
use Rattle.ta_core.specs.declared.auto.Rule.{Rule}
use Rattle.ta_core.specs.declared.symbol.Slot.{Slot}
use Rattle.ta_core.specs.declared.symbol.Symbol.{Symbol}
use Rattle.ta_core.specs.declared.symbol.Symbol.TheVariants.{Cell}
use Rattle.ta_core.specs.declared.tree.Tree.{Tree, out-Tree}
use Rattle.fa_core.specs.declared.faces.Face.{Face}
use Rattle.fa_core.specs.Cells.{edges}
use Rattle.fa_core.specs.Filled.{Choice, Spot, spots, covers, fields_of, IsInOrder, IsTopped}
use Rattle.fa_core.specs.Rearranged.{Rearranged}
use Rattle.fa_core.specs.Ways.{given_by}
use Rattle.fa_filling.specs.Parted.{is_of}
use Rattle.fa_box_rules.specs.Cells.{EndsMayFit}

-- the cell's ends fit, and its slots stand in order
pub record IsShapedSpot (face : Face) (ts : List Tree) (p : Spot) : Type 0 where
  pub ends : EndsMayFit face ts p.shape p.slots p.ends
  pub order : IsInOrder face.boxes p.slots

-- each field of the cell is given once
abbrev pub IsOnceSpot : Face → Spot → Type 0
IsOnceSpot face p = Rearranged (fields_of face.shapes.structs p.shape) (flat_map (covers face.boxes) p.slots ++ p.given)

-- so for the cells of the tree of root r
abbrev pub IsShapedRoot : Face → ℕ → List Tree → Type 0
IsShapedRoot face r ts = (t : Tree) → slice_get ts r ≡ Some t → Every (IsShapedSpot face ts) (spots face.boxes t [])

-- so for those below its top
abbrev pub IsOnceRoot : Face → ℕ → List Tree → Type 0
IsOnceRoot face r ts = (t : Tree) (s : ℕ) (ds : List Datum) (ss : List Slot) → slice_get ts r ≡ Some t
    → (out-Tree t).symbol ≡ Cell s ds ss
    → Every (λ (e : Slot × Tree). Every (IsOnceSpot face) (spots face.boxes e.1 (given_by face.boxes e.0)))
    (edges ss (out-Tree t).children)

-- the structs are those of the cells at the tops of trees
pub record AreTopStructs (a : Automaton) (structs : List ℕ) : Type 0 where
  pub each : (t : Tree) (s : ℕ) → InLanguage a t → IsTopped s t → IsIn s structs
  pub some : (s : ℕ) → IsIn s structs → (t : Tree) × InLanguage a t × IsTopped s t

-- the structs are those of the rules' cells
pub record AreCellStructs (rules : List Rule) (structs : List ℕ) : Type 0 where
  pub each : (o : Rule) (s : ℕ) → IsIn o rules → is_of s o.symbol ≡ true → IsIn s structs
  pub some : (s : ℕ) → IsIn s structs → (o : Rule) × IsIn o rules × (is_of s o.symbol ≡ true)

-- the struct of a cell with the symbol is one more of them
pub record AddsStruct (y : Symbol) (old new : List ℕ) : Type 0 where
  pub there : (s : ℕ) → is_of s y ≡ true → IsIn s new
  pub kept : (m : ℕ) → IsIn m old → IsIn m new
  pub only : (m : ℕ) → IsIn m new → IsIn m old ⊎ (is_of m y ≡ true)

-- P holds of each choice in which the tree of root r has a cell of struct s at its top, or fails for some choice
abbrev pub ForStruct : List Automaton → ℕ → ℕ → (List Tree → Type 0) → Bool → Type 0
ForStruct autos r s P true = (ts : List Tree) → Choice autos ts
    → ((t : Tree) → slice_get ts r ≡ Some t → IsTopped s t) → P ts
ForStruct autos r s P false = (ts : List Tree) × Choice autos ts × (P ts → ⊥)
