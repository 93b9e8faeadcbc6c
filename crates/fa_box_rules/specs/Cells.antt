-- The cells of the inside of a box, as they are looked at before the box has a face.
use Rattle.std.specs.Prelude.{◌≡◌, ◌⊎◌, ℕ, zero, suc, List, [], ◌∷◌, ◌++◌, flat_map, Some, slice_get}
use Rattle.fore_base.specs.Lists.{Every, IsDistinct}
use Rattle.ta_core.specs.declared.symbol.Slot.{Slot}
use Rattle.ta_core.specs.declared.symbol.Slot.TheVariants.{Field, Link, Hook}
use Rattle.ta_core.specs.declared.symbol.Symbol.{Symbol}
use Rattle.ta_core.specs.declared.symbol.Symbol.TheVariants.{Null, Uninit, Dangling, Ref, Cell}
use Rattle.ta_core.specs.declared.tree.Tree.{Tree}
use Rattle.fa_core.specs.declared.faces.BoxFace.{BoxFace}
use Rattle.fa_core.specs.declared.faces.Face.{Face}
use Rattle.fa_core.specs.Filled.{Spot, spots, given_at, covers, IsTopped, HookFits, IsInOrder, target_of, face_of}
use Rattle.fa_core.specs.Filled.{fields_of}
use Rattle.fa_core.specs.Rearranged.{Rearranged}

-- Ends. The struct of a root, a port's with them, is that of the cell at the top of its tree.

-- the symbol is a cell of struct s, or names a root whose tree has no cell of another struct at its top: a root whose
-- tree is a leaf has no struct, and an end that names it is not looked at
abbrev pub MayName : List Tree → Symbol → ℕ → Type 0
MayName ts Null s = ⊥
MayName ts Uninit s = ⊥
MayName ts Dangling s = ⊥
MayName ts (Ref r) s = (t : Tree) × (slice_get ts r ≡ Some t) × ((u : ℕ) → IsTopped u t → u ≡ s)
MayName ts (Cell u ds ss) s = u ≡ s

-- what may stand at the end of a field to struct s: a null, uninitialised or dangling pointer, or a cell of that struct
abbrev pub FieldMayEnd : List Tree → ℕ → Symbol → Type 0
FieldMayEnd ts s Null = Unit {0}
FieldMayEnd ts s Uninit = Unit {0}
FieldMayEnd ts s Dangling = Unit {0}
FieldMayEnd ts s (Ref r) = MayName ts (Ref r) s
FieldMayEnd ts s (Cell u ds ss) = MayName ts (Cell u ds ss) s

-- the child stands at the end of the slot as the slot allows; `s` is the struct of the cell with the slot
abbrev pub EndMayFit : Face → List Tree → ℕ → Slot → Symbol → Type 0
EndMayFit face ts s (Field f) y = (t : ℕ) × (target_of face.shapes.structs s f ≡ Some t) × FieldMayEnd ts t y
EndMayFit face ts s (Link b) y = (x : BoxFace) × (t : ℕ) × (face_of face.boxes b ≡ Some x) × (x.input ≡ s)
    × (x.output ≡ Some t) × (MayName ts y t ⊎ ((y ≡ Dangling) × (x.gives_out ≡ [])))
EndMayFit face ts s (Hook b) y = ⊥

-- each child stands at the end of its slot as the slot allows
abbrev pub EndsMayFit : Face → List Tree → ℕ → List Slot → List Symbol → Type 0
EndsMayFit face ts s [] [] = Unit {0}
EndsMayFit face ts s [] (y ∷ ys) = ⊥
EndsMayFit face ts s (Hook b ∷ ss) ys = HookFits face s b × EndsMayFit face ts s ss ys
EndsMayFit face ts s (Field f ∷ ss) [] = ⊥
EndsMayFit face ts s (Field f ∷ ss) (y ∷ ys) = EndMayFit face ts s (Field f) y × EndsMayFit face ts s ss ys
EndsMayFit face ts s (Link b ∷ ss) [] = ⊥
EndsMayFit face ts s (Link b ∷ ss) (y ∷ ys) = EndMayFit face ts s (Link b) y × EndsMayFit face ts s ss ys

-- Cells.

-- an inner cell is right: its ends fit, its slots stand in order, and its own slots and the box edge at it give each of
-- its fields once
pub record IsRightCell (face : Face) (ts : List Tree) (p : Spot) : Type 0 where
  pub ends : EndsMayFit face ts p.shape p.slots p.ends
  pub order : IsInOrder face.boxes p.slots
  pub once : Rearranged (fields_of face.shapes.structs p.shape) (flat_map (covers face.boxes) p.slots ++ p.given)

-- a port is right: its ends fit, its slots stand in order, and no field is given twice
pub record IsRightPort (face : Face) (ts : List Tree) (p : Spot) : Type 0 where
  pub ends : EndsMayFit face ts p.shape p.slots p.ends
  pub order : IsInOrder face.boxes p.slots
  pub once : IsDistinct (flat_map (covers face.boxes) p.slots ++ p.given)

-- the cell at the top of a port's tree, if it has one, is a right port, and the cells below it are right
abbrev pub IsRightUnder : Face → List Tree → List Spot → Type 0
IsRightUnder face ts [] = Unit {0}
IsRightUnder face ts (p ∷ ps) = IsRightPort face ts p × Every (IsRightCell face ts) ps

-- the cells of these trees are right: the trees are those of the roots from r on, among all, and the first n of them
-- are ports
abbrev pub AreRight : Face → List Tree → ℕ → ℕ → List Tree → Type 0
AreRight face all r n [] = Unit {0}
AreRight face all r zero (t ∷ ts) = Every (IsRightCell face all) (spots face.boxes t (given_at face.boxes all r))
    × AreRight face all (suc r) zero ts
AreRight face all r (suc n) (t ∷ ts) = IsRightUnder face all (spots face.boxes t (given_at face.boxes all r))
    × AreRight face all (suc r) n ts
