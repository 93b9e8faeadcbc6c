-- Trees that are picked of the insides of boxes.
use Rattle.std.specs.Prelude.{◌≡◌, ℕ, List, [], ◌∷◌, Some, slice_get}
use Rattle.ta_core.specs.declared.tree.Tree.{Tree}
use Rattle.fa_core.specs.declared.boxes.BoxDef.{BoxDef}
use Rattle.fa_core.specs.Filled.{Choice}

-- a tree of each component of the inside of each box
abbrev pub ArePicked : List BoxDef → List (List Tree) → Type 0
ArePicked [] [] = Unit {0}
ArePicked [] (ts ∷ boxes) = ⊥
ArePicked (d ∷ defs) [] = ⊥
ArePicked (d ∷ defs) (ts ∷ boxes) = Choice d.inside.autos ts × ArePicked defs boxes

-- a tree of each component of the inside of the box of this number
abbrev pub IsPickedAt : List BoxDef → ℕ → List Tree → Type 0
IsPickedAt defs b ts = (d : BoxDef) → slice_get defs b ≡ Some d → Choice d.inside.autos ts
