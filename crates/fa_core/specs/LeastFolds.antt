-- Which folds can be made of a forest, and which of them comes first.
use Rattle.std.specs.Prelude.{◌≡◌, ◌⊎◌, ◌<◌, ◌≤◌, ℕ, List, [], ◌∷◌, slice_get, Option, Some, None}
use Rattle.fa_core.specs.declared.boxes.BoxDef.{BoxDef}
use Rattle.fa_core.specs.declared.folds.FoldStep.{FoldStep}
use Rattle.fa_core.specs.declared.forest.Forest.{Forest}
use Rattle.fa_core.specs.Boxes.{Boxes}
use Rattle.fa_core.specs.Folding.{Within, IsFold}

-- a fold's output comes no later than this one; a fold without output comes first
abbrev pub OutputUpTo : Option ℕ → Option ℕ → Type 0
OutputUpTo None q = Unit {0}
OutputUpTo (Some o) None = ⊥
OutputUpTo (Some o) (Some q) = o ≤ q

-- the fold's box, input and output come no later than these
abbrev pub IsUpTo : FoldStep → ℕ → ℕ → Option ℕ → Type 0
IsUpTo x b i o = (x.box_no < b) ⊎ ((x.box_no ≡ b) × ((x.input < i) ⊎ ((x.input ≡ i) × OutputUpTo x.output o)))

-- over the structs and boxes of the table T
module _ (T : Boxes) where
  -- box b can be folded at this input and output
  abbrev pub CanFold : Forest → ℕ → ℕ → Option ℕ → Type 0
  CanFold F b i o = (def : BoxDef) × (slice_get T.defs b ≡ Some def) × Within T.face.boxes F def i o

  -- nothing can be folded
  abbrev pub IsFolded : Forest → Type 0
  IsFolded F = (b i : ℕ) (o : Option ℕ) → CanFold F b i o → ⊥

  -- G is F after the fold, which takes the least box, input and output that can be folded
  pub record IsLeastFold (F : Forest) (x : FoldStep) (G : Forest) : Type 0 where
    pub fold : IsFold T.face.boxes T.defs F x G
    pub can : CanFold F x.box_no x.input x.output
    pub least : (b i : ℕ) (o : Option ℕ) → CanFold F b i o → IsUpTo x b i o

  -- such folds lead from F to G
  abbrev pub FoldsTo : Forest → List FoldStep → Forest → Type 0
  FoldsTo F [] G = F ≡ G
  FoldsTo F (x ∷ xs) G = (H : Forest) × IsLeastFold F x H × FoldsTo H xs G
