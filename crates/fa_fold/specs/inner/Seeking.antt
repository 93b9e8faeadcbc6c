-- The least place at which one box can be folded, and the least output of one box at one root.
use Rattle.std.specs.Prelude.{◌≡◌, ◌⊎◌, ◌<◌, ◌≤◌, ℕ, Option, Some, None, IsSome}
use Rattle.fa_core.specs.Boxes.{Boxes}
use Rattle.fa_core.specs.LeastFolds.{CanFold, OutputUpTo}
use Rattle.fa_core.specs.declared.boxes.BoxDef.{BoxDef}
use Rattle.fa_core.specs.declared.forest.Forest.{Forest}
use Rattle.fa_fold.specs.declared.least.FoldSite.{FoldSite}

module _ (T : Boxes) (F : Forest) where
  -- no root is the output of box n at root i
  abbrev pub HasNoEnd : ℕ → ℕ → Type 0
  HasNoEnd n i = (j : ℕ) → CanFold T F n i (Some j) → ⊥

  -- root k is the least output of box n at root i
  pub record IsLeastEnd (n i k : ℕ) : Type 0 where
    pub can : CanFold T F n i (Some k)
    pub least : (j : ℕ) → CanFold T F n i (Some j) → k ≤ j

  -- box n can't be folded at root i
  abbrev pub CanNotFoldAt : ℕ → ℕ → Type 0
  CanNotFoldAt n i = (o : Option ℕ) → CanFold T F n i o → ⊥

  -- the place is the least of box n at root i
  pub record IsLeastAt (n i : ℕ) (x : FoldSite) : Type 0 where
    pub box : x.box_no ≡ n
    pub input : x.input ≡ i
    pub can : CanFold T F x.box_no x.input x.output
    pub least : (o : Option ℕ) → CanFold T F n i o → OutputUpTo x.output o

  -- box n can't be folded
  abbrev pub CanNotFold : ℕ → Type 0
  CanNotFold n = (i : ℕ) → CanNotFoldAt n i

  -- the place is the least of box n
  pub record IsLeastOf (n : ℕ) (x : FoldSite) : Type 0 where
    pub box : x.box_no ≡ n
    pub can : CanFold T F x.box_no x.input x.output
    pub least : (i : ℕ) (o : Option ℕ) → CanFold T F n i o → (x.input < i) ⊎ ((x.input ≡ i) × OutputUpTo x.output o)

-- the box is there, and has an output
abbrev pub HasOutput : Option BoxDef → Type 0
HasOutput None = ⊥
HasOutput (Some b) = IsSome b.face.output
