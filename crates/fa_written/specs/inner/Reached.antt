-- How far a text has been read.
use Rattle.std.specs.Prelude.{◌≡◌, ◌⊎◌, ℕ, suc, Bool, true, false, List, [], ◌∷◌, ◌++◌, length, Option, Some, None}
use Rattle.fore_base.specs.Lists.{Every, Paired}
use Rattle.fa_lines.specs.Pieces.{lines_of}
use Rattle.fa_lines.specs.Says.{Says}
use Rattle.fa_lines.specs.declared.line.Line.{Line}
use Rattle.fa_lines.specs.declared.line.Line.TheVariants.{Skipped, Opens, Root, Rule, Ends}
use Rattle.fa_written.specs.declared.fault.DraftFault.{DraftFault}
use Rattle.fa_written.specs.declared.fault.DraftFault.TheVariants.{B1, Memory}
use Rattle.fa_written.specs.declared.draft.BoxDraft.{BoxDraft}
use Rattle.fa_written.specs.declared.draft.Reading.{Reading}
use Rattle.fa_written.specs.declared.draft.OpenBox.{OpenBox}
use Rattle.fa_written.specs.Drafts.{RefersWithin, missing_of}
use Rattle.fa_written.specs.inner.Moves.{moved, run, reading}

-- the first item, if there is one
abbrev pub first_of : List ℕ → Option ℕ
first_of [] = None
first_of (x ∷ xs) = Some x

-- what stands behind the newline in front
abbrev pub behind_newline : List ℕ → List ℕ
behind_newline [] = []
behind_newline (b ∷ bs) = bs

-- the lines before this number have been read, and this is what they gave
pub record Reached (text : List ℕ) (number : ℕ) (rest : List ℕ) (s : Reading) : Type 0 where
  pub lines : List Line
  pub front : List (List ℕ)
  pub place : number ≡ suc (length lines)
  pub split : lines_of text ≡ front ++ lines_of rest
  pub said : Paired Says front lines
  pub ran : run (reading [] None) 1 lines ≡ Some s
  pub refs : Every RefersWithin s.boxes

-- the line of the first reference of the open box to a component that it does not have, if there is one
abbrev pub open_missing : Option OpenBox → Option ℕ
open_missing None = None
open_missing (Some b) = first_of (missing_of b.parts)

-- the line ends a box
abbrev pub is_end : Line → Bool
is_end Skipped = false
is_end (Opens name input output) = false
is_end (Root r qs) = false
is_end (Rule q term) = false
is_end Ends = true

-- a box that the line ends refers to components that it has
abbrev pub EndsWithin : Line → Reading → Type 0
EndsWithin line s = is_end line ≡ true → open_missing s.current ≡ None

-- one line more is read
pub record Took (bytes : List ℕ) (number : ℕ) (s t : Reading) : Type 0 where
  pub line : Line
  pub said : Says bytes line
  pub moves : moved s number line ≡ Some t
  pub refs : EndsWithin line s

-- the line says nothing that can be taken
pub data Untaken (bytes : List ℕ) (number : ℕ) (s : Reading) : Type 0 where
  unsaid : ((line : Line) → Says bytes line → ⊥) → Untaken bytes number s
  unfit : (line : Line) → Says bytes line → moved s number line ≡ None → EndsWithin line s → Untaken bytes number s

-- the line says that the box ends, which refers, first on line n, to a component that it does not have
pub record Missed (bytes : List ℕ) (s : Reading) (n : ℕ) : Type 0 where
  pub line : Line
  pub said : Says bytes line
  pub ends : is_end line ≡ true
  pub first : open_missing s.current ≡ Some n

abbrev pub Refuses : List ℕ → ℕ → Reading → DraftFault → Type 0
Refuses bytes number s (B1 n) = ((n ≡ number) × Untaken bytes number s) ⊎ Missed bytes s n
Refuses bytes number s Memory = Unit {0}
