-- Texts of boxes, and the first line that is in the way.
use Rattle.std.specs.Prelude.{◌≡◌, ◌⊎◌, ℕ, suc, List, [], ◌∷◌, ◌++◌, length, take, drop, nat_le, cond}
use Rattle.fore_base.specs.Lists.{Every, Paired}
use Rattle.fa_lines.specs.Pieces.{lines_of}
use Rattle.fa_lines.specs.Says.{Says}
use Rattle.fa_lines.specs.declared.line.Line.{Line}
use Rattle.fa_lines.specs.declared.line.Line.TheVariants.{Ends}
use Rattle.fa_lines.specs.declared.line.Term.{Term}
use Rattle.fa_lines.specs.declared.line.Term.TheVariants.{Null, Uninit, Dangling, Ref, Cell}
use Rattle.fa_written.specs.declared.draft.RuleDraft.{RuleDraft}
use Rattle.fa_written.specs.declared.draft.PartDraft.{PartDraft}
use Rattle.fa_written.specs.declared.draft.BoxDraft.{BoxDraft}
use Rattle.fa_written.specs.Forms.{IsForm, IsLive, Closes}

-- the lines of a rule that refers to none of the n components: one, or none
abbrev pub missing_in : ℕ → ℕ → Term → List ℕ
missing_in n line Null = []
missing_in n line Uninit = []
missing_in n line Dangling = []
missing_in n line (Ref r) = cond (nat_le n r) (line ∷ []) []
missing_in n line (Cell shape ds slots) = []

abbrev pub missing_rules : ℕ → List RuleDraft → List ℕ
missing_rules n [] = []
missing_rules n (r ∷ rs) = missing_in n r.line r.term ++ missing_rules n rs

abbrev pub missing_parts : ℕ → List PartDraft → List ℕ
missing_parts n [] = []
missing_parts n (p ∷ ps) = missing_rules n p.rules ++ missing_parts n ps

-- the lines of the rules of components that refer to none of them
abbrev pub missing_of : List PartDraft → List ℕ
missing_of ps = missing_parts (length ps) ps

-- the lines of the rules of a box that refer to components that it does not have
abbrev pub missing : BoxDraft → List ℕ
missing b = missing_of b.parts

abbrev pub RefersWithin : BoxDraft → Type 0
RefersWithin b = missing b ≡ []

-- the first lines of the text say these
abbrev pub Begins : List ℕ → List Line → Type 0
Begins text lines = Paired Says (take (length lines) (lines_of text)) lines

-- the text is that of these boxes
pub record IsText (text : List ℕ) (bs : List BoxDraft) : Type 0 where
  pub lines : List Line
  pub said : Paired Says (lines_of text) lines
  pub form : IsForm lines bs
  pub refs : Every RefersWithin bs

-- with the next line no file of boxes is begun; at the end: the lines are none
abbrev pub IsDead : List Line → List (List ℕ) → Type 0
IsDead pre [] = (bs : List BoxDraft) → IsForm pre bs → ⊥
IsDead pre (bytes ∷ rest) = (line : Line) → Says bytes line → IsLive (pre ++ line ∷ []) → ⊥

-- where the next line says that a box ends, this box refers to components that it has
abbrev pub ClosesWithin : List Line → List (List ℕ) → Type 0
ClosesWithin pre [] = Unit {0}
ClosesWithin pre (bytes ∷ rest) =
    Says bytes Ends → (bs : List BoxDraft) (last : BoxDraft) → Closes pre bs last → RefersWithin last

-- the lines before line n begin a file of boxes, the boxes that end there refer to components that they have, so does
-- one that line n would end, and with line n no file of boxes is begun; where the text ends there, it is none
pub record IsBadLine (text : List ℕ) (n : ℕ) : Type 0 where
  pub before : List Line
  pub place : n ≡ suc (length before)
  pub said : Begins text before
  pub live : IsLive before
  pub refs : (k : ℕ) (bs : List BoxDraft) → IsForm (take k before) bs → Every RefersWithin bs
  pub closed : ClosesWithin before (drop (length before) (lines_of text))
  pub dead : IsDead before (drop (length before) (lines_of text))

-- the first lines are boxes, of which the last, which an end closes, alone refers to a component that it does not have,
-- first on line n
pub record IsMissingRef (text : List ℕ) (n : ℕ) : Type 0 where
  pub before : List Line
  pub boxes : List BoxDraft
  pub last : BoxDraft
  pub others : List ℕ
  pub said : Begins text (before ++ Ends ∷ [])
  pub closes : Closes before boxes last
  pub refs : Every RefersWithin boxes
  pub first : missing last ≡ n ∷ others

-- the first line that is in the way
abbrev pub IsFirstBad : List ℕ → ℕ → Type 0
IsFirstBad text n = IsBadLine text n ⊎ IsMissingRef text n
