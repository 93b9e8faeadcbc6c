-- Which lines are a file of boxes.
use Rattle.std.specs.Prelude.{◌≡◌, ◌≤◌, ℕ, suc, List, [], ◌∷◌, ◌++◌, map, length, Option, Some, None}
use Rattle.fore_base.specs.Lists.{Every}
use Rattle.fa_lines.specs.declared.line.Line.{Line}
use Rattle.fa_lines.specs.declared.line.Line.TheVariants.{Skipped, Opens, Root, Rule, Ends}
use Rattle.fa_written.specs.declared.draft.RuleDraft.{RuleDraft}
use Rattle.fa_written.specs.declared.draft.PartDraft.{PartDraft}
use Rattle.fa_written.specs.declared.draft.Head.{Head}
use Rattle.fa_written.specs.declared.draft.BoxDraft.{BoxDraft}

-- a line with its number
abbrev pub Numbered : Type 0
Numbered = ℕ × Line

abbrev pub put_before : ℕ → Line → List Numbered → List Numbered
put_before n Skipped xs = xs
put_before n (Opens name input output) xs = (n, Opens name input output) ∷ xs
put_before n (Root r qs) xs = (n, Root r qs) ∷ xs
put_before n (Rule q term) xs = (n, Rule q term) ∷ xs
put_before n Ends xs = (n, Ends) ∷ xs

-- the lines that are not passed over, with their numbers, the first line being n
abbrev pub numbered : ℕ → List Line → List Numbered
numbered n [] = []
numbered n (l ∷ ls) = put_before n l (numbered (suc n) ls)

-- The lines of boxes.

abbrev pub rule_line : RuleDraft → Numbered
rule_line r = (r.line, Rule r.state r.term)

-- a component of this number: its root states, and then its rules
abbrev pub part_lines : ℕ → PartDraft → List Numbered
part_lines k p = (p.line, Root k p.roots) ∷ map rule_line p.rules

-- components, the first of this number
abbrev pub parts_lines : ℕ → List PartDraft → List Numbered
parts_lines k [] = []
parts_lines k (p ∷ ps) = part_lines k p ++ parts_lines (suc k) ps

abbrev pub head_line : Head → Numbered
head_line h = (h.line, Opens h.name h.input h.output)

abbrev pub box_lines : BoxDraft → List Numbered
box_lines b = head_line b.head ∷ (parts_lines 0 b.parts ++ (b.end, Ends) ∷ [])

abbrev pub file_lines : List BoxDraft → List Numbered
file_lines [] = []
file_lines (b ∷ bs) = box_lines b ++ file_lines bs

-- how many components are ports
abbrev pub port_count : Option (List ℕ) → ℕ
port_count None = 1
port_count (Some name) = 2

-- the box has a component for each of its ports
abbrev pub HasPorts : BoxDraft → Type 0
HasPorts b = port_count b.head.output ≤ length b.parts

-- the lines are those of these boxes
abbrev pub IsForm : List Line → List BoxDraft → Type 0
IsForm lines bs = (numbered 1 lines ≡ file_lines bs) × Every HasPorts bs

-- the lines begin a file of boxes
abbrev pub IsLive : List Line → Type 0
IsLive lines = (more : List Line) × (bs : List BoxDraft) × IsForm (lines ++ more) bs

-- with an end behind them the lines are those of these boxes and of one more, which may lack ports
abbrev pub Closes : List Line → List BoxDraft → BoxDraft → Type 0
Closes lines bs last = (numbered 1 (lines ++ Ends ∷ []) ≡ file_lines (bs ++ last ∷ [])) × Every HasPorts bs
