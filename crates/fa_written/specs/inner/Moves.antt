-- Reading lines one after another.
use Rattle.std.specs.Prelude.{◌≡◌, ◌==◌, ℕ, suc, Bool, true, false, List, [], ◌∷◌, ◌++◌, length, nat_le}
use Rattle.std.specs.Prelude.{Option, Some, None, Result, Ok, Err}
use Rattle.fa_lines.specs.declared.line.Term.{Term}
use Rattle.fa_lines.specs.declared.line.Line.{Line}
use Rattle.fa_lines.specs.declared.line.Line.TheVariants.{Skipped, Opens, Root, Rule, Ends}
use Rattle.fa_written.specs.Forms.{Numbered, parts_lines, head_line, file_lines, port_count}
use Rattle.fa_written.specs.declared.draft.RuleDraft.{RuleDraft}
use Rattle.fa_written.specs.declared.draft.PartDraft.{PartDraft}
use Rattle.fa_written.specs.declared.draft.Head.{Head}
use Rattle.fa_written.specs.declared.draft.BoxDraft.{BoxDraft}
use Rattle.fa_written.specs.declared.draft.OpenBox.{OpenBox}
use Rattle.fa_written.specs.declared.draft.Reading.{Reading}
use Rattle.fa_written.specs.declared.unfit.Unfit.{Unfit}
use Rattle.fa_written.specs.declared.unfit.Unfit.TheVariants.{Other, Memory}

-- What a function returned is what reading gives, unless memory ran out.

abbrev pub Fails : {Y : Type 0} → Unfit → Option Y → Type 0
Fails Memory read = Unit {0}
Fails Other read = read ≡ None

abbrev pub Gives : {X : Type 0} → Result X Unfit → Option X → Type 0
Gives (Ok x) read = read ≡ Some x
Gives (Err e) read = Fails e read

infixl 10 ◌>>=◌
abbrev pub ◌>>=◌ : {A B : Type 0} → Option A → (A → Option B) → Option B
(Some x) >>= f = f x
None >>= f = None

abbrev pub guard : {A : Type 0} → Bool → A → Option A
guard true x = Some x
guard false x = None

abbrev pub rule_behind : RuleDraft → PartDraft → PartDraft
rule_behind r p = record { line = p.line; roots = p.roots; rules = p.rules ++ r ∷ [] }

abbrev pub more : PartDraft → Option (List PartDraft) → Option (List PartDraft)
more p None = None
more p (Some ps) = Some (p ∷ ps)

-- the rule is one of the last component
abbrev pub rule_last : RuleDraft → List PartDraft → Option (List PartDraft)
rule_last r [] = None
rule_last r (p ∷ []) = Some (rule_behind r p ∷ [])
rule_last r (p ∷ q ∷ ps) = more p (rule_last r (q ∷ ps))

abbrev pub opened : Head → List PartDraft → OpenBox
opened h ps = record { head = h; parts = ps }

abbrev pub reading : List BoxDraft → Option OpenBox → Reading
reading bs o = record { boxes = bs; current = o }

-- a line outside of boxes
abbrev pub outside : List BoxDraft → ℕ → Line → Option Reading
outside bs n Skipped = Some (reading bs None)
outside bs n (Opens name input output) =
    Some (reading bs (Some (opened (record { line = n; name = name; input = input; output = output }) [])))
outside bs n (Root r qs) = None
outside bs n (Rule q term) = None
outside bs n Ends = None

abbrev pub part_of : ℕ → List ℕ → PartDraft
part_of n qs = record { line = n; roots = qs; rules = [] }

abbrev pub ended : List BoxDraft → OpenBox → ℕ → Reading
ended bs b n = reading (bs ++ record { head = b.head; parts = b.parts; end = n } ∷ []) None

-- a line inside a box
abbrev pub inside : List BoxDraft → OpenBox → ℕ → Line → Option Reading
inside bs b n Skipped = Some (reading bs (Some b))
inside bs b n (Opens name input output) = None
inside bs b n (Root r qs) =
    guard (r == length b.parts) (reading bs (Some (opened b.head (b.parts ++ part_of n qs ∷ []))))
inside bs b n (Rule q term) =
    rule_last (record { line = n; state = q; term = term }) b.parts >>= λ ps.
    Some (reading bs (Some (opened b.head ps)))
inside bs b n Ends = guard (nat_le (port_count b.head.output) (length b.parts)) (ended bs b n)

abbrev pub moved_by : List BoxDraft → Option OpenBox → ℕ → Line → Option Reading
moved_by bs None n line = outside bs n line
moved_by bs (Some b) n line = inside bs b n line

-- what is read with one line more
unfoldable pub moved : Reading → ℕ → Line → Option Reading
moved s n line = moved_by s.boxes s.current n line

-- what is read with these lines more, the first of this number
abbrev pub run : Reading → ℕ → List Line → Option Reading
run s n [] = Some s
run s n (l ∷ ls) = moved s n l >>= λ t. run t (suc n) ls

-- the lines that have been read
abbrev pub open_lines : Option OpenBox → List Numbered
open_lines None = []
open_lines (Some b) = head_line b.head ∷ parts_lines 0 b.parts

abbrev pub lines_read : Reading → List Numbered
lines_read s = file_lines s.boxes ++ open_lines s.current

abbrev pub root_line : ℕ → List ℕ → Line
root_line r qs = Root r qs

abbrev pub rule_line_of : ℕ → Term → Line
rule_line_of q term = Rule q term

abbrev pub end_line : Line
end_line = Ends
