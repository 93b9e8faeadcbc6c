-- How many references marks stand for, as far as two.
use Rattle.std.specs.Prelude.{ℕ, if◌then◌else◌, nat_eq, List, [], ◌∷◌}
use Rattle.fa_core.specs.declared.signature.RefMark.{RefMark}

-- the references for which the mark stands: one, or two where they are more
abbrev pub mark_count : RefMark → ℕ
mark_count m = if m.many then 2 else 1

-- those of the marks that are of root r
abbrev pub marks_count : ℕ → List RefMark → ℕ
marks_count r [] = 0
marks_count r (m ∷ ms) = if nat_eq r m.root then mark_count m else marks_count r ms
