-- Worked values of the definitions.
use Rattle.std.proofs.Common.{arith, ◌≡◌, List, [], ◌∷◌, refl, sym, ap, codes, length, Some, None}
use Rattle.c_lexer.specs.Bytes.{is_letter, is_digit, is_word_byte, is_gap}
use Rattle.fa_lines.specs.Says.{Says}
use Rattle.fa_lines.specs.declared.line.Line.{Line}
use Rattle.fa_lines.specs.declared.line.Term.TheVariants.{Ref}
use Rattle.fa_lines.specs.declared.line.Line.TheVariants.{Skipped, Opens, Root, Rule, Ends}
use Rattle.fa_written.specs.declared.draft.BoxDraft.{BoxDraft}
use Rattle.fa_written.specs.Forms.{numbered, box_lines, file_lines, HasPorts, IsForm, Closes, port_count}
use Rattle.fa_written.specs.Drafts.{missing, ClosesWithin}

-- a line that is passed over has a number
skipped_lines_count : numbered 1 (Skipped ∷ Ends ∷ Skipped ∷ Root 0 (0 ∷ []) ∷ [])
    ≡ (2, Ends) ∷ (4, Root 0 (0 ∷ [])) ∷ []
skipped_lines_count = refl

-- a box of a component with two rules, and one with none: lines 3 to 8, of which line 7 is passed over

abbrev a_box : BoxDraft
a_box = record {
  head = record { line = 3; name = codes "b"; input = codes "n"; output = None };
  parts = record {
    line = 4;
    roots = 0 ∷ 1 ∷ [];
    rules = record { line = 5; state = 0; term = Ref 1 } ∷ record { line = 6; state = 1; term = Ref 2 } ∷ [];
  } ∷ record { line = 8; roots = 0 ∷ []; rules = [] } ∷ [];
  end = 9;
}

lines_of_a_box : box_lines a_box
    ≡ (3, Opens (codes "b") (codes "n") None) ∷ (4, Root 0 (0 ∷ 1 ∷ [])) ∷ (5, Rule 0 (Ref 1)) ∷ (6, Rule 1 (Ref 2))
    ∷ (8, Root 1 (0 ∷ [])) ∷ (9, Ends) ∷ []
lines_of_a_box = refl

lines_of_a_file : file_lines (a_box ∷ a_box ∷ [])
    ≡ (3, Opens (codes "b") (codes "n") None) ∷ (4, Root 0 (0 ∷ 1 ∷ [])) ∷ (5, Rule 0 (Ref 1)) ∷ (6, Rule 1 (Ref 2))
    ∷ (8, Root 1 (0 ∷ [])) ∷ (9, Ends) ∷ (3, Opens (codes "b") (codes "n") None) ∷ (4, Root 0 (0 ∷ 1 ∷ []))
    ∷ (5, Rule 0 (Ref 1)) ∷ (6, Rule 1 (Ref 2)) ∷ (8, Root 1 (0 ∷ [])) ∷ (9, Ends) ∷ []
lines_of_a_file = refl

-- a file of no box
no_box : IsForm (Skipped ∷ Skipped ∷ []) []
no_box = (refl, tt)

-- the input is a port, and the output where there is one
ports : (port_count None ≡ 1) × (port_count (Some (codes "n")) ≡ 2)
ports = (refl, refl)

ports_are_there : HasPorts a_box
ports_are_there = omega arith

-- component 1 is there, and component 2 is not
reference_is_missing : missing a_box ≡ 6 ∷ []
reference_is_missing = refl

-- a box without its output: an end closes it, which is no form; what refers to the output refers to no component

abbrev half_box : BoxDraft
half_box = record {
  head = record { line = 1; name = codes "b"; input = codes "n"; output = Some (codes "n") };
  parts = record { line = 2; roots = 0 ∷ []; rules = record { line = 3; state = 0; term = Ref 1 } ∷ [] } ∷ [];
  end = 4;
}

abbrev half_lines : List Line
half_lines = Opens (codes "b") (codes "n") (Some (codes "n")) ∷ Root 0 (0 ∷ []) ∷ Rule 0 (Ref 1) ∷ []

end_closes : Closes half_lines [] half_box
end_closes = (refl, tt)

no_output : HasPorts half_box → ⊥
no_output h = omega (arith, h)

output_is_missing : missing half_box ≡ 3 ∷ []
output_is_missing = refl

says_end : Says (codes "end") Ends
unfolding is_gap is_word_byte is_letter is_digit
says_end = (tt, refl)

-- so the line of the reference is in the way, and not that of the end
end_is_not_in_the_way : ClosesWithin half_lines (codes "end" ∷ []) → ⊥
end_is_not_in_the_way h =
    let e : 0 ≡ 1 = sym (ap length (h says_end [] half_box end_closes)) in omega (arith, e)
