-- Worked values of the texts of generated programs, byte by byte or by their lengths.
use Rattle.std.specs.Prelude.{◌≡◌, refl, length, ◌∷◌, [], ◌++◌}
use Rattle.fore_words.specs.declared.asked.Kind.TheVariants.{ListPhases, DllPhases, TreePhases}
use Rattle.fore_gen.specs.Programs.{head_text, list_phase, tree_phase, tail_text, program_text, count_lines}

-- no phase: what stands in front, and what stands behind
pub no_phase : program_text ListPhases 0 ≡ head_text ListPhases ++ tail_text
no_phase = refl

-- behind its 5 lines, a program of two phases has the phase twice
pub two_phases : program_text TreePhases 2
    ≡ head_text TreePhases ++ (tree_phase ++ (tree_phase ++ ([] ++ tail_text)))
two_phases = refl

-- `return 0;` has 9 bytes, `}` one, and each line a newline
pub tail_length : length tail_text ≡ 12
tail_length = refl

-- the lines have 9, 33, 32, 12, 6, 1, 9, 11, 12, 8, 6, 1 and 9 bytes, and a newline each: 149 and 13
pub list_phase_length : length list_phase ≡ 162
list_phase_length = refl

-- a newline ends a line; what stands behind the last newline is none
pub lines_of_text : count_lines (97 ∷ 10 ∷ 10 ∷ 98 ∷ []) ≡ 2
lines_of_text = refl

-- 5 lines in front, 13 a phase, and 2 behind
pub list_lines : count_lines (program_text ListPhases 3) ≡ 46
list_lines = refl

-- 5 lines in front, 17 a phase, and 2 behind
pub dll_lines : count_lines (program_text DllPhases 2) ≡ 41
dll_lines = refl

-- 5 lines in front, 20 a phase, and 2 behind
pub tree_lines : count_lines (program_text TreePhases 1) ≡ 27
tree_lines = refl
