-- A generated program, and why there is none.
use Rattle.std.specs.Prelude.{◌≡◌, ◌<◌, ⊤, ℕ, length}
use Rattle.fore_base.specs.declared.limits.TheConstants.{FILE_BYTES}
use Rattle.fore_base.specs.declared.shape.Shapes.{Shapes}
use Rattle.c_types.specs.Program.{Program}
use Rattle.c_types.specs.declared.mode.MallocMode.TheVariants.{Always}
use Rattle.c_front.specs.Files.{IsProgramOf, BreaksFirst}
use Rattle.fa_core.specs.Boxes.{Boxes}
use Rattle.fa_text.specs.Files.{IsBoxFile, IsFirst}
use Rattle.fa_text.specs.declared.fault.BoxFault.TheVariants.{Rule, Limit}
use Rattle.fore_gen.specs.Boxes.{dll_box_text}
use Rattle.fore_gen.specs.Programs.{program_text, count_lines}
use Rattle.fore_read.specs.Tables.{no_boxes}
use Rattle.fore_read.specs.declared.fault.ReadFault.{ReadFault as Fault}
use Rattle.fore_read.specs.declared.fault.ReadFault.TheVariants as fault
use Rattle.fore_read.specs.declared.fault.Refusal.{Refusal}
use Rattle.fore_read.specs.declared.fault.Refusal.TheVariants.{
  TooLong,
  Breaks,
  BoxesTooLong,
  BoxRule,
  BoxLimit,
}
use Rattle.fore_words.specs.declared.asked.Kind.{Kind}
use Rattle.fore_words.specs.declared.asked.Kind.TheVariants.{ListPhases, DllPhases, TreePhases}
use Rattle.fore_words.specs.declared.asked.Settings.{Settings}
use Rattle.fore_words.specs.declared.asked.TheConstants.{HEIGHT, MOST_BUDGET, JOBS}
use Rattle.fore_generated.specs.declared.generated.Generated.{Generated}

-- how a generated program is verified
abbrev pub gen_settings : Settings
gen_settings = record { height = HEIGHT; budget = MOST_BUDGET; jobs = JOBS; malloc = Always }

-- the table of boxes by which the programs of a kind are verified, over their structs
abbrev pub IsTableFor : Kind → Shapes → Boxes → Type 0
IsTableFor ListPhases shapes t = t ≡ no_boxes shapes
IsTableFor DllPhases shapes t = IsBoxFile dll_box_text shapes t
IsTableFor TreePhases shapes t = t ≡ no_boxes shapes

-- the generated text is that of the program, the table is that of its kind, and the text has so many lines
pub record IsGeneratedProgram (kind : Kind) (phases : ℕ) (made : Generated) : Type 0 where
  pub is : IsProgramOf (program_text kind phases) made.program
  pub by : IsTableFor kind made.program.shapes made.table
  pub lines : made.lines ≡ count_lines (program_text kind phases)

-- the boxes of the kind are refused over the structs of a program
abbrev pub RefusesBoxesOf : Kind → Shapes → Refusal → Type 0
RefusesBoxesOf ListPhases shapes why = ⊥
RefusesBoxesOf DllPhases shapes (BoxRule rule line) = IsFirst dll_box_text shapes (Rule rule line)
RefusesBoxesOf DllPhases shapes (BoxLimit line) = IsFirst dll_box_text shapes (Limit line)
RefusesBoxesOf DllPhases shapes _ = ⊥
RefusesBoxesOf TreePhases shapes why = ⊥

-- the generated text is that of a program over whose structs the boxes of its kind are refused
abbrev pub RefusesItsBoxes : Kind → ℕ → Refusal → Type 0
RefusesItsBoxes kind phases why =
    (p : Program) × IsProgramOf (program_text kind phases) p × RefusesBoxesOf kind p.shapes why

-- the generated text is refused as that of a C file, or the boxes of its kind as a file of boxes
abbrev pub RefusesGenerated : Kind → ℕ → Refusal → Type 0
RefusesGenerated kind phases TooLong = FILE_BYTES < length (program_text kind phases)
RefusesGenerated kind phases (Breaks b) = BreaksFirst (program_text kind phases) b
RefusesGenerated kind phases BoxesTooLong = ⊥
RefusesGenerated kind phases (BoxRule rule line) = RefusesItsBoxes kind phases (BoxRule rule line)
RefusesGenerated kind phases (BoxLimit line) = RefusesItsBoxes kind phases (BoxLimit line)

-- why there is no table for a kind over these structs
abbrev pub IsTableFaultOf : Kind → Shapes → Fault → Type 0
IsTableFaultOf kind shapes (fault.Refused why) = RefusesBoxesOf kind shapes why
IsTableFaultOf kind shapes fault.Failed = ⊥
IsTableFaultOf kind shapes fault.Memory = ⊤

-- why there is no generated program
abbrev pub IsGeneratedFault : Kind → ℕ → Fault → Type 0
IsGeneratedFault kind phases (fault.Refused why) = RefusesGenerated kind phases why
IsGeneratedFault kind phases fault.Failed = ⊥
IsGeneratedFault kind phases fault.Memory = ⊤
