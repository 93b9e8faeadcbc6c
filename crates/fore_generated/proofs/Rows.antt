-- Worked values, worked out by hand from docs/REPORTS.md.
use Rattle.std.proofs.Common.{◌≡◌, ◌<◌, ℕ, length, refl}
use Rattle.fore_base.specs.declared.limits.TheConstants.{FILE_BYTES}
use Rattle.fore_base.specs.declared.shape.Shapes.{Shapes}
use Rattle.c_types.specs.Program.{Program}
use Rattle.c_types.specs.declared.mode.MallocMode.TheVariants.{Always}
use Rattle.c_front.specs.declared.broken.Broken.{Broken}
use Rattle.c_front.specs.Files.{IsProgramOf, BreaksFirst}
use Rattle.fa_core.specs.Boxes.{Boxes}
use Rattle.fa_text.specs.Files.{IsBoxFile, IsFirst}
use Rattle.fa_text.specs.declared.fault.BoxFault.TheVariants.{Rule}
use Rattle.fore_gen.specs.Boxes.{dll_box_text}
use Rattle.fore_gen.specs.Programs.{program_text}
use Rattle.fore_read.specs.Tables.{no_boxes}
use Rattle.fore_read.specs.declared.fault.ReadFault.TheVariants as fault
use Rattle.fore_read.specs.declared.fault.Refusal.TheVariants.{TooLong, Breaks, BoxesTooLong, BoxRule}
use Rattle.fore_words.specs.declared.asked.Kind.TheVariants.{ListPhases, DllPhases, TreePhases}
use Rattle.fore_generated.specs.Generated.{gen_settings, IsTableFor, IsTableFaultOf, IsGeneratedFault}

-- a generated program is verified with height 1 and at most 100,000 abstract states, and each `malloc` gives a cell
generated_settings : gen_settings ≡ record { height = 1; budget = 100000; jobs = 1; malloc = Always }
generated_settings = refl

-- lists and trees without boxes, lists that are linked both ways by their box
tables_of_kinds : (shapes : Shapes) (t : Boxes) → IsTableFor ListPhases shapes (no_boxes shapes)
    × IsTableFor TreePhases shapes (no_boxes shapes)
    × (IsBoxFile dll_box_text shapes t → IsTableFor DllPhases shapes t)
tables_of_kinds shapes t = (refl, refl, λ is. is)

-- it is refused by what its text breaks, or its boxes over the structs of its program; no list or tree by boxes
module _ (p : Program) (b : Broken) where
  refused_text : BreaksFirst (program_text TreePhases 3) b → IsGeneratedFault TreePhases 3 (fault.Refused (Breaks b))
  refused_text first = first

  refused_boxes : IsProgramOf (program_text DllPhases 3) p → IsFirst dll_box_text p.shapes (Rule 2 6)
      → IsGeneratedFault DllPhases 3 (fault.Refused (BoxRule 2 6))
  refused_boxes is first = (p, is, first)

  long_text : FILE_BYTES < length (program_text ListPhases 3) → IsGeneratedFault ListPhases 3 (fault.Refused TooLong)
  long_text long = long

  other_faults : (IsGeneratedFault ListPhases 3 (fault.Refused (BoxRule 2 6)) → ⊥)
      × (IsGeneratedFault DllPhases 3 (fault.Refused BoxesTooLong) → ⊥)
      × (IsGeneratedFault DllPhases 3 fault.Failed → ⊥)
  other_faults = (λ h. h.2, λ h. h, λ h. h)

no_table_refused : (shapes : Shapes) → (IsTableFaultOf ListPhases shapes (fault.Refused (BoxRule 2 6)) → ⊥)
    × (IsTableFaultOf DllPhases shapes fault.Failed → ⊥)
no_table_refused shapes = (λ h. h, λ h. h)
