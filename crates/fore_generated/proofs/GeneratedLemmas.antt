-- Why there is no generated program.
use Rattle.std.proofs.Common.{ℕ}
use Rattle.c_types.specs.Program.{Program}
use Rattle.c_front.specs.Files.{IsProgramOf}
use Rattle.fore_gen.specs.Programs.{program_text}
use Rattle.fore_read.specs.Bytes.{IsProgramFault}
use Rattle.fore_read.specs.declared.fault.ReadFault.{ReadFault as Fault}
use Rattle.fore_read.specs.declared.fault.ReadFault.TheVariants as fault
use Rattle.fore_read.specs.declared.fault.Refusal.TheVariants.{TooLong, Breaks, BoxesTooLong, BoxRule, BoxLimit}
use Rattle.fore_words.specs.declared.asked.Kind.{Kind}
use Rattle.fore_words.specs.declared.asked.Kind.TheVariants.{ListPhases, DllPhases, TreePhases}
use Rattle.fore_generated.specs.Generated.{IsTableFaultOf, IsGeneratedFault}

-- where there is no table for the kind, its boxes are refused
pub no_table : (kind : Kind) (phases : ℕ) (p : Program) → IsProgramOf (program_text kind phases) p → (f : Fault)
    → IsTableFaultOf kind p.shapes f → IsGeneratedFault kind phases f
no_table DllPhases phases p is (fault.Refused (BoxRule rule line)) h = (p, is, h)
no_table DllPhases phases p is (fault.Refused (BoxLimit line)) h = (p, is, h)
no_table DllPhases phases p is (fault.Refused TooLong) h = absurd h
no_table DllPhases phases p is (fault.Refused (Breaks b)) h = absurd h
no_table DllPhases phases p is (fault.Refused BoxesTooLong) h = absurd h
no_table ListPhases phases p is (fault.Refused why) h = absurd h
no_table TreePhases phases p is (fault.Refused why) h = absurd h
no_table kind phases p is fault.Failed h = absurd h
no_table kind phases p is fault.Memory h = tt

-- a text that breaks a rule is refused by it
pub not_taken : (kind : Kind) (phases : ℕ) (f : Fault) → IsProgramFault (program_text kind phases) f
    → IsGeneratedFault kind phases f
not_taken kind phases (fault.Refused (Breaks b)) h = h
not_taken kind phases (fault.Refused TooLong) h = absurd h
not_taken kind phases (fault.Refused BoxesTooLong) h = absurd h
not_taken kind phases (fault.Refused (BoxRule rule line)) h = absurd h
not_taken kind phases (fault.Refused (BoxLimit line)) h = absurd h
not_taken kind phases fault.Failed h = absurd h
not_taken kind phases fault.Memory h = tt
