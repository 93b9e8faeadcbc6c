-- Why bytes are not taken, wherever they come from.
use Rattle.std.specs.Prelude.{⊤, ℕ, List}
use Rattle.fore_base.specs.declared.shape.Shapes.{Shapes}
use Rattle.c_front.specs.Files.{BreaksFirst}
use Rattle.fa_text.specs.Files.{IsFirst}
use Rattle.fa_text.specs.declared.fault.BoxFault.TheVariants.{Rule, Limit}
use Rattle.fore_read.specs.declared.fault.ReadFault.{ReadFault}
use Rattle.fore_read.specs.declared.fault.ReadFault.TheVariants.{Refused, Failed, Memory}
use Rattle.fore_read.specs.declared.fault.Refusal.TheVariants as refusal

-- why the bytes of a C file give no program
abbrev pub IsProgramFault : List ℕ → ReadFault → Type 0
IsProgramFault bytes (Refused (refusal.Breaks b)) = BreaksFirst bytes b
IsProgramFault bytes (Refused _) = ⊥
IsProgramFault bytes Failed = ⊥
IsProgramFault bytes Memory = ⊤

-- why a text gives no table of boxes
abbrev pub IsTableFault : List ℕ → Shapes → ReadFault → Type 0
IsTableFault text shapes (Refused (refusal.BoxRule rule line)) = IsFirst text shapes (Rule rule line)
IsTableFault text shapes (Refused (refusal.BoxLimit line)) = IsFirst text shapes (Limit line)
IsTableFault text shapes (Refused _) = ⊥
IsTableFault text shapes Failed = ⊥
IsTableFault text shapes Memory = ⊤
