-- What a C file and a file of boxes give, and why they are refused.
use Rattle.std.specs.Prelude.{◌≡◌, ⊤, ℕ, List, [], ◌∷◌, Option}
use Rattle.fore_outside.specs.NamedFiles.{reading}
use Rattle.fore_outside.specs.declared.named_files.NamedFile.{NamedFile}
use Rattle.fore_base.specs.declared.limits.TheConstants.{FILE_BYTES, BOX_FILE_BYTES}
use Rattle.fore_base.specs.declared.shape.Shapes.{Shapes}
use Rattle.c_types.specs.Program.{Program}
use Rattle.c_front.specs.Files.{IsProgramOf, BreaksFirst}
use Rattle.fa_core.specs.Boxes.{Boxes}
use Rattle.fa_text.specs.Files.{IsBoxFile, IsFirst}
use Rattle.fa_text.specs.declared.fault.BoxFault.{BoxFault}
use Rattle.fa_text.specs.declared.fault.BoxFault.TheVariants.{Rule, Limit}
use Rattle.fore_read.specs.declared.fault.ReadFault.{ReadFault}
use Rattle.fore_read.specs.declared.fault.ReadFault.TheVariants.{Refused, Failed, Memory}
use Rattle.fore_read.specs.declared.fault.Refusal.{Refusal}
use Rattle.fore_read.specs.declared.fault.Refusal.TheVariants as refusal
use Rattle.fore_read.specs.Readings.{Reading, AreReadings, HasFailed, IsRead, IsTooLong}

-- A C file.

-- the file of this path was read first, and its bytes are the text of the program; behind it come these readings
pub record GivesProgram (r : Reading) (path : List ℕ) (more : List NamedFile) (p : Program) : Type 0 where
  pub bytes : List ℕ
  pub given : AreReadings r (reading path bytes ∷ more)
  pub read : IsRead (r.before.holds path) FILE_BYTES bytes
  pub is : IsProgramOf bytes p

-- the file of this path is refused, after these readings
abbrev pub IsRefusedFile : Option (List ℕ) → List ℕ → List NamedFile → Refusal → Type 0
IsRefusedFile told path done refusal.TooLong = (done ≡ []) × IsTooLong told FILE_BYTES
IsRefusedFile told path done (refusal.Breaks b) =
    (bytes : List ℕ) × (done ≡ reading path bytes ∷ []) × IsRead told FILE_BYTES bytes × BreaksFirst bytes b
IsRefusedFile told path done refusal.BoxesTooLong = ⊥
IsRefusedFile told path done (refusal.BoxRule rule line) = ⊥
IsRefusedFile told path done (refusal.BoxLimit line) = ⊥

-- nothing but the file of this path was read, and it is refused
abbrev pub RefusesFile : Reading → List ℕ → Refusal → Type 0
RefusesFile r path why =
    (done : List NamedFile) × AreReadings r done × IsRefusedFile (r.before.holds path) path done why

-- nothing was read, since the reading of this path has failed
abbrev pub FailsFile : Reading → List ℕ → Type 0
FailsFile r path = AreReadings r [] × HasFailed r path

-- why the file of this path gives no program
abbrev pub IsFileFault : Reading → List ℕ → ReadFault → Type 0
IsFileFault r path (Refused why) = RefusesFile r path why
IsFileFault r path Failed = FailsFile r path
IsFileFault r path Memory = ⊤

-- A file of boxes, over the structs of a program.

-- these are the readings of the file of this path, and its text is that of the table
pub record IsTableFile (told : Option (List ℕ)) (path : List ℕ) (shapes : Shapes) (done : List NamedFile) (t : Boxes)
    : Type 0 where
  pub text : List ℕ
  pub given : done ≡ reading path text ∷ []
  pub read : IsRead told BOX_FILE_BYTES text
  pub is : IsBoxFile text shapes t

-- these are the readings of the file of this path, and its text breaks this rule first
pub record BreaksBoxes (told : Option (List ℕ)) (path : List ℕ) (shapes : Shapes) (done : List NamedFile)
    (fault : BoxFault) : Type 0 where
  pub text : List ℕ
  pub given : done ≡ reading path text ∷ []
  pub read : IsRead told BOX_FILE_BYTES text
  pub first : IsFirst text shapes fault

-- the file of this path is refused, after these readings
abbrev pub AreRefusedBoxes : Option (List ℕ) → List ℕ → Shapes → List NamedFile → Refusal → Type 0
AreRefusedBoxes told path shapes done refusal.BoxesTooLong = (done ≡ []) × IsTooLong told BOX_FILE_BYTES
AreRefusedBoxes told path shapes done (refusal.BoxRule rule line) =
    BreaksBoxes told path shapes done (Rule rule line)
AreRefusedBoxes told path shapes done (refusal.BoxLimit line) = BreaksBoxes told path shapes done (Limit line)
AreRefusedBoxes told path shapes done refusal.TooLong = ⊥
AreRefusedBoxes told path shapes done (refusal.Breaks b) = ⊥

-- what was read is the file of this path, and gives the table
abbrev pub GivesTable : Reading → List ℕ → Shapes → Boxes → Type 0
GivesTable r path shapes t =
    (done : List NamedFile) × AreReadings r done × IsTableFile (r.before.holds path) path shapes done t

-- why the file of this path gives no table
abbrev pub AreBoxesFault : Reading → List ℕ → Shapes → ReadFault → Type 0
AreBoxesFault r path shapes (Refused why) =
    (done : List NamedFile) × AreReadings r done × AreRefusedBoxes (r.before.holds path) path shapes done why
AreBoxesFault r path shapes Failed = FailsFile r path
AreBoxesFault r path shapes Memory = ⊤
