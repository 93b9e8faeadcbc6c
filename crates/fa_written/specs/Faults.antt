-- What a refusal says of a text.
use Rattle.std.specs.Prelude.{◌≡◌, ◌⊎◌, ℕ, List, Result, Err}
use Rattle.fa_written.specs.Drafts.{IsFirstBad}
use Rattle.fa_written.specs.declared.fault.DraftFault.{DraftFault}
use Rattle.fa_written.specs.declared.fault.DraftFault.TheVariants.{B1, Memory}

-- the line is the first that is in the way, or memory ran out
abbrev pub IsFault : List ℕ → DraftFault → Type 0
IsFault text (B1 line) = IsFirstBad text line
IsFault text Memory = Unit {0}

-- this is answered, unless memory ran out
abbrev pub Answers : {X : Type 0} → Result X DraftFault → Result X DraftFault → Type 0
Answers result wanted = (result ≡ wanted) ⊎ (result ≡ Err Memory)
