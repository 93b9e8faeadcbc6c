-- The signatures of states, as they are collected.
use Rattle.std.specs.Prelude.{◌≡◌, ◌⊎◌, ℕ, true, List, [], ◌∷◌, ◌++◌, Option, Some, None}
use Rattle.fore_base.specs.Lists.{IsIn, Every, IsDistinct}
use Rattle.fa_core.specs.declared.signature.RefMark.{RefMark}
use Rattle.fa_core.specs.declared.signature.Signature.{Signature}
use Rattle.fa_boxes.specs.declared.seeing.Seen.{Seen}
use Rattle.fa_sound.specs.Entries.{is_known}
use Rattle.fa_boxes.specs.inner.Seeing.{own}

-- the signature of these marks
abbrev pub sign : List RefMark → Signature
sign ms = record { refs = ms }

-- the list with the signature of what is known, once
abbrev pub IsAdded : Option Seen → List Signature → List Signature → Type 0
IsAdded None old new = new ≡ old
IsAdded (Some s) old new = (IsIn (sign s.marks) old × (new ≡ old))
    ⊎ ((IsIn (sign s.marks) old → ⊥) × (new ≡ old ++ sign s.marks ∷ []))

-- the signature is that of one of the states
abbrev pub IsSignAt : List (Option Seen) → List ℕ → Signature → Type 0
IsSignAt table states s = (q : ℕ) × IsIn q states × (is_known table q ≡ true) × (s ≡ sign (own table q))

-- the list has the signatures of the states that are done, and of no others than the states; each once
pub record AreSignsIn (table : List (Option Seen)) (states done : List ℕ) (list : List Signature) : Type 0 where
  pub each : Every (λ (q : ℕ). is_known table q ≡ true → IsIn (sign (own table q)) list) done
  pub some : Every (IsSignAt table states) list
  pub apart : IsDistinct list
