-- What is reached for every choice of one signature of each component.
use Rattle.std.specs.Prelude.{ℕ, ◌<◌, List, [], ◌∷◌, length}
use Rattle.fore_base.specs.Lists.{IsIn}
use Rattle.fa_core.specs.declared.signature.Signature.{Signature}
use Rattle.fa_back.specs.Reached.{SignReached}
use Rattle.fa_box_rules.specs.Signs.{Picks}
use Rattle.fa_reach.specs.declared.answer.Lead.{Lead}
use Rattle.fa_reach.specs.declared.answer.Lead.TheVariants.{Always, Never, Sometimes}

-- for each choice every component is reached from component i
abbrev pub AllReach : List (List Signature) → ℕ → Type 0
AllReach lists i = (ss : List Signature) → Picks lists ss → (r : ℕ) → r < length lists → SignReached ss (i ∷ []) r

-- for some choice some component is not reached from component i
abbrev pub SomeMissed : List (List Signature) → ℕ → Type 0
SomeMissed lists i = (ss : List Signature) × Picks lists ss × (r : ℕ) × (r < length lists)
    × (SignReached ss (i ∷ []) r → ⊥)

-- component j is reached from component i for each choice, and for none
abbrev pub AlwaysLeads : List (List Signature) → ℕ → ℕ → Type 0
AlwaysLeads lists i j = (ss : List Signature) → Picks lists ss → SignReached ss (i ∷ []) j

abbrev pub NeverLeads : List (List Signature) → ℕ → ℕ → Type 0
NeverLeads lists i j = (ss : List Signature) → Picks lists ss → SignReached ss (i ∷ []) j → ⊥

-- for some choice it is reached, and for some it is not
abbrev pub MayLead : List (List Signature) → ℕ → ℕ → Type 0
MayLead lists i j = (ss : List Signature) × Picks lists ss × SignReached ss (i ∷ []) j

abbrev pub MayMiss : List (List Signature) → ℕ → ℕ → Type 0
MayMiss lists i j = (ss : List Signature) × Picks lists ss × (SignReached ss (i ∷ []) j → ⊥)

-- what the answer says
abbrev pub IsLead : List (List Signature) → ℕ → ℕ → Lead → Type 0
IsLead lists i j Always = AlwaysLeads lists i j
IsLead lists i j Never = NeverLeads lists i j
IsLead lists i j Sometimes = MayLead lists i j × MayMiss lists i j

-- there is a signature
abbrev pub HasSign : List Signature → Type 0
HasSign ss = (s : Signature) × IsIn s ss
