-- The signatures of components, parted by how they lead back, and choices of parts.
use Rattle.std.specs.Prelude.{◌≡◌, ◌⊎◌, ℕ, suc, ◌<◌, ◌*◌, ◌/◌, ◌%◌, List, [], ◌∷◌, ◌++◌, map}
use Rattle.std.specs.Prelude.{flat_map, length, Option, Some, None, slice_get}
use Rattle.fore_base.specs.Lists.{IsIn, Every}
use Rattle.fa_core.specs.declared.signature.RefMark.{RefMark}
use Rattle.fa_core.specs.declared.signature.Signature.{Signature}
use Rattle.fa_back.specs.declared.hops.Hop.{Hop}
use Rattle.fa_back.specs.BackHops.{back_hops}
use Rattle.fa_reach.specs.declared.part.Part.{Part}

-- the ways back of trees of component j with this signature
abbrev pub hops_of : ℕ → Signature → List Hop
hops_of j s = flat_map (back_hops j) s.refs

-- the roots to which they refer
abbrev pub roots_of : Signature → List ℕ
roots_of s = map (λ (m : RefMark). m.root) s.refs

-- the roots to which those signatures refer that lead back so
pub record AreDowns (j : ℕ) (hops : List Hop) (ss : List Signature) (downs : List (List ℕ)) : Type 0 where
  pub each : (s : Signature) → IsIn s ss → hops_of j s ≡ hops → IsIn (roots_of s) downs
  pub some : (d : List ℕ) → IsIn d downs → (s : Signature) × IsIn s ss × (hops_of j s ≡ hops) × (d ≡ roots_of s)

-- one more signature is looked at
pub record AddsDown (j : ℕ) (hops : List Hop) (s : Signature) (old new : List (List ℕ)) : Type 0 where
  pub still : (d : List ℕ) → IsIn d old → IsIn d new
  pub there : hops_of j s ≡ hops → IsIn (roots_of s) new
  pub only : (d : List ℕ) → IsIn d new → IsIn d old ⊎ ((hops_of j s ≡ hops) × (d ≡ roots_of s))

-- those of the signatures of component j that lead back as one of them
pub record IsPart (j : ℕ) (ss : List Signature) (p : Part) : Type 0 where
  pub some : (s : Signature) × IsIn s ss × (hops_of j s ≡ p.hops)
  pub downs : AreDowns j p.hops ss p.downs

-- some part leads back so
abbrev pub HasHops : List Part → List Hop → Type 0
HasHops ps hops = (p : Part) × IsIn p ps × (p.hops ≡ hops)

-- each of the signatures is in a part
pub record AreParts (j : ℕ) (ss : List Signature) (done : List Signature) (ps : List Part) : Type 0 where
  pub are : Every (IsPart j ss) ps
  pub each : (s : Signature) → IsIn s done → HasHops ps (hops_of j s)

-- the part of one more signature is there
pub record AddsPart (j : ℕ) (ss : List Signature) (s : Signature) (old new : List Part) : Type 0 where
  pub still : (p : Part) → IsIn p old → IsIn p new
  pub there : HasHops new (hops_of j s)
  pub only : (p : Part) → IsIn p new → IsIn p old ⊎ IsPart j ss p

-- so for each component from j on
abbrev pub AllParted : ℕ → List (List Signature) → List (List Part) → Type 0
AllParted j [] [] = Unit {0}
AllParted j [] (ps ∷ all) = ⊥
AllParted j (ss ∷ lists) [] = ⊥
AllParted j (ss ∷ lists) (ps ∷ all) = AreParts j ss ss ps × AllParted (suc j) lists all

-- how many choices of one part of each component there are
abbrev pub choice_count : List (List Part) → ℕ
choice_count [] = 1
choice_count (ps ∷ all) = length ps * choice_count all

abbrev pub one_part : Option Part → List Part
one_part None = []
one_part (Some p) = p ∷ []

-- the choice of this number
abbrev pub picked : List (List Part) → ℕ → List Part
picked [] k = []
picked (ps ∷ all) k = one_part (slice_get ps (k % length ps)) ++ picked all (k / length ps)

-- there is a part
abbrev pub HasPart : List Part → Type 0
HasPart ps = 0 < length ps
