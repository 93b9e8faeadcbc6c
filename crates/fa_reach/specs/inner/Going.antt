-- What is reached where each component has one part, for every choice of one signature of each part.
use Rattle.std.specs.Prelude.{◌≡◌, ℕ, ◌<◌, Bool, List, [], ◌∷◌, flat_map, Some, length, slice_get}
use Rattle.fore_base.specs.Lists.{IsIn, Every, Paired}
use Rattle.fore_base.specs.Marks.{IsMarked}
use Rattle.fa_core.specs.References.{AllBelow}
use Rattle.fa_back.specs.declared.hops.Hop.{Hop}
use Rattle.fa_reach.specs.declared.part.Part.{Part}
use Rattle.fa_reach.specs.inner.Parts.{HasPart, choice_count, picked}

-- by the ways back of the parts, and where the trees of the components refer to these roots
pub data Goes (ps : List Part) (ds : List (List ℕ)) (i : ℕ) : ℕ → Type 0 where
  here : {r : ℕ} → r ≡ i → Goes ps ds i r
  down : {r : ℕ} (j : ℕ) (d : List ℕ) → Goes ps ds i j → slice_get ds j ≡ Some d → IsIn r d → Goes ps ds i r
  back : {r : ℕ} (p : Part) (h : Hop) → Goes ps ds i h.from → IsIn p ps → IsIn h p.hops → h.to ≡ r → Goes ps ds i r

-- the roots of one signature of each part
abbrev pub AreOf : List (List ℕ) → List Part → Type 0
AreOf ds ps = Paired (λ (d : List ℕ) (p : Part). IsIn d p.downs) ds ps

-- for each choice root r is reached from root i, and for some it is not
abbrev pub Forced : List Part → ℕ → ℕ → Type 0
Forced ps i r = (ds : List (List ℕ)) → AreOf ds ps → Goes ps ds i r

abbrev pub Missed : List Part → ℕ → ℕ → Type 0
Missed ps i r = (ds : List (List ℕ)) × AreOf ds ps × (Goes ps ds i r → ⊥)

-- for some choice it is reached, and for none
abbrev pub Met : List Part → ℕ → ℕ → Type 0
Met ps i r = (ds : List (List ℕ)) × AreOf ds ps × Goes ps ds i r

abbrev pub Barred : List Part → ℕ → ℕ → Type 0
Barred ps i r = (ds : List (List ℕ)) → AreOf ds ps → Goes ps ds i r → ⊥

-- from none of the marked roots for some choice, and from one of them for each
abbrev pub AvoidedFrom : List Part → List Bool → ℕ → Type 0
AvoidedFrom ps known r = (ds : List (List ℕ)) × AreOf ds ps × ((u : ℕ) → IsMarked known u → Goes ps ds u r → ⊥)

abbrev pub ForcedFrom : List Part → List Bool → ℕ → Type 0
ForcedFrom ps known r = (u : ℕ) × IsMarked known u × Forced ps u r

-- the roots of a part are below n, and there is a signature
pub record IsFit (n : ℕ) (p : Part) : Type 0 where
  pub hops : (h : Hop) → IsIn h p.hops → h.to < n
  pub downs : (d : List ℕ) → IsIn d p.downs → AllBelow n d
  pub some : (d : List ℕ) × IsIn d p.downs

abbrev pub AreFit : List Part → Type 0
AreFit ps = Every (IsFit (length ps)) ps

-- all the roots
abbrev pub flat : List (List ℕ) → List ℕ
flat ds = flat_map (λ (d : List ℕ). d) ds

-- the part with one signature that refers to all the roots
abbrev pub merged : Part → Part
merged p = record { hops = p.hops; downs = flat p.downs ∷ [] }

-- so for the parts of each component, of n
abbrev pub AllFit : ℕ → List (List Part) → Type 0
AllFit n all = Every (λ (ps : List Part). HasPart ps × Every (IsFit n) ps) all

-- for some choice of parts and signatures root r is not reached from root i, and for each it is
abbrev pub MayMissBy : List (List Part) → ℕ → ℕ → Type 0
MayMissBy all i r = (k : ℕ) × Missed (picked all k) i r

abbrev pub AlwaysBy : List (List Part) → ℕ → ℕ → Type 0
AlwaysBy all i r = (k : ℕ) → k < choice_count all → Forced (picked all k) i r

-- for some it is reached, and for none
abbrev pub MayMeetBy : List (List Part) → ℕ → ℕ → Type 0
MayMeetBy all i r = (k : ℕ) × Met (picked all k) i r

abbrev pub NeverBy : List (List Part) → ℕ → ℕ → Type 0
NeverBy all i r = (k : ℕ) → k < choice_count all → Barred (picked all k) i r
