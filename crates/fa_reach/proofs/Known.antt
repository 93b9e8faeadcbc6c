-- What is known to be reached for each choice of signatures.
use Rattle.std.proofs.Common.{
  ◌≡◌,
  inl,
  inr,
  ℕ,
  ◌<◌,
  Bool,
  true,
  false,
  List,
  [],
  ◌∷◌,
  length,
  replicate,
  set,
  sym,
  subst,
  refl,
}
use Rattle.std.proofs.Common.{◌∙◌, ◌-◌, arith, Some, slice_get}
use Rattle.std.proofs.lemmas.List.{length-set, length-replicate}
use Rattle.fore_base.specs.Lists.{IsIn}
use Rattle.fore_base.specs.Marks.{IsMarked, marked_count}
use Rattle.fore_base.proofs.MarkLemmas.{count_set, count_within, marked_new, marked_set, marked_still, unmarked_none}
use Rattle.fa_reach.specs.declared.part.Part.{Part}
use Rattle.fa_back.specs.declared.hops.Hop.{Hop}
use Rattle.fa_reach.specs.inner.Going.{here, down, back, Forced, Missed, AvoidedFrom, ForcedFrom}
use Rattle.fa_reach.specs.inner.Sweeps.{IsUnknown, Knows, Gains}
use Rattle.fa_back.proofs.Pairs.{paired_back}
use Rattle.fa_reach.proofs.Going.{IsOf, goes_on}

pub knows_first : (ps : List Part) (from : ℕ) → from < length ps
    → Knows ps from (set (replicate (length ps) false) from true)
knows_first ps from l = (
  length-set (replicate (length ps) false) from true ∙ length-replicate (length ps) false,
  marked_set (replicate (length ps) false) from
      (subst (λ (n : ℕ). from < n) (sym (length-replicate (length ps) false)) l),
  λ u m ds of. elim (marked_new (replicate (length ps) false) from u m)
      [ inl e ↦ here e | inr n ↦ absurd (unmarked_none (length ps) u n) ],
)

pub forced_to : (ps : List Part) (from to : ℕ) (known : List Bool) → Knows ps from known → ForcedFrom ps known to
    → Forced ps from to
forced_to ps from to known k w ds of = goes_on ps ds from w.0 to (k.2 w.0 w.1 ds of) (w.2 ds of)

pub missed_to : (ps : List Part) (from to : ℕ) (known : List Bool) → Knows ps from known → AvoidedFrom ps known to
    → Missed ps from to
missed_to ps from to known k w = (w.0, w.1, w.2 from k.1)

pub knows_more : (ps : List Part) (from to : ℕ) (known : List Bool) → Knows ps from known → ForcedFrom ps known to
    → Knows ps from (set known to true)
knows_more ps from to known k w = (
  length-set known to true ∙ k.0,
  marked_still known to from k.1,
  λ u m. elim (marked_new known to u m) [
    | inl e ↦ subst (λ (n : ℕ). Forced ps from n) (sym e) (forced_to ps from to known k w)
    | inr n ↦ k.2 u n
  ],
)

-- fewer are not known
pub mark_falls : (known : List Bool) (to : ℕ) → IsUnknown known to
    → length (set known to true) - marked_count (set known to true) < length known - marked_count known
mark_falls known to u =
    let more = count_set known to u in
    let within = count_within (set known to true) in
    let long = length-set known to true in
    omega (arith, more, within, long)

-- What is known more

pub gains_none : (ps : List Part) (known : List Bool) → Gains ps known known
gains_none ps known = record { long = refl; kept = λ u m. m; knows = λ i k. k }

pub gains_on : (ps : List Part) (a b c : List Bool) → Gains ps a b → Gains ps b c → Gains ps a c
gains_on ps a b c p q = record {
  long = q.long ∙ p.long;
  kept = λ u m. q.kept u (p.kept u m);
  knows = λ i k. q.knows i (p.knows i k);
}

pub gains_mark : (ps : List Part) (known : List Bool) (r : ℕ) → ForcedFrom ps known r
    → Gains ps known (set known r true)
gains_mark ps known r w = record {
  long = length-set known r true;
  kept = λ u m. marked_still known r u m;
  knows = λ i k. knows_more ps i r known k w;
}

-- what is reached from what is known stays so
pub forced_still : (ps : List Part) (a b : List Bool) (r : ℕ) → Gains ps a b → ForcedFrom ps a r → ForcedFrom ps b r
forced_still ps a b r g w = (w.0, g.kept w.0 w.1, w.2)

-- the one signature of a component
pub only_down : (ps : List Part) (known : List Bool) (j : ℕ) (p : Part) (d : List ℕ) (r : ℕ) → slice_get ps j ≡ Some p
    → p.downs ≡ d ∷ [] → IsMarked known j → IsIn r d → ForcedFrom ps known r
only_down ps known j p d r at only m i = (
  j,
  m,
  λ ds of.
      let found = paired_back IsOf ds ps j p of at in
      let same : found.0 ≡ d =
      elim (subst (λ (cs : List (List ℕ)). IsIn found.0 cs) only found.2) [ inl e ↦ e | inr z ↦ absurd z ] in
      down j found.0 (here refl) found.1 (subst (λ (c : List ℕ). IsIn r c) (sym same) i),
)

-- a way back
pub hop_back : (ps : List Part) (known : List Bool) (p : Part) (h : Hop) → IsIn p ps → IsIn h p.hops
    → IsMarked known h.from → ForcedFrom ps known h.to
hop_back ps known p h i j m = (h.from, m, λ ds of. back p h (here refl) i j refl)

-- fewer are not known
pub count_falls : (old new : List Bool) → length new ≡ length old → marked_count old < marked_count new
    → length new - marked_count new < length old - marked_count old
count_falls old new long more = let within = count_within new in omega (arith, long, more, within)
