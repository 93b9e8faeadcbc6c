-- What a set keeps, and what falls out of it.
use Rattle.std.proofs.Common.{◌≡◌, ◌⊎◌, inl, inr, ℕ, zero, suc, ◌<◌, ◌+◌, Bool, true, false, true≢false, List, []}
use Rattle.std.proofs.Common.{◌∷◌, length, replicate, get_or, refl, sym, ap, subst, ◌∙◌, arith, Some, slice_get, set}
use Rattle.std.proofs.Common.{nat_lt}
use Rattle.std.proofs.lemmas.Bool.{or_cases, or_left, or_right, ltb-false}
use Rattle.std.proofs.lemmas.List.{length-set, length-replicate}
use Rattle.std.proofs.lemmas.Option.{none-some, same_Some}
use Rattle.fore_base.specs.Lists.{IsIn, Every}
use Rattle.fore_base.specs.Marks.{IsMarked, all_marked, marked_count}
use Rattle.fore_base.proofs.ListLemmas.{every_in, every_weaker, in_from_place}
use Rattle.fore_base.proofs.MarkLemmas.{all_from, all_to, marks_fall, marked_below}
use Rattle.fa_back.specs.declared.hops.Hop.{Hop}
use Rattle.fa_reach.specs.declared.part.Part.{Part}
use Rattle.fa_reach.specs.inner.Going.{Goes, here, down, back, AreOf, Forced, IsFit, AreFit, AvoidedFrom, ForcedFrom}
use Rattle.fa_reach.specs.inner.Sweeps.{kept_at, has_down, sweep_hops, sweep_part, sweep_parts, IsLost, IsClosed}
use Rattle.fa_back.proofs.Pairs.{paired_back}
use Rattle.fa_reach.proofs.Going.{goes_on, IsOf}

-- One number taken out.

unset_less : (marks : List Bool) (a q : ℕ) → IsMarked (set marks a false) q → IsMarked marks q
unset_less [] a q h = h
unset_less (b ∷ bs) zero zero h = absurd (true≢false (sym h))
unset_less (b ∷ bs) zero (suc q) h = h
unset_less (b ∷ bs) (suc a) zero h = h
unset_less (b ∷ bs) (suc a) (suc q) h = unset_less bs a q h

unset_not : (marks : List Bool) (a : ℕ) → IsMarked (set marks a false) a → ⊥
unset_not [] a h = true≢false (sym h)
unset_not (b ∷ bs) zero h = true≢false (sym h)
unset_not (b ∷ bs) (suc a) h = unset_not bs a h

-- what is not there now was that number, or was not there before
unset_new : (marks : List Bool) (a q : ℕ) → get_or (set marks a false) q false ≡ false
    → (q ≡ a) ⊎ (get_or marks q false ≡ false)
unset_new [] a q h = inr h
unset_new (b ∷ bs) zero zero h = inl refl
unset_new (b ∷ bs) zero (suc q) h = inr h
unset_new (b ∷ bs) (suc a) zero h = inr h
unset_new (b ∷ bs) (suc a) (suc q) h = elim (unset_new bs a q h) [ inl e ↦ inl (ap suc e) | inr k ↦ inr k ]

all_there : (n q : ℕ) → q < n → get_or (replicate n true) q false ≡ true
all_there zero q l = absurd (omega (arith, l))
all_there (suc n) zero l = refl
all_there (suc n) (suc q) l = all_there n q (omega (arith, l))

true_or_false : (b : Bool) → (b ≡ true) ⊎ (b ≡ false)
true_or_false true = inl refl
true_or_false false = inr refl

-- Signatures whose roots are all in the set.

pub down_from : (marks : List Bool) (ds : List (List ℕ)) → has_down marks ds ≡ true
    → (d : List ℕ) × IsIn d ds × Every (IsMarked marks) d
down_from marks [] h = absurd (true≢false (sym h))
down_from marks (d ∷ ds) h = elim (or_cases (all_marked marks d) (has_down marks ds) h) [
  | inl e ↦ (d, inl refl, all_from marks d e)
  | inr e ↦ (let w = down_from marks ds e in (w.0, inr w.1, w.2))
]

pub down_to : (marks : List Bool) (ds : List (List ℕ)) (d : List ℕ) → IsIn d ds → Every (IsMarked marks) d
    → has_down marks ds ≡ true
down_to marks [] d i h = absurd i
down_to marks (c ∷ ds) d (inl e) h = or_left (all_marked marks c) (has_down marks ds)
    (all_to marks c (subst (λ (z : List ℕ). Every (IsMarked marks) z) e h))
down_to marks (c ∷ ds) d (inr i) h = or_right (all_marked marks c) (has_down marks ds) (down_to marks ds d i h)

-- a root that is not in the set
one_out : (marks : List Bool) (d : List ℕ) → all_marked marks d ≡ false
    → (r : ℕ) × IsIn r d × (get_or marks r false ≡ false)
one_out marks [] h = absurd (true≢false h)
one_out marks (q ∷ qs) h = go (one_out marks qs) (get_or marks q false) refl
  where
    go : (all_marked marks qs ≡ false → (r : ℕ) × IsIn r qs × (get_or marks r false ≡ false)) → (b : Bool)
        → get_or marks q false ≡ b → (r : ℕ) × IsIn r (q ∷ qs) × (get_or marks r false ≡ false)
    go f true e = let rest : all_marked marks qs ≡ false = rw e at h in let w = f rest in (w.0, inr w.1, w.2)
    go f false e = (q, inl refl, e)

each_out : (marks : List Bool) (ds : List (List ℕ)) (d : List ℕ) → has_down marks ds ≡ false → IsIn d ds
    → (r : ℕ) × IsIn r d × (get_or marks r false ≡ false)
each_out marks ds d h i = go (all_marked marks d) refl
  where
    go : (b : Bool) → all_marked marks d ≡ b → (r : ℕ) × IsIn r d × (get_or marks r false ≡ false)
    go false e = one_out marks d e
    go true e = absurd (true≢false (sym (down_to marks ds d i (all_from marks d e)) ∙ h))

-- What falls leads to `to` for each choice.

module _ (ps : List Part) (to : ℕ) where
  -- the set is as long as there are parts, and what is not in it leads to `to`
  abbrev pub Losing : List Bool → Type 0
  Losing marks = (length marks ≡ length ps) × IsLost ps to marks

  kept_lost : (marks : List Bool) (a : ℕ) (b : Bool) → (b ≡ false → Forced ps a to) → Losing marks
      → Losing (kept_at marks a b)
  kept_lost marks a true f l = l
  kept_lost marks a false f l = (
    length-set marks a false ∙ l.0,
    λ x k e. elim (unset_new marks a x e) [
      | inl s ↦ subst (λ (n : ℕ). Forced ps n to) (sym s) (f refl)
      | inr o ↦ l.1 x (subst (λ (n : ℕ). x < n) (length-set marks a false) k) o
    ],
  )

  module _ (fit : AreFit ps) where
    force_down : (marks : List Bool) (a : ℕ) (p : Part) → slice_get ps a ≡ Some p → has_down marks p.downs ≡ false
        → Losing marks → Forced ps a to
    force_down marks a p e h l ds of =
        let w = paired_back IsOf ds ps a p of e in
        let z = each_out marks p.downs w.0 h w.2 in
        let f = every_in (IsFit (length ps)) ps p fit (in_from_place ps a p e) in
        let low = every_in (λ k. k < length ps) w.0 z.0 (f.downs w.0 w.2) z.1 in
        goes_on ps ds a z.0 to (down a w.0 (here refl) w.1 z.1)
        (l.1 z.0 (subst (λ (n : ℕ). z.0 < n) (sym l.0) low) z.2 ds of)

    force_back : (marks : List Bool) (p : Part) (h : Hop) → IsIn p ps → IsIn h p.hops
        → get_or marks h.to false ≡ false → Losing marks → Forced ps h.from to
    force_back marks p h i j e l ds of =
        let f = every_in (IsFit (length ps)) ps p fit i in
        goes_on ps ds h.from h.to to (back p h (here refl) i j refl)
        (l.1 h.to (subst (λ (n : ℕ). h.to < n) (sym l.0) (f.hops h j)) e ds of)

    hops_lost : (p : Part) (hs : List Hop) (marks : List Bool) → IsIn p ps
        → ((h : Hop) → IsIn h hs → IsIn h p.hops) → Losing marks → Losing (sweep_hops hs marks)
    hops_lost p [] marks i f l = l
    hops_lost p (h ∷ hs) marks i f l =
        hops_lost p hs (kept_at marks h.from (get_or marks h.to false)) i (λ x j. f x (inr j))
        (kept_lost marks h.from (get_or marks h.to false) (λ e. force_back marks p h i (f h (inl refl)) e l) l)

    parts_lost : (j : ℕ) (qs : List Part) (marks : List Bool)
        → ((k : ℕ) (p : Part) → slice_get qs k ≡ Some p → slice_get ps (j + k) ≡ Some p) → Losing marks
        → Losing (sweep_parts j qs marks)
    parts_lost j [] marks f l = l
    parts_lost j (p ∷ qs) marks f l =
        let own : slice_get ps j ≡ Some p = subst (λ (n : ℕ). slice_get ps n ≡ Some p) (omega arith) (f 0 p refl) in
        parts_lost (suc j) qs (sweep_part j p marks)
        (λ k q e. subst (λ (n : ℕ). slice_get ps n ≡ Some q) (omega arith) (f (suc k) q e))
        (hops_lost p p.hops (kept_at marks j (has_down marks p.downs)) (in_from_place ps j p own) (λ h i. i)
        (kept_lost marks j (has_down marks p.downs) (λ e. force_down marks j p own e l) l))

    pub swept_lost : (marks : List Bool) → Losing marks → Losing (sweep_parts 0 ps marks)
    swept_lost marks l = parts_lost 0 ps marks (λ k p e. subst (λ (n : ℕ). slice_get ps n ≡ Some p) (omega arith) e) l

  -- all but `to`
  pub first_lost : Losing (set (replicate (length ps) true) to false)
  first_lost = (
    length-set (replicate (length ps) true) to false ∙ length-replicate (length ps) true,
    λ x k e ds of. elim (unset_new (replicate (length ps) true) to x e) [
      | inl s ↦ here (sym s)
      | inr o ↦ absurd (true≢false (sym (all_there (length ps) x (subst (λ (n : ℕ). x < n)
          (length-set (replicate (length ps) true) to false ∙ length-replicate (length ps) true) k)) ∙ o))
    ],
  )

-- Sets only fall, and where they do not, they are closed.

kept_less : (marks : List Bool) (a : ℕ) (b : Bool) (q : ℕ) → IsMarked (kept_at marks a b) q → IsMarked marks q
kept_less marks a true q h = h
kept_less marks a false q h = unset_less marks a q h

kept_long : (marks : List Bool) (a : ℕ) (b : Bool) → length (kept_at marks a b) ≡ length marks
kept_long marks a true = refl
kept_long marks a false = length-set marks a false

kept_there : (marks : List Bool) (a : ℕ) (b : Bool) → IsMarked (kept_at marks a b) a → b ≡ true
kept_there marks a true h = refl
kept_there marks a false h = absurd (unset_not marks a h)

hops_less : (hs : List Hop) (marks : List Bool) (q : ℕ) → IsMarked (sweep_hops hs marks) q → IsMarked marks q
hops_less [] marks q h = h
hops_less (x ∷ hs) marks q h = kept_less marks x.from (get_or marks x.to false) q
    (hops_less hs (kept_at marks x.from (get_or marks x.to false)) q h)

hops_long : (hs : List Hop) (marks : List Bool) → length (sweep_hops hs marks) ≡ length marks
hops_long [] marks = refl
hops_long (x ∷ hs) marks = hops_long hs (kept_at marks x.from (get_or marks x.to false))
    ∙ kept_long marks x.from (get_or marks x.to false)

parts_less : (j : ℕ) (ps : List Part) (marks : List Bool) (q : ℕ) → IsMarked (sweep_parts j ps marks) q
    → IsMarked marks q
parts_less j [] marks q h = h
parts_less j (p ∷ ps) marks q h = kept_less marks j (has_down marks p.downs) q
    (hops_less p.hops (kept_at marks j (has_down marks p.downs)) q (parts_less (suc j) ps (sweep_part j p marks) q h))

parts_long : (j : ℕ) (ps : List Part) (marks : List Bool) → length (sweep_parts j ps marks) ≡ length marks
parts_long j [] marks = refl
parts_long j (p ∷ ps) marks = parts_long (suc j) ps (sweep_part j p marks)
    ∙ hops_long p.hops (kept_at marks j (has_down marks p.downs)) ∙ kept_long marks j (has_down marks p.downs)

down_less : (new old : List Bool) (ds : List (List ℕ)) → ((q : ℕ) → IsMarked new q → IsMarked old q)
    → has_down new ds ≡ true → has_down old ds ≡ true
down_less new old ds f h =
    let w = down_from new ds h in
    down_to old ds w.0 w.1 (every_weaker (IsMarked new) (IsMarked old) w.0 f w.2)

hops_closed : (hs : List Hop) (marks : List Bool) (h : Hop) → IsIn h hs → IsMarked (sweep_hops hs marks) h.from
    → IsMarked marks h.to
hops_closed [] marks h i m = absurd i
hops_closed (x ∷ hs) marks h (inl e) m =
    let here = hops_less hs (kept_at marks x.from (get_or marks x.to false)) h.from m in
    let to : IsMarked marks x.to = kept_there marks x.from (get_or marks x.to false)
    (subst (λ (z : Hop). IsMarked (kept_at marks x.from (get_or marks x.to false)) z.from) e here) in
    subst (λ (z : Hop). IsMarked marks z.to) (sym e) to
hops_closed (x ∷ hs) marks h (inr i) m = kept_less marks x.from (get_or marks x.to false) h.to
    (hops_closed hs (kept_at marks x.from (get_or marks x.to false)) h i m)

part_less : (j : ℕ) (p : Part) (marks : List Bool) (q : ℕ) → IsMarked (sweep_part j p marks) q → IsMarked marks q
part_less j p marks q h = kept_less marks j (has_down marks p.downs) q
    (hops_less p.hops (kept_at marks j (has_down marks p.downs)) q h)

downs_closed : (j : ℕ) (ps : List Part) (marks : List Bool) (k : ℕ) (p : Part) → slice_get ps k ≡ Some p
    → IsMarked (sweep_parts j ps marks) (j + k) → has_down marks p.downs ≡ true
downs_closed j [] marks k p e m = absurd (none-some p e)
downs_closed j (q ∷ ps) marks zero p e m =
    let here : j + 0 ≡ j = omega arith in
    let own = kept_there marks j (has_down marks q.downs) (hops_less q.hops (kept_at marks j (has_down marks q.downs)) j
    (parts_less (suc j) ps (sweep_part j q marks) j (subst (IsMarked (sweep_parts j (q ∷ ps) marks)) here m))) in
    subst (λ (z : Part). has_down marks z.downs ≡ true) (same_Some q p e) own
downs_closed j (q ∷ ps) marks (suc k) p e m =
    let next : j + suc k ≡ suc j + k = omega arith in
    down_less (sweep_part j q marks) marks p.downs (part_less j q marks) (downs_closed (suc j) ps (sweep_part j q marks)
    k p e (subst (IsMarked (sweep_parts j (q ∷ ps) marks)) next m))

backs_closed : (j : ℕ) (ps : List Part) (marks : List Bool) (p : Part) (h : Hop) → IsIn p ps → IsIn h p.hops
    → IsMarked (sweep_parts j ps marks) h.from → IsMarked marks h.to
backs_closed j [] marks p h i k m = absurd i
backs_closed j (q ∷ ps) marks p h (inl e) k m =
    kept_less marks j (has_down marks q.downs) h.to
    (hops_closed q.hops (kept_at marks j (has_down marks q.downs)) h (subst (λ (z : Part). IsIn h z.hops) e k)
    (parts_less (suc j) ps (sweep_part j q marks) h.from m))
backs_closed j (q ∷ ps) marks p h (inr i) k m =
    part_less j q marks h.to (backs_closed (suc j) ps (sweep_part j q marks) p h i k m)

-- the set fell, or is as it was and closed
pub swept : (ps : List Part) (marks : List Bool)
    → ((sweep_parts 0 ps marks ≡ marks) × IsClosed ps (sweep_parts 0 ps marks))
    ⊎ (marked_count (sweep_parts 0 ps marks) < marked_count marks)
swept ps marks = elim (marks_fall (sweep_parts 0 ps marks) marks (parts_long 0 ps marks) (parts_less 0 ps marks)) [
  | inl e ↦ inl (
    e,
    record {
      downs = λ k p g m. subst (λ (z : List Bool). has_down z p.downs ≡ true) (sym e)
          (downs_closed 0 ps marks k p g (subst (IsMarked (sweep_parts 0 ps marks)) (omega arith) m));
      hops = λ p h i k m. subst (λ (z : List Bool). IsMarked z h.to) (sym e) (backs_closed 0 ps marks p h i k m);
    },
  )
  | inr l ↦ inr l
]

pub swept_done : (ps : List Part) (marks new : List Bool) → new ≡ sweep_parts 0 ps marks
    → nat_lt (marked_count new) (marked_count marks) ≡ false → (new ≡ marks) × IsClosed ps new
swept_done ps marks new e f = elim (swept ps marks) [
  | inl w ↦ (e ∙ w.0, subst (IsClosed ps) (sym e) w.1)
  | inr l ↦ (let high = ltb-false (marked_count new) (marked_count marks) f in
      let low = subst (λ (z : List Bool). marked_count z < marked_count marks) (sym e) l in
      absurd (omega (arith, high, low)))
]

-- A choice that does not lead out of a closed set.

-- the roots of one signature of each part, from component j on, which stay in the set where the component is in it
abbrev Chosen : List Bool → ℕ → List Part → Type 0
Chosen marks j ps = (ds : List (List ℕ)) × AreOf ds ps
    × ((k : ℕ) (d : List ℕ) → slice_get ds k ≡ Some d → IsMarked marks (j + k) → Every (IsMarked marks) d)

with_one : (marks : List Bool) (j : ℕ) (p : Part) (ps : List Part) (c : List ℕ) → IsIn c p.downs
    → (IsMarked marks j → Every (IsMarked marks) c) → Chosen marks (suc j) ps → Chosen marks j (p ∷ ps)
with_one marks j p ps c i g rest = (c ∷ rest.0, (i, rest.1), inside)
  where
    inside : (k : ℕ) (d : List ℕ) → slice_get (c ∷ rest.0) k ≡ Some d → IsMarked marks (j + k)
        → Every (IsMarked marks) d
    inside zero d e m = subst (λ (z : List ℕ). Every (IsMarked marks) z) (same_Some c d e)
        (g (subst (IsMarked marks) (omega arith) m))
    inside (suc k) d e m = rest.2 k d e (subst (IsMarked marks) (omega arith) m)

choose : (marks : List Bool) (n j : ℕ) (ps : List Part) → Every (IsFit n) ps
    → ((k : ℕ) (p : Part) → slice_get ps k ≡ Some p → IsMarked marks (j + k) → has_down marks p.downs ≡ true)
    → Chosen marks j ps
choose marks n j [] fit f = ([], tt, λ k d e m. absurd (none-some d e))
choose marks n j (p ∷ ps) fit f =
    let rest = choose marks n (suc j) ps fit.1 (λ k q e m. f (suc k) q e (subst (IsMarked marks) (omega arith) m)) in
    elim (true_or_false (has_down marks p.downs)) [
      | inl e ↦ (let w = down_from marks p.downs e in with_one marks j p ps w.0 w.1 (λ m. w.2) rest)
      | inr e ↦ with_one marks j p ps fit.0.some.0 fit.0.some.1
          (λ m. absurd (true≢false (sym (f 0 p refl (subst (IsMarked marks) (omega arith) m)) ∙ e))) rest
    ]

stays_in : (ps : List Part) (marks : List Bool) (ds : List (List ℕ)) → IsClosed ps marks
    → ((k : ℕ) (d : List ℕ) → slice_get ds k ≡ Some d → IsMarked marks k → Every (IsMarked marks) d)
    → (u r : ℕ) → IsMarked marks u → Goes ps ds u r → IsMarked marks r
stays_in ps marks ds c f u r m (here e) = subst (IsMarked marks) (sym e) m
stays_in ps marks ds c f u r m (down j d h a i) =
    every_in (IsMarked marks) d r (f j d a (stays_in ps marks ds c f u j m h)) i
stays_in ps marks ds c f u r m (back p h k i j e) =
    subst (IsMarked marks) e (c.hops p h i j (stays_in ps marks ds c f u h.from m k))

-- where all that is known is in a closed set without `to`, some choice avoids it
pub closed_avoids : (ps : List Part) (marks known : List Bool) (to : ℕ) → AreFit ps → IsClosed ps marks
    → ((u : ℕ) → IsMarked known u → IsMarked marks u) → (IsMarked marks to → ⊥) → AvoidedFrom ps known to
closed_avoids ps marks known to fit c f not =
    let w = choose marks (length ps) 0 ps fit
    (λ k p e m. c.downs k p e (subst (IsMarked marks) (omega arith) m)) in (
      w.0,
      w.1,
      λ u m g. not (stays_in ps marks w.0 c (λ k d e n. w.2 k d e (subst (IsMarked marks) (omega arith) n)) u to
          (f u m) g),
    )

-- where one that is known fell, none does
pub fallen_forced : (ps : List Part) (marks known : List Bool) (to : ℕ) → Losing ps to marks
    → length known ≡ length ps → (u : ℕ) × IsMarked known u × (get_or marks u false ≡ false) → ForcedFrom ps known to
fallen_forced ps marks known to l n w =
    let low = marked_below known w.0 w.1 in
    (w.0, w.1, l.1 w.0 (subst (λ (k : ℕ). w.0 < k) (n ∙ sym l.0) low) w.2)

-- `to` stays out
pub first_out : (n to : ℕ) → IsMarked (set (replicate n true) to false) to → ⊥
first_out n to h = unset_not (replicate n true) to h

pub swept_out : (ps : List Part) (marks : List Bool) (to : ℕ) → (IsMarked marks to → ⊥)
    → IsMarked (sweep_parts 0 ps marks) to → ⊥
swept_out ps marks to not m = not (parts_less 0 ps marks to m)
