-- What a step leaves to the next one, and what the search has covered at its end.
use Rattle.std.proofs.Common.{◌≡◌, inl, inr, ℕ, zero, suc, ◌<◌, Bool, true, false, ◌||◌, nat_eq, List, [], ◌∷◌}
use Rattle.std.proofs.Common.{◌++◌, length, get_or, set, replicate, slice_get, Option, Some, None, MatchOption, is_some}
use Rattle.std.proofs.Common.{Result, Ok, Err, true≢false, refl, sym, ap, subst, ◌∙◌, arith}
use Rattle.std.specs.Result.{OnOk}
use Rattle.std.proofs.lemmas.Bool.{eq-eqb}
use Rattle.std.proofs.lemmas.List.{append-nil, length-append, length-replicate}
use Rattle.fore_base.specs.Lists.{IsIn, Every}
use Rattle.fore_base.specs.Marks.{IsMarked, marked_count}
use Rattle.fore_base.proofs.ListLemmas.{every_append, every_in, every_weaker, in_every, in_from_place, in_right}
use Rattle.fore_base.proofs.MarkLemmas.{count_none, marked_below, marked_new, unmarked_none}
use Rattle.ta_core.specs.Auto.{Automaton, IsRanked, IsRankedRule}
use Rattle.ta_core.specs.declared.auto.Rule.{Rule}
use Rattle.ta_incl.specs.declared.exploring.Turn.{Turn}
use Rattle.ta_incl.specs.declared.found.Found.{Found}
use Rattle.ta_incl.specs.declared.order.Orders.{Orders}
use Rattle.ta_incl.specs.declared.searching.Search.{Search}
use Rattle.ta_incl.specs.inner.Founds.{AreAt, HaveStates, IsDerived, AreFresh, AreLasting, HasUnder, IsProper, is_among}
use Rattle.ta_incl.specs.inner.Founds.{is_due}
use Rattle.ta_incl.specs.inner.Founds.{IsCovered, CoversFrom, CoversRule, CoversRules, Widens, IsFailing, IsSearch}
use Rattle.ta_incl.specs.inner.Founds.{IsReady, CoversReady, IsExplored}
use Rattle.ta_incl.specs.inner.Orders.{AreUpward}
use Rattle.ta_incl.proofs.Covering.{covered_more}
use Rattle.ta_incl.proofs.Deriving.{derived_all}
use Rattle.ta_incl.proofs.Lasting.{last_each, lasting_long}
use Rattle.ta_incl.proofs.Places.{get_either}
use Rattle.ta_incl.proofs.Showing.{covered_above, lifts}

-- the pairs at places of the first list stand there
at_first : (found more : List Found) (places : List ℕ) (items : List Found) → Every (λ i. i < length found) places
    → AreAt (found ++ more) places items → AreAt found places items
at_first found more [] [] l a = tt
at_first found more [] (f ∷ items) l a = absurd a
at_first found more (i ∷ places) [] l a = absurd a
at_first found more (i ∷ places) (f ∷ items) l a = (
  elim (get_either found more i f a.0) [
    | inl e ↦ e
    | inr e ↦ absurd (let low = l.0 in let high = e.1 in omega (arith, low, high))
  ],
  at_first found more places items l.1 a.1,
)

module _ (a b : Automaton) (orders : Orders) (old : Search) where
  pub ready_low : IsSearch a b orders old → (i : ℕ) → IsReady old i → i < length old.found
  ready_low s i h =
      let l = marked_below old.live i h.0 in
      let e = lasting_long orders.left old.found old.live s.lasting in
      omega (arith, l, e)

  -- a step over the pairs that are ready, of which one is taken up
  pub stepped : (new : Search) (added : List Found) (turn : Turn) → IsSearch a b orders old
      → new.found ≡ old.found ++ added → ((i : ℕ) → IsReady new i → IsReady old i)
      → ((i : ℕ) → IsReady old i → IsMarked turn.ready i)
      → Every (λ r. CoversFrom b orders old.found turn (old.found ++ added) r []) a.rules
      → CoversReady a b orders old (λ places. is_due turn.at places ≡ false)
      → CoversReady a b orders new (λ _. Unit {0})
  stepped new added turn s e still ready now before r places items i at all kids _ =
      subst (λ (found : List Found). IsCovered b orders found r items) (sym e) (here (is_due turn.at places) refl)
    where
      was : Every (IsReady old) places
      was = every_weaker (IsReady new) (IsReady old) places still all

      there : AreAt old.found places items
      there = at_first old.found added places items
          (every_weaker (IsReady old) (λ (k : ℕ). k < length old.found) places (ready_low s) was)
          (subst (λ (found : List Found). AreAt found places items) e at)

      here : (t : Bool) → is_due turn.at places ≡ t → IsCovered b orders (old.found ++ added) r items
      here true d =
          every_in (λ (s : Rule). CoversFrom b orders old.found turn (old.found ++ added) s []) a.rules r now i
          places items there (every_weaker (IsReady old) (IsMarked turn.ready) places ready was) kids d
      here false d = covered_more b orders old.found added r items (before r places items i there was kids d)

  -- further pairs
  pub search_more : (new : Search) (added : List Found) → IsRanked a → IsSearch a b orders old
      → new.found ≡ old.found ++ added
      → Widens orders.left (λ f. IsDerived a.rules b old.found f × HasUnder b orders.right f) old.found [] added
      → length new.taken ≡ length new.found
      → AreLasting orders.left (old.found ++ added) new.live
      → (new.failed ≡ true → (f : Found) × IsIn f added × IsFailing a.roots b.roots f)
      → IsSearch a b orders new
  search_more new added pa s e w taken lasting fails = record {
    derived = derived_all a.rules b old.found orders.left (HasUnder b orders.right) new.found s.derived (record {
      more = added;
      is = e;
      each = each;
      fresh = λ h. subst (AreFresh orders.left) (sym e) fresh;
    });
    proper = subst (Every (IsProper a b orders)) (sym e)
        (every_append (IsProper a b orders) old.found added s.proper
        (every_weaker (λ (f : Found). IsDerived a.rules b old.found f × HasUnder b orders.right f) (IsProper a b orders)
        added proper each));
    fresh = subst (AreFresh orders.left) (sym e) fresh;
    lasting = subst (λ (found : List Found). AreLasting orders.left found new.live) (sym e) lasting;
    taken = taken;
    fails = λ h. let f = fails h in
        (f.0, subst (IsIn f.0) (sym e) (in_right f.0 old.found added f.1), f.2);
  }
    where
      each : Every (λ f. IsDerived a.rules b old.found f × HasUnder b orders.right f) added
      each = subst (Every (λ f. IsDerived a.rules b old.found f × HasUnder b orders.right f)) (sym w.is) w.each

      fresh : AreFresh orders.left (old.found ++ added)
      fresh = w.fresh (subst (AreFresh orders.left) (sym (append-nil old.found)) s.fresh)

      proper : (f : Found) → IsDerived a.rules b old.found f × HasUnder b orders.right f → IsProper a b orders f
      proper f d =
          let r = d.0 in
          let low = (every_in (IsRankedRule a.states) a.rules r.0 pa.1 (in_from_place a.rules f.rule r.0 r.1)).0 in
          record {
            state = subst (λ (q : ℕ). q < a.states) (sym r.2.state) low;
            long = r.2.marks.long;
            under = d.1;
          }

  -- where all pairs that last were taken up, all is covered
  pub all_covered : IsRanked a → IsRanked b → AreUpward a b orders → IsSearch a b orders old
      → CoversReady a b orders old (λ _. Unit {0}) → ((i : ℕ) → IsMarked old.live i → IsMarked old.taken i)
      → CoversRules b orders old.found a.rules
  all_covered pa pb up s ready done = in_every (CoversRule b orders old.found) a.rules (λ r i items all kids.
      let w = last_each a b orders up old.found old.live items s.lasting s.proper all in
      covered_above a b pa pb orders up old.found r items w.1 (lifts a b pa pb orders up r items w.1 i kids w.4)
      (λ t j own. ready t w.0 w.1 j w.2
      (every_weaker (IsMarked old.live) (IsReady old) w.0 (λ k m. (m, done k m)) w.3) own tt))

  pub explored_all : IsRanked a → IsRanked b → AreUpward a b orders → IsSearch a b orders old
      → CoversReady a b orders old (λ _. Unit {0}) → ((i : ℕ) → IsMarked old.live i → IsMarked old.taken i)
      → IsExplored a b orders old.found
  explored_all pa pb up s ready done = record {
    upward = up;
    derived = s.derived;
    proper = s.proper;
    fresh = s.fresh;
    closed = λ _. all_covered pa pb up s ready done;
  }

  -- where a pair fails, nothing more is asked
  pub explored_failed : AreUpward a b orders → IsSearch a b orders old → old.failed ≡ true
      → IsExplored a b orders old.found
  explored_failed up s e = record {
    upward = up;
    derived = s.derived;
    proper = s.proper;
    fresh = s.fresh;
    closed = λ h. let f = s.fails e in
        absurd (every_in (λ (g : Found). IsFailing a.roots b.roots g → ⊥) old.found f.0 h f.1 f.2);
  }

-- where a search for a failing pair found one, there is one
pub fails_from : (lefts rights : List ℕ) (found : List Found) (o : Option ℕ) (t : Bool)
    → MatchOption o (Every (λ f. IsFailing lefts rights f → ⊥) found)
    (λ place. (f : Found) × (slice_get found place ≡ Some f) × IsFailing lefts rights f) → t ≡ is_some o → t ≡ true
    → (f : Found) × IsIn f found × IsFailing lefts rights f
fails_from lefts rights found None t h e k = absurd (true≢false (sym k ∙ e))
fails_from lefts rights found (Some place) t h e k = (h.0, in_from_place found place h.0 h.1, h.2)

-- both follow where there is a value
pub on_ok_both : {X E : Type 0} (r : Result X E) (F G H : Type 0) → (F → G → H) → OnOk r F → OnOk r G → OnOk r H
on_ok_both (Ok x) F G H k f g = k f g
on_ok_both (Err e) F G H k f g = tt

-- further places without marks
pub marked_old : (xs : List Bool) (n i : ℕ) → IsMarked (xs ++ replicate n false) i → IsMarked xs i
marked_old [] n i h = absurd (unmarked_none n i h)
marked_old (x ∷ xs) n zero h = h
marked_old (x ∷ xs) n (suc i) h = marked_old xs n i h

pub count_old : (xs : List Bool) (n : ℕ) → marked_count (xs ++ replicate n false) ≡ marked_count xs
count_old [] n = count_none n
count_old (true ∷ xs) n = let e = count_old xs n in omega (arith, e)
count_old (false ∷ xs) n = count_old xs n

pub taken_more : (found added all : List Found) (taken new : List Bool) → new ≡ taken ++ replicate (length added) false
    → all ≡ found ++ added → length taken ≡ length found → length new ≡ length all
taken_more found added all taken new e f l =
    let a = ap length e ∙ length-append taken (replicate (length added) false) in
    let b = length-replicate (length added) false in
    let c = ap length f ∙ length-append found added in
    omega (arith, a, b, c, l)

-- a place within has no mark, whatever stands for the places behind
pub no_mark : (marks : List Bool) (i : ℕ) → i < length marks → get_or marks i false ≡ false
    → get_or marks i true ≡ false
no_mark [] i l e = absurd (omega (arith, l))
no_mark (m ∷ marks) zero l e = e
no_mark (m ∷ marks) (suc i) l e = no_mark marks i (omega (arith, l)) e

-- the pair that is taken up was not ready before
ready_before : (x : Search) (i : ℕ) (places : List ℕ)
    → Every (λ j. IsMarked x.live j × IsMarked (set x.taken i true) j) places → is_among i places ≡ false
    → Every (IsReady x) places
ready_before x i [] h e = tt
ready_before x i (j ∷ places) h e =
    let p = or_parts (nat_eq j i) (is_among i places) e in (
      (
        h.0.0,
        elim (marked_new x.taken i j h.0.1) [
          | inl same ↦ absurd (true≢false (sym (eq-eqb j i same) ∙ p.0))
          | inr m ↦ m
        ],
      ),
      ready_before x i places h.1 p.1,
    )
  where
    or_parts : (s t : Bool) → (s || t) ≡ false → (s ≡ false) × (t ≡ false)
    or_parts true t e = absurd (true≢false e)
    or_parts false t e = (refl, e)

pub taken_covers : (a b : Automaton) (orders : Orders) (x : Search) (i : ℕ) → CoversReady a b orders x (λ _. Unit {0})
    → (r : Rule) (places : List ℕ) (items : List Found) → IsIn r a.rules → AreAt x.found places items
    → Every (λ j. IsMarked x.live j × IsMarked (set x.taken i true) j) places → HaveStates r.children items
    → is_due (Some i) places ≡ false → IsCovered b orders x.found r items
taken_covers a b orders x i h r places items j at all kids d =
    h r places items j at (ready_before x i places all d) kids tt
