-- What the found pairs answer.
use Rattle.std.proofs.Common.{◌≡◌, ◌↔◌, ℕ, zero, suc, ◌<◌, Bool, true, false, true≢false, List, [], ◌∷◌, length, get_or}
use Rattle.std.proofs.Common.{slice_get, Option, Some, None, MatchOption, is_some, not, IsTrue, refl, sym, ap}
use Rattle.std.proofs.Common.{subst, ◌∙◌}
use Rattle.std.proofs.lemmas.Bool.{and_parts}
use Rattle.std.proofs.lemmas.Option.{none-some, same_Some, slice_get_within}
use Rattle.fore_base.specs.Lists.{IsIn, Every, Paired}
use Rattle.ta_core.specs.Auto.{Automaton, IsRanked, IsRankedRule}
use Rattle.ta_core.specs.Language.{IsWithin}
use Rattle.fore_base.specs.Marks.{IsMarked, marked_each, some_marked}
use Rattle.ta_core.specs.Tops.{Tops}
use Rattle.ta_core.specs.declared.auto.Rule.{Rule}
use Rattle.ta_core.specs.declared.tree.Tree.{Tree}
use Rattle.fore_base.proofs.ListLemmas.{every_in, every_weaker, in_every, in_from_place, partner_for, partner_of}
use Rattle.fore_base.proofs.MarkLemmas.{marked_below, some_from, some_to}
use Rattle.ta_incl.specs.declared.found.Found.{Found}
use Rattle.ta_incl.specs.declared.inclusion.Pair.{Pair}
use Rattle.ta_incl.specs.declared.inclusion.Inclusion.{Inclusion}
use Rattle.ta_incl.specs.declared.inclusion.Inclusion.TheVariants.{Yes, No}
use Rattle.ta_incl.specs.declared.order.Orders.{Orders}
use Rattle.ta_incl.specs.inner.Founds.{HaveStates, sets_of, IsCover, HasCover, IsProper, AreApart, IsCovered}
use Rattle.ta_incl.specs.inner.Founds.{CoversRule}
use Rattle.ta_incl.specs.inner.Founds.{CoversRules, IsFailing, IsExplored, IsTreeAt, IsThinned, IsPairOf}
use Rattle.ta_incl.specs.inner.Orders.{AreOrdered, AreUpward}
use Rattle.ta_incl.specs.Inclusions.{IsSubset, IsAntichain, IsBelow, Leads, IsClosed, MeetsRoots, IsMissing, IfYes}
use Rattle.ta_incl.specs.Inclusions.{IfNo}
use Rattle.ta_incl.specs.inner.Answers.{Answers}
use Rattle.ta_incl.proofs.Covering.{cover_same}
use Rattle.ta_incl.proofs.Showing.{shows_within}
use Rattle.ta_incl.proofs.Sides.{left_below, right_below}
use Rattle.ta_incl.proofs.Trees.{tree_found}

-- where a pair fails, not each one does not
pub failing_some : (lefts rights : List ℕ) (found : List Found) (o : Option ℕ)
    → MatchOption o (Every (λ f. IsFailing lefts rights f → ⊥) found)
    (λ place. (f : Found) × (slice_get found place ≡ Some f) × IsFailing lefts rights f) → is_some o ≡ true
    → Every (λ f. IsFailing lefts rights f → ⊥) found → ⊥
failing_some lefts rights found None h s k = true≢false (sym s)
failing_some lefts rights found (Some place) h s k =
    every_in (λ (f : Found). IsFailing lefts rights f → ⊥) found h.0 k (in_from_place found place h.0 h.1) h.2

-- a pair with a root state that does not fail has a root state in its set
meets : (a b : Automaton) (f : Found) → (IsFailing a.roots b.roots f → ⊥) → IsIn f.state a.roots → (q : ℕ)
    × IsIn q b.roots × IsMarked f.marks q
meets a b f h i = some_from f.marks b.roots (here (some_marked f.marks b.roots) refl)
  where
    here : (t : Bool) → some_marked f.marks b.roots ≡ t → some_marked f.marks b.roots ≡ true
    here true e = e
    here false e = absurd (h (i, e))

-- where no pair fails, each tree of a is one of b
pub within : (a b : Automaton) → IsRanked a → IsRanked b → (orders : Orders) (found : List Found)
    → IsExplored a b orders found → Every (λ f. IsFailing a.roots b.roots f → ⊥) found → IsWithin a b
within a b pa pb orders found e h =
    shows_within a b pa pb orders e.upward found (e.closed h)
    (λ f i. meets a b f (every_in (λ (x : Found). IsFailing a.roots b.roots x → ⊥) found f h i))

module _ (a b : Automaton) (orders : Orders) (up : AreUpward a b orders) where
  -- a pair whose set is within that of another one of its state covers it
  covers_pair : (f g : Found) (x y : Pair) → IsProper a b orders f → IsProper a b orders g → IsPairOf f x → IsPairOf g y
      → x.state ≡ y.state → IsSubset x.set y.set → IsCover orders.left f g
  covers_pair f g x y p p' h k s i = (
    subst (λ (q : ℕ). AreOrdered orders.left g.state q) (sym k.0 ∙ sym s ∙ h.0) (up.left.same g.state p'.state),
    λ q m.
        let n : IsMarked g.marks q = (k.1 q).0 (every_in (λ (p : ℕ). IsIn p y.set) x.set q i ((h.1 q).1 m)) in
        let l : q < b.states = rw p'.long at (marked_below g.marks q n) in
        p'.under.each q (l, (q, n, up.right.same q l)),
  )

  antichain : (kept : List Found) (pairs : List Pair) → Every (IsProper a b orders) kept → AreApart orders.left kept
      → Paired IsPairOf kept pairs → IsAntichain pairs
  antichain [] [] o h p i j x y e d s k = absurd (none-some x e)
  antichain [] (z ∷ pairs) o h p i j x y e d s k = absurd p
  antichain (f ∷ kept) [] o h p i j x y e d s k = absurd p
  antichain (f ∷ kept) (z ∷ pairs) o h p zero zero x y e d s k = refl
  antichain (f ∷ kept) (z ∷ pairs) o h p zero (suc j) x y e d s k =
      let g = partner_of IsPairOf kept pairs y p.1 (in_from_place pairs j y d) in
      let apart = every_in (λ (u : Found). (IsCover orders.left f u → ⊥) × (IsCover orders.left u f → ⊥)) kept g.0 h.0
      g.1 in
      absurd (apart.0 (covers_pair f g.0 x y o.0 (every_in (IsProper a b orders) kept g.0 o.1 g.1)
      (subst (IsPairOf f) (same_Some z x e) p.0) g.2 s k))
  antichain (f ∷ kept) (z ∷ pairs) o h p (suc i) zero x y e d s k =
      let g = partner_of IsPairOf kept pairs x p.1 (in_from_place pairs i x e) in
      let apart = every_in (λ (u : Found). (IsCover orders.left f u → ⊥) × (IsCover orders.left u f → ⊥)) kept g.0 h.0
      g.1 in
      absurd (apart.1 (covers_pair g.0 f x y (every_in (IsProper a b orders) kept g.0 o.1 g.1) o.0 g.2
      (subst (IsPairOf f) (same_Some z y d) p.0) s k))
  antichain (f ∷ kept) (z ∷ pairs) o h p (suc i) (suc j) x y e d s k =
      ap suc (antichain kept pairs o.1 h.1 p.1 i j x y e d s k)

-- where the sets of pairs lead, their lists of states lead
lead_sets : (qs : List ℕ) (items : List Found) (xs : List Pair) → marked_each qs (sets_of items) ≡ true
    → Paired IsPairOf items xs → Paired (λ q x. IsIn q x.set) qs xs
lead_sets [] [] [] h p = tt
lead_sets [] [] (x ∷ xs) h p = absurd p
lead_sets [] (f ∷ items) xs h p = absurd (true≢false (sym h))
lead_sets (q ∷ qs) [] xs h p = absurd (true≢false (sym h))
lead_sets (q ∷ qs) (f ∷ items) [] h p = absurd p
lead_sets (q ∷ qs) (f ∷ items) (x ∷ xs) h p = (
  (p.0.1 q).1 (and_parts (get_or f.marks q false) (marked_each qs (sets_of items)) h).0,
  lead_sets qs items xs (and_parts (get_or f.marks q false) (marked_each qs (sets_of items)) h).1 p.1,
)

module _ (a b : Automaton) (pa : IsRanked a) (pb : IsRanked b) (orders : Orders) (found kept : List Found)
    (pairs : List Pair) (x : IsExplored a b orders found) (thin : IsThinned orders.left found kept)
    (of : Paired IsPairOf kept pairs) where
  -- the found pairs behind the pairs
  items_for : (qs : List ℕ) (xs : List Pair) → Paired (λ q x. (x.state ≡ q) × IsIn x pairs) qs xs → (items : List Found)
      × Every (λ f. IsIn f found) items × HaveStates qs items × Paired IsPairOf items xs
  items_for [] [] h = ([], tt, tt, tt)
  items_for [] (x ∷ xs) h = absurd h
  items_for (q ∷ qs) [] h = absurd h
  items_for (q ∷ qs) (x ∷ xs) h =
      let f = partner_of IsPairOf kept pairs x of h.0.1 in
      let w = items_for qs xs h.1 in (
        f.0 ∷ w.0,
        (every_in (λ (g : Found). IsIn g found) kept f.0 thin.of f.1, w.1),
        (sym f.2.0 ∙ h.0.0, w.2),
        (f.2, w.3),
      )

  closed_pairs : CoversRules b orders found a.rules → IsClosed a b pairs
  closed_pairs closed r xs y i for g =
      let w = items_for r.children xs for in
      let c = every_in (CoversRule b orders found) a.rules r closed i w.0 w.1 w.2 in
      let k = every_in (HasCover orders.left kept) found c.pair thin.cover c.in_found in
      let z = partner_for IsPairOf kept pairs k.0 of k.1 in
      let proper = every_in (IsProper a b orders) found c.pair x.proper c.in_found in
      let top = every_in (IsProper a b orders) found k.0 x.proper
      (every_in (λ (f : Found). IsIn f found) kept k.0 thin.of k.1) in
      let above = above_through_rule c k.0 proper k.2 in (
        z.0,
        z.1,
        (
          subst (λ (q : ℕ). IsBelow a b q z.0.state) (sym g.0)
              (subst (IsBelow a b r.state) (sym z.2.0)
              (left_below a b pa pb orders.left x.upward.left.upward r.state k.0.state (low r i) top.state above.0)),
          in_every _ z.0.set (λ p m.
              let t = above.1 p ((z.2.1 p).0 m) in
              let lead : Leads b r xs t.0 = (t.1.0, t.1.1, t.1.2, t.1.3.0, lead_sets t.1.0.children w.0 xs t.1.3.1 w.3)
              in
              (t.0, (g.1 t.0).1 lead, right_below a b pa pb orders.right x.upward.right.upward p t.0 t.2)),
        ),
      )
    where
      low : (r : Rule) → IsIn r a.rules → r.state < a.states
      low r i = (every_in (IsRankedRule a.states) a.rules r pa.1 i).0

      above_through_rule : {r : Rule} {items : List Found} (c : IsCovered b orders found r items) (f : Found)
          → IsProper a b orders c.pair → IsCover orders.left f c.pair
          → AreOrdered orders.left r.state f.state
          × ((m : ℕ) → IsMarked f.marks m → (k : ℕ) × Tops b.rules r.symbol (sets_of items) k
          × AreOrdered orders.right m k)
      above_through_rule {r = r} c f p h = (
        x.upward.left.through r.state c.pair.state f.state p.state c.state h.0,
        λ m k.
            let u = (p.under.only m (h.1 m k)).1 in
            let v = c.set u.0 u.1 in
            (v.0, v.1, x.upward.right.through m u.0 v.0 (rw p.long at (marked_below c.pair.marks u.0 u.1)) u.2 v.2),
      )

  meet_roots : Every (λ f. IsFailing a.roots b.roots f → ⊥) found → MeetsRoots a b pairs
  meet_roots h = in_every _ pairs (λ x i root.
      let f = partner_of IsPairOf kept pairs x of i in
      let inside = every_in (λ (g : Found). IsIn g found) kept f.0 thin.of f.1 in
      let m = meets a b f.0 (every_in (λ (g : Found). IsFailing a.roots b.roots g → ⊥) found f.0 h inside)
      (subst (λ (q : ℕ). IsIn q a.roots) f.2.0 root) in
      (m.0, (f.2.1 m.0).1 m.2, m.1))

  -- the kept pairs, where none fails
  pub answer_yes : Every (λ f. IsFailing a.roots b.roots f → ⊥) found → Answers a b (Yes pairs)
  answer_yes h = (
    within a b pa pb orders found x h,
    antichain a b orders x.upward kept pairs
        (every_weaker (λ (f : Found). IsIn f found) (IsProper a b orders) kept
        (λ f i. every_in (IsProper a b orders) found f x.proper i) thin.of) thin.apart of,
    closed_pairs (x.closed h),
    meet_roots h,
  )

-- the tree of a pair that fails
pub answer_no : (a b : Automaton) (found : List Found) (place : ℕ) (t : Tree) → IsTreeAt a.rules b found place t
    → (f : Found) × (slice_get found place ≡ Some f) × IsFailing a.roots b.roots f → Answers a b (No t)
answer_no a b found place t h k =
    let e : h.0 ≡ k.0 = same_Some h.0 k.0 (sym h.1 ∙ k.1) in
    let f = subst (IsFailing a.roots b.roots) (sym e) k.2 in
    ((h.0.state, f.0, h.2), λ l. true≢false (sym (some_to h.0.marks b.roots l.0 l.1 (h.3.each l.0 l.2)) ∙ f.1))

-- no pair fails exactly where each tree of a is one of b
pub answer_exact : (a b : Automaton) → IsRanked a → IsRanked b → (orders : Orders) (found : List Found) (o : Option ℕ)
    (t : Bool) → IsExplored a b orders found
    → MatchOption o (Every (λ f. IsFailing a.roots b.roots f → ⊥) found)
    (λ place. (f : Found) × (slice_get found place ≡ Some f) × IsFailing a.roots b.roots f) → is_some o ≡ not t
    → IsTrue t ↔ IsWithin a b
answer_exact a b pa pb orders found None true e h s = (λ _. within a b pa pb orders found e h, λ _. refl)
answer_exact a b pa pb orders found None false e h s = absurd (true≢false (sym s))
answer_exact a b pa pb orders found (Some place) true e h s = absurd (true≢false s)
answer_exact a b pa pb orders found (Some place) false e h s = (
  λ same. absurd (true≢false (sym same)),
  λ i.
      let t = tree_found a.rules b found place e.derived (slice_get_within found place h.0 h.1) in
      let n = answer_no a b found place t.0 t.1 h in
      absurd (n.1 (i t.0 n.0)),
)

-- each kept pair has a mark for each state of b
pub kept_long : (a b : Automaton) (orders : Orders) (found kept : List Found) → IsExplored a b orders found
    → Every (λ f. IsIn f found) kept → Every (λ f. length f.marks ≡ b.states) kept
kept_long a b orders found kept e h =
    every_weaker _ _ kept (λ f i. (every_in (IsProper a b orders) found f e.proper i).long) h

-- each found pair covers itself
pub same_each : (a b : Automaton) (orders : Orders) (found : List Found) → IsExplored a b orders found
    → Every (λ f. IsCover orders.left f f) found
same_each a b orders found e =
    every_weaker (IsProper a b orders) (λ (f : Found). IsCover orders.left f f) found
    (λ f p. cover_same b orders a e.upward f p) e.proper

-- what an answer says, part by part
pub says_within : (a b : Automaton) (x : Inclusion) → Answers a b x → IfYes (λ _. IsWithin a b) x
says_within a b (Yes pairs) h = h.0
says_within a b (No tree) h = tt

pub says_antichain : (a b : Automaton) (x : Inclusion) → Answers a b x → IfYes IsAntichain x
says_antichain a b (Yes pairs) h = h.1
says_antichain a b (No tree) h = tt

pub says_closed : (a b : Automaton) (x : Inclusion) → Answers a b x → IfYes (IsClosed a b) x
says_closed a b (Yes pairs) h = h.2
says_closed a b (No tree) h = tt

pub says_roots : (a b : Automaton) (x : Inclusion) → Answers a b x → IfYes (MeetsRoots a b) x
says_roots a b (Yes pairs) h = h.3
says_roots a b (No tree) h = tt

pub says_missing : (a b : Automaton) (x : Inclusion) → Answers a b x → IfNo (IsMissing a b) x
says_missing a b (Yes pairs) h = tt
says_missing a b (No tree) h = h
