-- A trimmed automaton is led where the whole one is, and reduced where the whole one is tight.
use Rattle.std.proofs.Common.{◌≡◌, ℕ, zero, suc, ◌<◌, Bool, true, ◌&&◌, nat_eq, nat_lt, List, [], ◌∷◌, map, slice_get}
use Rattle.std.proofs.Common.{Some, refl, sym, ap, subst, ◌∙◌, eq-eqb}
use Rattle.std.proofs.lemmas.Bool.{ltb-true, lt-ltb, eqb-true, and_parts, and_from}
use Rattle.std.proofs.lemmas.Option.{none-some, same_Some}
use Rattle.fore_base.specs.Lists.{IsIn, Every, Paired}
use Rattle.fore_base.proofs.ListLemmas.{every_in, in_every, in_from_place, in_map, in_mapped}
use Rattle.ta_core.specs.declared.auto.Rule.{Rule}
use Rattle.ta_core.specs.declared.tree.Tree.{Tree, out-Tree}
use Rattle.ta_core.specs.Auto.{Automaton, IsRanked, IsRankedRule}
use Rattle.ta_core.specs.Language.{RunOf, RunEach, run, run_none, run_more}
use Rattle.ta_core.specs.Language.{IsTrim, HasTree}
use Rattle.ta_core.specs.Renumbered.{renumbered, StandsFor}
use Rattle.ta_core.specs.Simulations.{IsSimulated, IsDownward, AutoReduced}
use Rattle.ta_core.specs.States.{KeepsStates}
use Rattle.ta_core.proofs.Runs.{along_each, passed_tree}
use Rattle.ta_core.proofs.Shifting.{in_sub}
use Rattle.ta_sim.proofs.Simulated.{simulated_runs, some_below, below_from, below_to}
use Rattle.ta_reduce.specs.inner.Leading.{KeepsLead}
use Rattle.ta_reduce.specs.inner.Reduction.{IsTight}
use Rattle.ta_reduce.proofs.Sublists.{sub_places}

module _ (rules : List Rule) where
  -- the rule by which the tree has its run
  first_rule : {q : ℕ} {t : Tree} → RunOf rules q t → (r : Rule) × IsIn r rules × (r.state ≡ q)
      × RunEach rules r.children (out-Tree t).children
  first_rule (run r i e s k) = (r, i, e, k)

  -- trees go up along simulations, place by place
  simulated_each : {ps : List ℕ} {ts : List Tree} (qs : List ℕ) → Paired (IsSimulated rules) ps qs → RunEach rules ps ts
      → RunEach rules qs ts
  simulated_each [] h run_none = run_none
  simulated_each (q ∷ qs) h run_none = absurd h
  simulated_each [] h (run_more r rs) = absurd h
  simulated_each (q ∷ qs) h (run_more {q = p} {t = t} r rs) =
      run_more (simulated_runs rules p q t h.0 r) (simulated_each qs h.1 rs)

module _ (a b : Automaton) (s : StandsFor a b) (trim : IsTrim b) (proper : IsRanked b) where
  low : (r : Rule) → IsIn r b.rules → IsRankedRule b.states r
  low r i = every_in (IsRankedRule b.states) b.rules r proper.1 i

  -- lists of states have trees, which have runs to the states that they stand for
  trees_each : (qs : List ℕ) → Every (λ q. q < b.states) qs → (ts : List Tree) × RunEach b.rules qs ts
  trees_each [] l = ([], run_none)
  trees_each (q ∷ qs) l =
      let t = passed_tree (trim q l.0).3 in
      let ts = trees_each qs l.1 in
      (t.0 ∷ ts.0, run_more t.1 ts.1)

  runs_each : {qs : List ℕ} {ts : List Tree} → Every (λ q. q < b.states) qs → RunEach b.rules qs ts
      → RunEach a.rules (map s.of qs) ts
  runs_each l run_none = run_none
  runs_each l (run_more {q = q} {t = t} r rs) = run_more ((s.runs q t l.0).0 r) (runs_each l.1 rs)

  old_rule : (r : Rule) → IsIn r b.rules → IsIn (renumbered s.of r) a.rules
  old_rule r i = in_sub (renumbered s.of r) s.rules (in_map (renumbered s.of) r b.rules i)

  -- what the relation says of the states that are stood for
  abbrev carried : (ℕ → ℕ → Bool) → ℕ → ℕ → Bool
  carried R x y = nat_lt y b.states && R (s.of x) (s.of y)

  carry : (R : ℕ → ℕ → Bool) (p q : ℕ) → q < b.states → R (s.of p) (s.of q) ≡ true → carried R p q ≡ true
  carry R p q l h = and_from (nat_lt q b.states) (R (s.of p) (s.of q)) (lt-ltb q b.states l) h

  carry_each : (R : ℕ → ℕ → Bool) (ps qs : List ℕ) → Every (λ q. q < b.states) qs
      → Paired (λ x y. R x y ≡ true) (map s.of ps) (map s.of qs) → Paired (λ x y. carried R x y ≡ true) ps qs
  carry_each R [] [] l h = tt
  carry_each R [] (q ∷ qs) l h = absurd h
  carry_each R (p ∷ ps) [] l h = absurd h
  carry_each R (p ∷ ps) (q ∷ qs) l h = (carry R p q l.0 h.0, carry_each R ps qs l.1 h.1)

  -- a rule of a that some tree can use, of a state that q stands for, stands for a rule of q
  new_rule : (q : ℕ) (o : Rule) (ts : List Tree) → q < b.states → IsIn o a.rules → o.state ≡ s.of q
      → RunEach a.rules o.children ts → (r : Rule) × IsIn r b.rules × (r.state ≡ q) × (o ≡ renumbered s.of r)
  new_rule q o ts l i e k =
      let w = in_mapped (renumbered s.of) o b.rules (s.used q o ts l i e k) in
      (w.0, w.1, s.apart w.0.state q (low w.0 w.1).0 l (sym (ap (λ (x : Rule). x.state) w.2) ∙ e), w.2)

  carried_downward : (R : ℕ → ℕ → Bool) → IsDownward a.rules (λ x y. R x y ≡ true)
      → IsDownward b.rules (λ x y. carried R x y ≡ true)
  carried_downward R d r q i h =
      let l = ltb-true q b.states (and_parts (nat_lt q b.states) (R (s.of r.state) (s.of q)) h).0 in
      let m = d (renumbered s.of r) (s.of q) (old_rule r i)
      (and_parts (nat_lt q b.states) (R (s.of r.state) (s.of q)) h).1 in
      let t = trees_each r.children (low r i).1 in
      let k = along_each a.rules a.rules (λ x y. R x y ≡ true) (λ o p ts j e n. d o p j e) m.0.children m.4
      (runs_each (low r i).1 t.1) in
      let w = new_rule q m.0 t.0 l m.1 m.2 k in (
        w.0,
        w.1,
        w.2,
        sym (ap (λ (x : Rule). x.symbol) w.3) ∙ m.3,
        carry_each R r.children w.0.children (low w.0 w.1).1
            (subst (λ (x : Rule). Paired (λ x y. R x y ≡ true) (map s.of r.children) x.children) w.3 m.4),
      )

  -- what is simulated, is so after trimming
  trimmed_simulated : (p q : ℕ) → q < b.states → IsSimulated a.rules (s.of p) (s.of q) → IsSimulated b.rules p q
  trimmed_simulated p q l h = (carried h.0, carried_downward h.0 h.1, carry h.0 p q l h.2)

  trimmed_each : (ps qs : List ℕ) → Every (λ q. q < b.states) qs
      → Paired (IsSimulated a.rules) (map s.of ps) (map s.of qs) → Paired (IsSimulated b.rules) ps qs
  trimmed_each [] [] l h = tt
  trimmed_each [] (q ∷ qs) l h = absurd h
  trimmed_each (p ∷ ps) [] l h = absurd h
  trimmed_each (p ∷ ps) (q ∷ qs) l h = (trimmed_simulated p q l.0 h.0, trimmed_each ps qs l.1 h.1)

  -- each state has the trees of the one that it stands for
  pub trimmed_states : IsRanked a → KeepsStates a b
  trimmed_states ranked p l =
      let t = passed_tree (trim p l).3 in
      let r = first_rule a.rules ((s.runs p t.0 l).0 t.1) in (
        s.of p,
        subst (λ (x : ℕ). x < a.states) r.2 (every_in (IsRankedRule a.states) a.rules r.0 ranked.1 r.1).0,
        λ u. s.runs p u l,
      )

  pub trimmed_led : KeepsLead a b
  trimmed_led l =
      let w = s.whole l.root l.listed l.tree in
      let p = w.0 in
      let in_range : (q : ℕ) → IsIn q b.roots → q < b.states =
      λ q i. every_in (λ (x : ℕ). x < b.states) b.roots q proper.0 i in
      let lp : p < b.states = in_range p w.1 in
      let one : (q : ℕ) → IsIn q b.roots → q ≡ p =
      λ q i. s.apart q p (in_range q i) lp
      (every_in (λ (x : ℕ). x ≡ l.root) a.roots (s.of q) l.alone
      (in_sub (s.of q) s.roots (in_map s.of q b.roots i)) ∙ sym w.2) in
      let f = first_rule a.rules l.tree.1 in
      let k = simulated_each a.rules l.rule.children (l.leads f.0 f.1 f.2).1 f.3 in
      let v = new_rule p l.rule (out-Tree l.tree.0).children lp l.there (l.top ∙ sym w.2) k in
      record {
        root = p;
        listed = w.1;
        alone = in_every (λ q. q ≡ p) b.roots one;
        tree = (l.tree.0, (s.runs p l.tree.0 lp).1 (subst (λ (x : ℕ). RunOf a.rules x l.tree.0) (sym w.2) l.tree.1));
        rule = v.0;
        there = v.1;
        top = v.2;
        leads = λ r i e. (let h = l.leads (renumbered s.of r) (old_rule r i) (ap s.of e ∙ w.2) in (
          sym (ap (λ (x : Rule). x.symbol) v.3) ∙ h.0,
          trimmed_each r.children v.0.children (low v.0 v.1).1
              (subst (λ (x : Rule). Paired (IsSimulated a.rules) (map s.of r.children) x.children) v.3 h.1),
        ));
      }

  -- from a relation on the states, one on those that they stand for
  abbrev raised : (ℕ → ℕ → Bool) → ℕ → ℕ → Bool
  raised R x y = some_below b.states
      (λ p. nat_eq (s.of p) x && some_below b.states (λ q. nat_eq (s.of q) y && R p q))

  raise : (R : ℕ → ℕ → Bool) (p q : ℕ) → p < b.states → q < b.states → R p q ≡ true
      → raised R (s.of p) (s.of q) ≡ true
  raise R p q l k h =
      let inner : ℕ → Bool = λ i. nat_eq (s.of i) (s.of q) && R p i in
      below_to b.states (λ i. nat_eq (s.of i) (s.of p)
      && some_below b.states (λ j. nat_eq (s.of j) (s.of q) && R i j)) p l
      (and_from (nat_eq (s.of p) (s.of p)) (some_below b.states inner) (eq-eqb (s.of p) (s.of p) refl)
      (below_to b.states inner q k
      (and_from (nat_eq (s.of q) (s.of q)) (R p q) (eq-eqb (s.of q) (s.of q) refl) h)))

  lower : (R : ℕ → ℕ → Bool) (x y : ℕ) → raised R x y ≡ true → (p q : ℕ) × (p < b.states) × (q < b.states)
      × (s.of p ≡ x) × (s.of q ≡ y) × (R p q ≡ true)
  lower R x y h =
      let outer : ℕ → Bool =
      λ p. nat_eq (s.of p) x && some_below b.states (λ q. nat_eq (s.of q) y && R p q) in
      let v = below_from b.states outer h in
      let k = and_parts (nat_eq (s.of v.0) x) (some_below b.states (λ q. nat_eq (s.of q) y && R v.0 q)) v.2 in
      let w = below_from b.states (λ q. nat_eq (s.of q) y && R v.0 q) k.1 in
      let o = and_parts (nat_eq (s.of w.0) y) (R v.0 w.0) w.2 in
      (v.0, w.0, v.1, w.1, eqb-true (s.of v.0) x k.0, eqb-true (s.of w.0) y o.0, o.1)

  raise_each : (R : ℕ → ℕ → Bool) (ps qs : List ℕ) → Every (λ q. q < b.states) ps → Every (λ q. q < b.states) qs
      → Paired (λ x y. R x y ≡ true) ps qs → Paired (λ x y. raised R x y ≡ true) (map s.of ps) (map s.of qs)
  raise_each R [] [] l k h = tt
  raise_each R [] (q ∷ qs) l k h = absurd h
  raise_each R (p ∷ ps) [] l k h = absurd h
  raise_each R (p ∷ ps) (q ∷ qs) l k h = (raise R p q l.0 k.0 h.0, raise_each R ps qs l.1 k.1 h.1)

  module _ (ranked : IsRanked a) (tall : (q : ℕ) → q < a.states → HasTree a.rules q) where
    tall_each : (qs : List ℕ) → Every (λ q. q < a.states) qs → (ts : List Tree) × RunEach a.rules qs ts
    tall_each [] l = ([], run_none)
    tall_each (q ∷ qs) l = let t = tall q l.0 in let ts = tall_each qs l.1 in (t.0 ∷ ts.0, run_more t.1 ts.1)

    raised_downward : (R : ℕ → ℕ → Bool) → IsDownward b.rules (λ x y. R x y ≡ true)
        → IsDownward a.rules (λ x y. raised R x y ≡ true)
    raised_downward R d o y i h =
        let w = lower R o.state y h in
        let t = tall_each o.children (every_in (IsRankedRule a.states) a.rules o ranked.1 i).1 in
        let r = new_rule w.0 o t.0 w.2 i (sym w.4) t.1 in
        let m = d r.0 w.1 r.1 (subst (λ (x : ℕ). R x w.1 ≡ true) (sym r.2) w.6) in (
          renumbered s.of m.0,
          old_rule m.0 m.1,
          ap s.of m.2 ∙ w.5,
          m.3 ∙ sym (ap (λ (x : Rule). x.symbol) r.3),
          subst (λ (x : Rule). Paired (λ x y. raised R x y ≡ true) x.children (map s.of m.0.children)) (sym r.3)
              (raise_each R r.0.children m.0.children (low r.0 r.1).1 (low m.0 m.1).1 m.4),
        )

    -- what is simulated after trimming, was so before
    untrimmed_simulated : (p q : ℕ) → p < b.states → q < b.states → IsSimulated b.rules p q
        → IsSimulated a.rules (s.of p) (s.of q)
    untrimmed_simulated p q l k h = (raised h.0, raised_downward h.0 h.1, raise h.0 p q l k h.2)

    untrimmed_each : (ps qs : List ℕ) → Every (λ q. q < b.states) ps → Every (λ q. q < b.states) qs
        → Paired (IsSimulated b.rules) ps qs → Paired (IsSimulated a.rules) (map s.of ps) (map s.of qs)
    untrimmed_each [] [] l k h = tt
    untrimmed_each [] (q ∷ qs) l k h = absurd h
    untrimmed_each (p ∷ ps) [] l k h = absurd h
    untrimmed_each (p ∷ ps) (q ∷ qs) l k h =
        (untrimmed_simulated p q l.0 k.0 h.0, untrimmed_each ps qs l.1 k.1 h.1)

    of_low : (p : ℕ) → p < b.states → s.of p < a.states
    of_low p l =
        let t = passed_tree (trim p l).3 in
        let r = first_rule a.rules ((s.runs p t.0 l).0 t.1) in
        subst (λ (x : ℕ). x < a.states) r.2 (every_in (IsRankedRule a.states) a.rules r.0 ranked.1 r.1).0

    -- a tight automaton is reduced by trimming
    pub trimmed_reduced : IsTight a → AutoReduced b
    trimmed_reduced tight = record {
      trim = trim;
      apart = λ p q l k h g. s.apart p q l k (tight.apart (s.of p) (s.of q) (of_low p l) (of_low q k)
          (untrimmed_simulated p q l k h) (untrimmed_simulated q p k l g));
      needed = λ i j h. (let g = sub_places s.rules in
          let r = h.0 in
          let o = h.1 in
          let at = place_mapped b.rules i r h.2 in
          let to = place_mapped b.rules j o h.3 in
          let lr = low r (in_from_place b.rules i r h.2) in
          let lo = low o (in_from_place b.rules j o h.3) in
          g.2 i j (tight.needed (g.0 i) (g.0 j) (
            renumbered s.of r,
            renumbered s.of o,
            g.1 i (renumbered s.of r) at,
            g.1 j (renumbered s.of o) to,
            ap s.of h.4,
            h.5,
            untrimmed_each r.children o.children lr.1 lo.1 h.6,
          )));
    }
      where
        place_mapped : (rs : List Rule) (i : ℕ) (r : Rule) → slice_get rs i ≡ Some r
            → slice_get (map (renumbered s.of) rs) i ≡ Some (renumbered s.of r)
        place_mapped [] i r e = absurd (none-some r e)
        place_mapped (x ∷ rs) zero r e = ap (λ (y : Rule). Some (renumbered s.of y)) (same_Some x r e)
        place_mapped (x ∷ rs) (suc i) r e = place_mapped rs i r e
