-- A pair that another one covers hides no tree: what the rules give over the others is enough, and pairs that cover
-- what the rules give over them stand for all trees.
use Rattle.std.proofs.Common.{◌≡◌, ℕ, ◌<◌, Bool, true, false, true≢false, List, [], ◌∷◌, get_or, refl, sym, subst, ◌∙◌}
use Rattle.std.proofs.lemmas.Bool.{and_from, and_parts}
use Rattle.fore_base.specs.Lists.{IsIn, Every, Paired}
use Rattle.fore_base.specs.Marks.{IsMarked, marked_each}
use Rattle.fore_base.proofs.ListLemmas.{every_in}
use Rattle.ta_core.specs.Auto.{Automaton, IsRanked, IsRankedRule}
use Rattle.ta_core.specs.Language.{IsWithin, RunOf, run, RunEach, run_none, run_more}
use Rattle.ta_core.specs.Tops.{Tops}
use Rattle.ta_core.specs.declared.auto.Rule.{Rule}
use Rattle.ta_core.specs.declared.symbol.Symbol.{Symbol}
use Rattle.ta_core.specs.declared.tree.Tree.{Tree, out-Tree}
use Rattle.ta_incl.specs.declared.found.Found.{Found}
use Rattle.ta_incl.specs.declared.order.Orders.{Orders}
use Rattle.ta_incl.specs.inner.Founds.{HaveStates, sets_of, AreAbove, IsCovered, CoversRule, CoversRules, StandsFor}
use Rattle.ta_incl.specs.inner.Orders.{AreOrdered, AreUpward}
use Rattle.ta_incl.proofs.Upward.{lift}

-- what the rules give over items that are above covers what they give over the items
pub record Lifts (a b : Automaton) (orders : Orders) (r : Rule) (items others : List Found) : Type 0 where
  pub rule : Rule
  pub in_rules : IsIn rule a.rules
  pub children : HaveStates rule.children others
  pub state : AreOrdered orders.left r.state rule.state
  pub set : (m : ℕ) → Tops b.rules rule.symbol (sets_of others) m → (k : ℕ) × Tops b.rules r.symbol (sets_of items) k
      × AreOrdered orders.right m k

module _ (a b : Automaton) (pa : IsRanked a) (pb : IsRanked b) (orders : Orders) (up : AreUpward a b orders) where
  -- states that are marked in the others' sets are below ones that are marked in the items' sets
  under_each : (ps : List ℕ) (items others : List Found) → AreAbove orders others items
      → marked_each ps (sets_of others) ≡ true → (ks : List ℕ) × Paired (AreOrdered orders.right) ps ks
      × (marked_each ks (sets_of items) ≡ true)
  under_each [] [] [] h m = ([], tt, refl)
  under_each [] (g ∷ items) [] h m = absurd h
  under_each [] items (f ∷ others) h m = absurd (true≢false (sym m))
  under_each (p ∷ ps) items [] h m = absurd (true≢false (sym m))
  under_each (p ∷ ps) [] (f ∷ others) h m = absurd h
  under_each (p ∷ ps) (g ∷ items) (f ∷ others) h m =
      let parts = and_parts (get_or f.marks p false) (marked_each ps (sets_of others)) m in
      let k = h.0.set p parts.0 in
      let w = under_each ps items others h.1 parts.1 in
      (k.0 ∷ w.0, (k.2, w.1), and_from (get_or g.marks k.0 false) (marked_each w.0 (sets_of items)) k.1 w.2)

  tops_under : (y : Symbol) (items others : List Found) (m : ℕ) → AreAbove orders others items
      → Tops b.rules y (sets_of others) m → (k : ℕ) × Tops b.rules y (sets_of items) k × AreOrdered orders.right m k
  tops_under y items others m h t =
      let w = under_each t.0.children items others h t.3.1 in
      let s = lift b pb (AreOrdered orders.right) up.right t.0 w.0 t.1 w.1 in (
        s.rule.state,
        (
          s.rule,
          s.in_rules,
          refl,
          (
            s.symbol ∙ t.3.0,
            subst (λ (ks : List ℕ). marked_each ks (sets_of items) ≡ true) (sym s.children) w.2,
          ),
        ),
        subst (λ (n : ℕ). AreOrdered orders.right n s.rule.state) t.2 s.state,
      )

  -- the states of the others
  states_above : (qs : List ℕ) (items others : List Found) → HaveStates qs items → AreAbove orders others items
      → (ps : List ℕ) × HaveStates ps others × Paired (AreOrdered orders.left) qs ps
  states_above [] [] [] h k = ([], tt, tt)
  states_above [] [] (g ∷ others) h k = absurd k
  states_above [] (f ∷ items) others h k = absurd h
  states_above (q ∷ qs) [] others h k = absurd h
  states_above (q ∷ qs) (f ∷ items) [] h k = absurd k
  states_above (q ∷ qs) (f ∷ items) (g ∷ others) h k =
      let w = states_above qs items others h.1 k.1 in
      (g.state ∷ w.0, (refl, w.1), (subst (λ (n : ℕ). AreOrdered orders.left n g.state) h.0 k.0.state, w.2))

  pub lifts : (r : Rule) (items others : List Found) → IsIn r a.rules → HaveStates r.children items
      → AreAbove orders others items → Lifts a b orders r items others
  lifts r items others i h k =
      let w = states_above r.children items others h k in
      let s = lift a pa (AreOrdered orders.left) up.left r w.0 i w.2 in
      record {
        rule = s.rule;
        in_rules = s.in_rules;
        children = subst (λ (ps : List ℕ). HaveStates ps others) (sym s.children) w.1;
        state = s.state;
        set = λ m t.
            tops_under r.symbol items others m k
            (subst (λ (y : Symbol). Tops b.rules y (sets_of others) m) s.symbol t);
      }

  rule_low : (c : Automaton) → IsRanked c → (r : Rule) → IsIn r c.rules → r.state < c.states
  rule_low c proper r i = (every_in (IsRankedRule c.states) c.rules r proper.1 i).0

  tops_low : (y : Symbol) (sets : List (List Bool)) (k : ℕ) → Tops b.rules y sets k → k < b.states
  tops_low y sets k t = subst (λ (n : ℕ). n < b.states) t.2 (rule_low b pb t.0 t.1)

  -- what covers a rule over pairs that are above covers the lifted rule's origin over the items
  pub covered_above : (found : List Found) (r : Rule) (items others : List Found) → Lifts a b orders r items others
      → ((s : Rule) → IsIn s a.rules → HaveStates s.children others → IsCovered b orders found s others)
      → IsCovered b orders found r items
  covered_above found r items others s closed =
      let g = closed s.rule s.in_rules s.children in
      record {
        pair = g.pair;
        in_found = g.in_found;
        state = up.left.through r.state s.rule.state g.pair.state (rule_low a pa s.rule s.in_rules) s.state g.state;
        set = λ m k.
            let u = g.set m k in
            let v = s.set u.0 u.1 in (
              v.0,
              v.1,
              up.right.through m u.0 v.0 (tops_low s.rule.symbol (sets_of others) u.0 u.1) u.2 v.2,
            );
      }

  module _ (found : List Found) (closed : CoversRules b orders found a.rules) where
    -- for states in the sets of pairs there are states above to which the trees have runs
    mutual
      run_stands : {q : ℕ} {t : Tree} → RunOf a.rules q t → StandsFor b orders found q t
      run_stands {q} {t} (run r i e y k) =
          let w = each_stands k in
          let s = lift a pa (AreOrdered orders.left) up.left r w.0 i w.4 in
          let g = every_in (CoversRule b orders found) a.rules s.rule closed s.in_rules w.1 w.2
          (subst (λ (ps : List ℕ). HaveStates ps w.1) (sym s.children) w.3) in
          record {
            pair = g.pair;
            in_found = g.in_found;
            state = subst (λ (n : ℕ). AreOrdered orders.left n g.pair.state) e
                (up.left.through r.state s.rule.state g.pair.state (rule_low a pa s.rule s.in_rules) s.state g.state);
            set = λ m h.
                let u = g.set m h in
                let v = w.5 u.1.0.children u.1.3.1 in
                let o = lift b pb (AreOrdered orders.right) up.right u.1.0 v.0 u.1.1 v.1 in
                let above : AreOrdered orders.right u.0 o.rule.state =
                subst (λ (n : ℕ). AreOrdered orders.right n o.rule.state) u.1.2 o.state in
                let runs : RunEach b.rules o.rule.children (out-Tree t).children =
                subst (λ (ks : List ℕ). RunEach b.rules ks (out-Tree t).children) (sym o.children) v.2 in (
                  o.rule.state,
                  run o.rule o.in_rules refl (o.symbol ∙ u.1.3.0 ∙ s.symbol ∙ y) runs,
                  up.right.through m u.0 o.rule.state (tops_low s.rule.symbol (sets_of w.1) u.0 u.1) u.2 above,
                );
          }

      each_stands : {qs : List ℕ} {ts : List Tree} → RunEach a.rules qs ts → (ps : List ℕ) × (items : List Found)
          × Every (λ f. IsIn f found) items × HaveStates ps items × Paired (AreOrdered orders.left) qs ps
          × ((ms : List ℕ) → marked_each ms (sets_of items) ≡ true → (ks : List ℕ)
          × Paired (AreOrdered orders.right) ms ks × RunEach b.rules ks ts)
      each_stands run_none = ([], [], tt, tt, tt, none)
        where
          none : (ms : List ℕ) → marked_each ms [] ≡ true → (ks : List ℕ) × Paired (AreOrdered orders.right) ms ks
              × RunEach b.rules ks []
          none [] h = ([], tt, run_none)
          none (m ∷ ms) h = absurd (true≢false (sym h))
      each_stands {qs = q ∷ qs} {ts = t ∷ ts} (run_more r rs) =
          let f = run_stands r in
          let w = each_stands rs in (
            f.pair.state ∷ w.0,
            f.pair ∷ w.1,
            (f.in_found, w.2),
            (refl, w.3),
            (f.state, w.4),
            more f.pair w.1 f.set w.5,
          )
        where
          more : (p : Found) (items : List Found)
              → ((m : ℕ) → IsMarked p.marks m → (k : ℕ) × RunOf b.rules k t × AreOrdered orders.right m k)
              → ((ms : List ℕ) → marked_each ms (sets_of items) ≡ true → (ks : List ℕ)
              × Paired (AreOrdered orders.right) ms ks × RunEach b.rules ks ts)
              → (ms : List ℕ) → marked_each ms (sets_of (p ∷ items)) ≡ true → (ks : List ℕ)
              × Paired (AreOrdered orders.right) ms ks × RunEach b.rules ks (t ∷ ts)
          more p items first rest [] h = absurd (true≢false (sym h))
          more p items first rest (m ∷ ms) h =
              let parts = and_parts (get_or p.marks m false) (marked_each ms (sets_of items)) h in
              let o = first m parts.0 in
              let w = rest ms parts.1 in
              (o.0 ∷ w.0, (o.2, w.1), run_more o.1 w.2)

    -- where each pair with a root state of a has one of b in its set, each tree of a is one of b
    pub shows_within : ((f : Found) → IsIn f found → IsIn f.state a.roots → (q : ℕ) × IsIn q b.roots
        × IsMarked f.marks q) → IsWithin a b
    shows_within roots t l =
        let s = run_stands l.2 in
        let m = roots s.pair s.in_found (up.left.upward.0 l.0 s.pair.state l.1 s.state) in
        let k = s.set m.0 m.2 in
        (k.0, up.right.upward.0 m.0 k.0 m.1 k.2, k.1)
