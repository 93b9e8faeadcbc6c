-- Without needless rules the language is the same.
use Rattle.std.proofs.Common.{◌≡◌, ℕ, ◌<◌, Bool, true, List, sym, subst, ◌∙◌}
use Rattle.fore_base.specs.Lists.{IsIn, Every}
use Rattle.fore_base.proofs.ListLemmas.{every_in, in_every, paired_weaker, paired_carried}
use Rattle.ta_core.specs.declared.auto.Rule.{Rule}
use Rattle.ta_core.specs.Auto.{Automaton, IsRanked, IsRankedRule, automaton}
use Rattle.ta_core.specs.Language.{HasSameLanguage}
use Rattle.ta_core.specs.Simulations.{IsSimulated, IsMatched, IsDownward}
use Rattle.ta_core.specs.States.{KeepsStates}
use Rattle.ta_core.proofs.Runs.{along, widened}
use Rattle.ta_sim.specs.Relations.{Table, Holds, entry}
use Rattle.ta_sim.proofs.Simulated.{each_through, go_through, paired_through, simulated_downward, simulated_same}
use Rattle.ta_sim.proofs.Simulated.{through, through_from}
use Rattle.ta_reduce.specs.inner.Leading.{KeepsLead}
use Rattle.ta_reduce.specs.inner.Reduction.{IsGreatest, IsTight, Preserves}
use Rattle.ta_reduce.specs.inner.Thinned.{HasMatch, AreNeeded}
use Rattle.ta_reduce.proofs.Leads.{tree_kept}
use Rattle.ta_reduce.proofs.Sublists.{sub_in}
use Rattle.ta_reduce.proofs.Tight.{needless_same, related_each}

module _ (a : Automaton) (rel : Table) (kept : List Rule) (proper : IsRanked a) (greatest : IsGreatest a rel)
    (n : AreNeeded rel a.rules kept) where
  was_in : (r : Rule) → IsIn r kept → IsIn r a.rules
  was_in r i = sub_in r n.part i

  low : (r : Rule) → IsIn r a.rules → Every (λ q. q < a.states) r.children
  low r i = (every_in (IsRankedRule a.states) a.rules r proper.1 i).1

  -- each rule is matched by one that is kept
  match_left : (r : Rule) (q : ℕ) → IsIn r a.rules → IsSimulated a.rules r.state q
      → IsMatched kept (IsSimulated a.rules) r q
  match_left r q in_r h =
      let m = simulated_downward a.rules r q in_r h in
      let o = every_in (HasMatch rel kept) a.rules m.0 n.whole m.1 in
      let up = paired_weaker (Holds rel) (IsSimulated a.rules) m.0.children o.0.children greatest.only o.2.2 in (
        o.0,
        o.1,
        sym o.2.0 ∙ m.2,
        sym o.2.1 ∙ m.3,
        paired_through a.states a.rules proper.1 r.children m.0.children o.0.children (low m.0 m.1) m.4 up,
      )

  left_runs : KeepsStates a (automaton a.states a.roots kept)
  left_runs p l = (
    p,
    l,
    λ t. (
      λ k. widened kept a.rules was_in k,
      λ k. along a.rules kept (IsSimulated a.rules) (λ r q ts j h e. match_left r q j h) p (simulated_same a.rules p) k,
    ),
  )

  pub left_same_language : HasSameLanguage a (automaton a.states a.roots kept)
  left_same_language t = (
    λ l. (
      l.0,
      l.1,
      along a.rules kept (IsSimulated a.rules) (λ r q ts j h k. match_left r q j h) l.0
          (simulated_same a.rules l.0) l.2,
    ),
    λ l. (l.0, l.1, widened kept a.rules was_in l.2),
  )

  -- what is simulated, is so without the other rules
  left_downward : IsDownward kept (Holds rel)
  left_downward r q in_r h =
      let m = match_left r q (was_in r in_r) (greatest.only r.state q h) in (
        m.0,
        m.1,
        m.2,
        m.3,
        related_each a rel proper greatest r.children m.0.children (low r (was_in r in_r))
            (low m.0 (was_in m.0 m.1)) m.4,
      )

  left_simulated : (p q : ℕ) → p < a.states → q < a.states → IsSimulated a.rules p q → IsSimulated kept p q
  left_simulated p q l k h = (entry rel.rows, left_downward, greatest.each p q l k h)

  left_led : KeepsLead a (automaton a.states a.roots kept)
  left_led l =
      let b = automaton a.states a.roots kept in
      let m = match_left l.rule l.rule.state l.there (simulated_same a.rules l.rule.state) in
      record {
        root = l.root;
        listed = l.listed;
        alone = l.alone;
        tree = tree_kept a b l.root l.root left_same_language l.listed l.alone l.tree;
        rule = m.0;
        there = m.1;
        top = m.2 ∙ l.top;
        leads = λ r j e. (let w = was_in r j in let k = l.leads r w e in (
          m.3 ∙ k.0,
          paired_carried (λ q. q < a.states) (λ q. q < a.states) (IsSimulated a.rules) (IsSimulated kept) left_simulated
              r.children m.0.children (low r w) (low m.0 (was_in m.0 m.1))
              (paired_through a.states a.rules proper.1 r.children l.rule.children m.0.children (low l.rule l.there) k.1
              m.4),
        ));
      }

  pub left_preserves : Preserves a (automaton a.states a.roots kept)
  left_preserves = record { language = left_same_language; states = left_runs; lead = left_led }

  -- from a relation with the kept rules, one with all: it comes from what is related before
  abbrev led_in : (ℕ → ℕ → Bool) → ℕ → ℕ → Bool
  led_in R = through a.states (entry rel.rows) R

  led_in_downward : (R : ℕ → ℕ → Bool) → IsDownward kept (λ x y. R x y ≡ true)
      → IsDownward a.rules (λ x y. led_in R x y ≡ true)
  led_in_downward R d r q i h =
      let w = through_from a.states (entry rel.rows) R r.state q h in
      let o = match_left r w.0 i (greatest.only r.state w.0 w.2) in
      let k = d o.0 q o.1 (subst (λ (x : ℕ). R x q ≡ true) (sym o.2) w.3) in (
        k.0,
        was_in k.0 k.1,
        k.2,
        k.3 ∙ o.3,
        each_through a.states (entry rel.rows) R r.children o.0.children k.0.children (low o.0 (was_in o.0 o.1))
            (related_each a rel proper greatest r.children o.0.children (low r i) (low o.0 (was_in o.0 o.1)) o.4) k.4,
      )

  -- the greatest simulation is the same without the other rules
  pub left_greatest : IsGreatest (automaton a.states a.roots kept) rel
  left_greatest = record {
    size = greatest.size;
    only = λ p q h. (entry rel.rows, left_downward, h);
    each = λ p q l k h. greatest.each p q l k (
      led_in h.0,
      led_in_downward h.0 h.1,
      go_through a.states (entry rel.rows) h.0 p p q l (greatest.each p p l l (simulated_same a.rules p)) h.2,
    );
  }

  pub left_ranked : IsRanked (automaton a.states a.roots kept)
  left_ranked = (
    proper.0,
    in_every (IsRankedRule a.states) kept
        (λ r i. every_in (IsRankedRule a.states) a.rules r proper.1 (was_in r i)),
  )

  -- where no two states are related both ways, what is left is tight
  pub left_tight : ((p q : ℕ) → Holds rel p q → Holds rel q p → p ≡ q) → IsTight (automaton a.states a.roots kept)
  left_tight apart = record {
    apart = λ p q l k h g. apart p q (left_greatest.each p q l k h) (left_greatest.each q p k l g);
    needed = needless_same (automaton a.states a.roots kept) rel left_ranked left_greatest n.ahead n.behind;
  }
