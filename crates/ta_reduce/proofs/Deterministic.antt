-- A trim automaton that is bottom-up deterministic is reduced: each of its states has a tree, and no tree has runs to
-- two of them.
use Rattle.std.proofs.Common.{◌≡◌, inl, inr, ℕ, ◌<◌, List, [], ◌∷◌, Some, refl, sym, ap, subst, ◌∙◌}
use Rattle.std.specs.List.{slice_get}
use Rattle.std.proofs.lemmas.Bool.{cases_order}
use Rattle.fore_base.specs.Lists.{IsIn, Every, Paired}
use Rattle.fore_base.proofs.ListLemmas.{every_in, in_from_place, place_of, same_item}
use Rattle.ta_core.specs.declared.auto.Rule.{Rule}
use Rattle.ta_core.specs.declared.tree.Tree.{Tree}
use Rattle.ta_core.specs.Auto.{Automaton, IsRanked, IsRankedRule}
use Rattle.ta_core.specs.Language.{RunOf, run, RunEach, run_none, run_more, IsTrim}
use Rattle.ta_core.specs.Simulations.{IsSimulated, AutoReduced}
use Rattle.ta_sim.proofs.Simulated.{simulated_runs}
use Rattle.ta_reduce.specs.inner.Determinism.{HasSameLeft, IsApart, IsDeterministic}
use Rattle.ta_reduce.specs.inner.Reduction.{HasNoneNeedless}
use Rattle.ta_reduce.proofs.Sublists.{later_at}
use Rattle.ta_core.proofs.Runs.{passed_tree}

module _ (rules : List Rule) (deterministic : IsDeterministic rules) where
  -- a left side has one place
  same_place : (i j : ℕ) (r s : Rule) → slice_get rules i ≡ Some r → slice_get rules j ≡ Some s → HasSameLeft r s
      → i ≡ j
  same_place i j r s e f h = elim (cases_order i j) [
    | inl k ↦ k
    | inr o ↦ elim o [
      | inl l ↦ absurd (later_at IsApart rules i j r s deterministic l e f h)
      | inr l ↦ absurd (later_at IsApart rules j i s r deterministic l f e (sym h.0, sym h.1))
    ]
  ]

  same_rule : (r s : Rule) → IsIn r rules → IsIn s rules → HasSameLeft r s → r ≡ s
  same_rule r s i j h =
      let v = place_of rules r i in
      let w = place_of rules s j in
      same_item rules w.0 r s (subst (λ (k : ℕ). slice_get rules k ≡ Some r) (same_place v.0 w.0 r s v.1 w.1 h) v.1) w.1

  mutual
    -- no tree has runs to two states
    one_state : {p q : ℕ} {t : Tree} → RunOf rules p t → RunOf rules q t → p ≡ q
    one_state (run r i e y k) (run s j f z h) =
        sym e ∙ ap (λ (x : Rule). x.state) (same_rule r s i j (y ∙ sym z, one_each k h)) ∙ f

    one_each : {ps qs : List ℕ} {ts : List Tree} → RunEach rules ps ts → RunEach rules qs ts → ps ≡ qs
    one_each run_none run_none = refl
    one_each (run_more {q = p} {qs = ps} r rs) (run_more {q = q} {qs = qs} s ss) =
        ap (λ (x : ℕ). x ∷ ps) (one_state r s) ∙ ap (λ (xs : List ℕ). q ∷ xs) (one_each rs ss)

module _ (a : Automaton) (proper : IsRanked a) (trim : IsTrim a) (deterministic : IsDeterministic a.rules) where
  -- a state is simulated by itself alone
  simulated_one : (p q : ℕ) → p < a.states → IsSimulated a.rules p q → p ≡ q
  simulated_one p q l h =
      let t = passed_tree (trim p l).3 in
      one_state a.rules deterministic t.1 (simulated_runs a.rules p q t.0 h t.1)

  simulated_lists : (ps qs : List ℕ) → Every (λ p. p < a.states) ps → Paired (IsSimulated a.rules) ps qs → ps ≡ qs
  simulated_lists [] [] l h = refl
  simulated_lists [] (q ∷ qs) l h = absurd h
  simulated_lists (p ∷ ps) [] l h = absurd h
  simulated_lists (p ∷ ps) (q ∷ qs) l h = ap (λ (x : ℕ). x ∷ ps) (simulated_one p q l.0 h.0)
      ∙ ap (λ (xs : List ℕ). q ∷ xs) (simulated_lists ps qs l.1 h.1)

  -- so a rule that another one matches is that rule
  none_needless : HasNoneNeedless a.rules
  none_needless i j n =
      let low : Every (λ p. p < a.states) n.0.children =
      (every_in (IsRankedRule a.states) a.rules n.0 proper.1 (in_from_place a.rules i n.0 n.2)).1 in
      same_place a.rules deterministic i j n.0 n.1 n.2 n.3 (n.5, simulated_lists n.0.children n.1.children low n.6)

  pub deterministic_reduced : AutoReduced a
  deterministic_reduced = record
      { trim = trim; apart = λ p q l k up down. simulated_one p q l up; needed = none_needless }
