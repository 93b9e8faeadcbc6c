-- The greatest simulation, as a table; where no rule matches another, none is needless.
use Rattle.std.proofs.Common.{◌≡◌, inl, inr, ℕ, ◌<◌, List, Some, refl}
use Rattle.std.specs.List.{slice_get}
use Rattle.std.proofs.lemmas.Bool.{cases_order}
use Rattle.fore_base.specs.Lists.{Every, Paired}
use Rattle.fore_base.proofs.ListLemmas.{every_in, in_every, in_from_place, paired_carried, paired_same}
use Rattle.ta_core.specs.declared.auto.Rule.{Rule}
use Rattle.ta_core.specs.Auto.{Automaton, IsRanked, IsRankedRule}
use Rattle.ta_core.specs.Simulations.{IsSimulated, IsDownward}
use Rattle.ta_sim.specs.Relations.{Table, IsSquare, Holds, entry}
use Rattle.ta_sim.proofs.Rounds.{related_low, row_there}
use Rattle.ta_sim.proofs.Simulated.{simulated_same, simulated_through}
use Rattle.ta_reduce.specs.inner.Reduction.{IsGreatest, IsPreorder, HasNoneNeedless}
use Rattle.ta_reduce.specs.inner.Thinned.{Matches, Misses, EachLater}
use Rattle.ta_reduce.proofs.Sublists.{later_at}

-- a downward simulation that has each one in it is the greatest
pub greatest_from : (a : Automaton) (rel : Table) → rel.size ≡ a.states → IsDownward a.rules (Holds rel)
    → ((p q : ℕ) → p < a.states → q < a.states → IsSimulated a.rules p q → Holds rel p q) → IsGreatest a rel
greatest_from a rel s d g = record { size = s; only = λ p q h. (entry rel.rows, d, h); each = g }

module _ (a : Automaton) (rel : Table) (proper : IsRanked a) (greatest : IsGreatest a rel) where
  pub related_each : (ps qs : List ℕ) → Every (λ q. q < a.states) ps → Every (λ q. q < a.states) qs
      → Paired (IsSimulated a.rules) ps qs → Paired (Holds rel) ps qs
  related_each = paired_carried (λ q. q < a.states) (λ q. q < a.states) (IsSimulated a.rules) (Holds rel) greatest.each

  -- the greatest simulation is a preorder
  pub greatest_preorder : IsSquare rel → IsPreorder rel
  greatest_preorder square = (
    λ p l. (let k : p < a.states = rw (← greatest.size) l in greatest.each p p k k (simulated_same a.rules p)),
    λ p q r h k. (let lp : p < a.states = rw (← greatest.size) (rw square.0 at (row_there rel.rows p q h)) in
        let lq : q < a.states = rw (← greatest.size) (related_low rel.size rel.rows p q square h) in
        let lr : r < a.states = rw (← greatest.size) (related_low rel.size rel.rows q r square k) in
        greatest.each p r lp lr
        (simulated_through a.states a.rules proper.1 p q r lq (greatest.only p q h) (greatest.only q r k))),
  )

  -- each rule matches itself
  pub match_same : Every (λ r. Matches rel r r) a.rules
  match_same = in_every (λ r. Matches rel r r) a.rules
      (λ r i. (
        refl,
        refl,
        (let l = (every_in (IsRankedRule a.states) a.rules r proper.1 i).1 in
            related_each r.children r.children l l
            (paired_same (IsSimulated a.rules) (simulated_same a.rules) r.children)),
      ))

  children_low : (r : Rule) (i : ℕ) → slice_get a.rules i ≡ Some r → Every (λ q. q < a.states) r.children
  children_low r i e = (every_in (IsRankedRule a.states) a.rules r proper.1 (in_from_place a.rules i r e)).1

  -- where no rule matches another, none is needless
  pub needless_same : EachLater (λ r s. Misses rel s r) a.rules → EachLater (λ r s. Misses rel r s) a.rules
      → HasNoneNeedless a.rules
  needless_same ahead behind i j s =
      let m : Matches rel s.1 s.0 =
      (s.4, s.5, related_each s.0.children s.1.children (children_low s.0 i s.2) (children_low s.1 j s.3) s.6)
      in
      elim (cases_order i j) [
        | inl e ↦ e
        | inr o ↦ elim o [
          | inl l ↦ absurd (later_at (λ r s. Misses rel r s) a.rules i j s.0 s.1 behind l s.2 s.3 m)
          | inr l ↦ absurd (later_at (λ r s. Misses rel s r) a.rules j i s.1 s.0 ahead l s.3 s.2 m)
        ]
      ]
