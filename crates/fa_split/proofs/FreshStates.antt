-- An automaton with more rules, at states behind its own: nothing changes of the runs to its own states.
use Rattle.std.proofs.Common.{◌≡◌, inl, inr, ℕ, ◌<◌, ◌≤◌, List, [], ◌∷◌, ◌++◌, refl, sym, subst, arith}
use Rattle.fore_base.specs.Lists.{IsIn, Every, Paired}
use Rattle.fore_base.proofs.ListLemmas.{in_left, in_append, every_in}
use Rattle.ta_core.specs.Auto.{Automaton, IsRanked, IsRankedRule}
use Rattle.ta_core.specs.Language.{RunOf, run, RunEach}
use Rattle.ta_core.specs.declared.auto.Rule.{Rule}
use Rattle.ta_core.specs.declared.tree.Tree.{Tree, out-Tree}
use Rattle.ta_core.proofs.Runs.{along, along_each, widened, widened_each}

pub states_more : (m n : ℕ) → m ≤ n → (qs : List ℕ) → Every (λ q. q < m) qs → Every (λ q. q < n) qs
states_more m n l [] h = tt
states_more m n l (q ∷ qs) h = (let a = h.0 in omega (arith, a, l), states_more m n l qs h.1)

pub rules_more : (m n : ℕ) → m ≤ n → (rs : List Rule) → Every (IsRankedRule m) rs → Every (IsRankedRule n) rs
rules_more m n l [] h = tt
rules_more m n l (r ∷ rs) h =
    ((let a = h.0.0 in omega (arith, a, l), states_more m n l r.children h.0.1, h.0.2), rules_more m n l rs h.1)

module _ (a : Automaton) (extra : List Rule) (ranked : IsRanked a)
    (above : (o : Rule) → IsIn o extra → a.states ≤ o.state) where
  abbrev pub wide : List Rule
  wide = a.rules ++ extra

  abbrev Old : ℕ → ℕ → Type 0
  Old p q = (p ≡ q) × (p < a.states)

  paired_old : (qs : List ℕ) → Every (λ q. q < a.states) qs → Paired Old qs qs
  paired_old [] h = tt
  paired_old (q ∷ qs) h = ((refl, h.0), paired_old qs h.1)

  pub low : (o : Rule) → IsIn o a.rules → IsRankedRule a.states o
  low o i = every_in (IsRankedRule a.states) a.rules o ranked.1 i

  stays : (o : Rule) (q : ℕ) (ts : List Tree) → IsIn o wide → Old o.state q → RunEach wide o.children ts → (z : Rule)
      × IsIn z a.rules × (z.state ≡ q) × (z.symbol ≡ o.symbol) × Paired Old o.children z.children
  stays o q ts i h k = elim (in_append o a.rules extra i) [
    | inl j ↦ (o, j, h.0, refl, paired_old o.children (low o j).1)
    | inr j ↦ (let l = above o j in let m = h.1 in absurd (omega (arith, l, m)))
  ]

  pub stay : (q : ℕ) (t : Tree) → q < a.states → RunOf wide q t → RunOf a.rules q t
  stay q t l w = along wide a.rules Old stays q (refl, l) w

  pub stay_each : (qs : List ℕ) (ts : List Tree) → Every (λ q. q < a.states) qs → RunEach wide qs ts
      → RunEach a.rules qs ts
  stay_each qs ts l w = along_each wide a.rules Old stays qs (paired_old qs l) w

  pub widen : (q : ℕ) (t : Tree) → RunOf a.rules q t → RunOf wide q t
  widen q t w = widened a.rules wide (λ o i. in_left o a.rules extra i) w

  pub widen_each : (qs : List ℕ) (ts : List Tree) → RunEach a.rules qs ts → RunEach wide qs ts
  widen_each qs ts w = widened_each a.rules wide (λ o i. in_left o a.rules extra i) w

  -- a rule at a state behind those of a is one more
  pub fresh_rules : (o : Rule) → IsIn o wide → a.states ≤ o.state → IsIn o extra
  fresh_rules o i l = elim (in_append o a.rules extra i) [
    | inl j ↦ (let m = (low o j).0 in absurd (omega (arith, l, m)))
    | inr j ↦ j
  ]

  -- a run to such a state ends with one of them
  pub fresh_run : (q : ℕ) (t : Tree) → a.states ≤ q → RunOf wide q t → (o : Rule) × IsIn o extra × (o.state ≡ q)
      × (o.symbol ≡ (out-Tree t).symbol) × RunEach wide o.children (out-Tree t).children
  fresh_run q t l (run o i s y k) = (o, fresh_rules o i (subst (λ (z : ℕ). a.states ≤ z) (sym s) l), s, y, k)
