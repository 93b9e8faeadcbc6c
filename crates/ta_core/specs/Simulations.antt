-- Simulations on the states of a tree automaton, and reduced automata.
use Rattle.std.specs.Prelude.{◌≡◌, ℕ, ◌<◌, Bool, true, List, slice_get, Some}
use Rattle.fore_base.specs.Lists.{IsIn, Paired, PairedBut}
use Rattle.ta_core.specs.Auto.{Automaton}
use Rattle.ta_core.specs.Language.{IsTrim}
use Rattle.ta_core.specs.declared.auto.Rule.{Rule}

-- the rule r is matched by a rule of q: one with the same symbol, and with children to which those of r are related
abbrev pub IsMatched : List Rule → (ℕ → ℕ → Type 0) → Rule → ℕ → Type 0
IsMatched rules R r q = (s : Rule) × IsIn s rules × (s.state ≡ q) × (s.symbol ≡ r.symbol)
    × Paired R r.children s.children

-- a downward simulation: each rule of p is matched by a rule of each state that p is related to
abbrev pub IsDownward : List Rule → (ℕ → ℕ → Type 0) → Type 0
IsDownward rules R = (r : Rule) (q : ℕ) → IsIn r rules → R r.state q → IsMatched rules R r q

-- the greatest downward simulation: some downward simulation relates p to q
abbrev pub IsSimulated : List Rule → ℕ → ℕ → Type 0
IsSimulated rules p q = (R : ℕ → ℕ → Bool) × IsDownward rules (λ x y. R x y ≡ true) × (R p q ≡ true)

-- a root state is related to root states only
abbrev pub KeepsRoots : Automaton → (ℕ → ℕ → Type 0) → Type 0
KeepsRoots a U = (p q : ℕ) → IsIn p a.roots → U p q → IsIn q a.roots

-- an upward simulation by D: a root state is related to root states only, and each rule with p at place i is matched,
-- for each q that p is related to, by a rule with the same symbol and with q at place i, whose other children are
-- related by D and whose state is related
abbrev pub IsUpward : Automaton → (ℕ → ℕ → Type 0) → (ℕ → ℕ → Type 0) → Type 0
IsUpward a D U = KeepsRoots a U
    × ((r : Rule) (i p q : ℕ) → IsIn r a.rules → slice_get r.children i ≡ Some p → U p q → (s : Rule) × IsIn s a.rules
    × (s.symbol ≡ r.symbol) × PairedBut D i p q r.children s.children × U r.state s.state)

-- the greatest upward simulation by D: some upward simulation by D relates p to q
abbrev pub IsSimulatedUpward : Automaton → (ℕ → ℕ → Type 0) → ℕ → ℕ → Type 0
IsSimulatedUpward a D p q = (U : ℕ → ℕ → Bool) × IsUpward a D (λ x y. U x y ≡ true) × (U p q ≡ true)

-- the rules at two places of the list have one state and one symbol, and each child of the first is simulated by the
-- second's in its place
abbrev pub IsNeedless : List Rule → ℕ → ℕ → Type 0
IsNeedless rules i j = (r s : Rule) × (slice_get rules i ≡ Some r) × (slice_get rules j ≡ Some s) × (r.state ≡ s.state)
    × (r.symbol ≡ s.symbol) × Paired (IsSimulated rules) r.children s.children

-- each state takes part in the run of some accepted tree, no two states simulate each other downward, and no state has
-- a rule of which another rule of its symbol simulates each child
pub record AutoReduced (a : Automaton) : Type 0 where
  pub trim : IsTrim a
  pub apart : (p q : ℕ) → p < a.states → q < a.states → IsSimulated a.rules p q → IsSimulated a.rules q p → p ≡ q
  pub needed : (i j : ℕ) → IsNeedless a.rules i j → i ≡ j
