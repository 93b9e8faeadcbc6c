-- Which states of an automaton are below which, in the search for inclusion.
use Rattle.std.specs.Prelude.{◌≡◌, ℕ, ◌<◌, Bool, true, List, nat_eq}
use Rattle.fore_base.specs.Marks.{IsMarked}
use Rattle.ta_core.specs.Auto.{Automaton}
use Rattle.ta_core.specs.Simulations.{IsUpward}
use Rattle.ta_sim.specs.Relations.{entry}
use Rattle.ta_incl.specs.declared.order.Order.{Order}
use Rattle.ta_incl.specs.declared.order.Order.TheVariants.{Equal, Rows}
use Rattle.ta_incl.specs.declared.order.Orders.{Orders}

-- whether the order has p below q
abbrev pub below : Order → ℕ → ℕ → Bool
below Equal p q = nat_eq p q
below (Rows rows) p q = entry rows p q

-- it has
abbrev pub AreOrdered : Order → ℕ → ℕ → Type 0
AreOrdered order p q = below order p q ≡ true

-- U is an upward simulation by equality on the states of c, and a preorder on them
pub record IsUpwardOrder (c : Automaton) (U : ℕ → ℕ → Type 0) : Type 0 where
  pub same : (p : ℕ) → p < c.states → U p p
  pub through : (p q r : ℕ) → q < c.states → U p q → U q r → U p r
  pub upward : IsUpward c (λ x y. x ≡ y) U

-- so are the orders of both automata, each on its own
pub record AreUpward (a b : Automaton) (orders : Orders) : Type 0 where
  pub left : IsUpwardOrder a (AreOrdered orders.left)
  pub right : IsUpwardOrder b (AreOrdered orders.right)

-- the state is below one with a mark
abbrev pub IsUnder : Order → List Bool → ℕ → Type 0
IsUnder order marks m = (k : ℕ) × IsMarked marks k × AreOrdered order m k
