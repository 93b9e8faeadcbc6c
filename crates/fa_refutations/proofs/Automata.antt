-- What wrong bodies of inclusion and reduction would answer, refused by the words of their contracts.
use Rattle.std.proofs.Common.{true, false, [], ◌∷◌, inl, inr, refl, arith}
use Rattle.std.proofs.lemmas.Bool.{false≢true}
use Rattle.ta_core.specs.Auto.{Automaton}
use Rattle.ta_classes.specs.Classes.{AreClasses}
use Rattle.ta_sim.specs.Relations.{Table}
use Rattle.ta_incl.specs.declared.order.Order.{Order}
use Rattle.ta_incl.specs.declared.order.Order.TheVariants.{Rows}
use Rattle.ta_incl.specs.inner.Orders.{AreUpward}
use Rattle.ta_reduce.specs.inner.Reduction.{AreMutual}

-- Two states and no rules: without root states each is below the other, with the root state 0 it is not below 1.

abbrev rootless : Automaton
rootless = record { states = 2; roots = []; rules = [] }

abbrev rooted : Automaton
rooted = record { states = 2; roots = 0 ∷ []; rules = [] }

abbrev each_below_each : Order
each_below_each = Rows ((true ∷ true ∷ []) ∷ (true ∷ true ∷ []) ∷ [])

-- the order of the left states, taken for the right ones too
left_states_alone : AreUpward rootless rooted (record { left = each_below_each; right = each_below_each }) → ⊥
left_states_alone orders =
    elim (orders.right.upward.0 0 1 (inl refl) refl) [ inl e ↦ omega (arith, e) | inr i ↦ i ]

-- State 1 simulates state 0, and not the other way round: both in one class, since only one way was asked.
abbrev one_way : Table
one_way = record { size = 2; rows = (true ∷ true ∷ []) ∷ (false ∷ true ∷ []) ∷ [] }

joined_one_way : AreClasses (AreMutual one_way) 2 (0 ∷ 0 ∷ []) (0 ∷ []) → ⊥
joined_one_way classes = false≢true (classes.first 1 (omega arith)).1
