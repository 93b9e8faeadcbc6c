-- Slots of cells, with the states of their children, put together in the order of the least field that each covers.
use Rattle.std.specs.Prelude.{ℕ, zero, suc, nat_le, if◌then◌else◌, List, [], ◌∷◌, map, flat_map, take}
use Rattle.ta_core.specs.Arity.{child_slots}
use Rattle.ta_core.specs.Joined.{shift}
use Rattle.ta_core.specs.declared.auto.Rule.{Rule}
use Rattle.ta_core.specs.declared.symbol.Slot.{Slot}
use Rattle.ta_core.specs.declared.symbol.Slot.TheVariants.{Field, Link, Hook}
use Rattle.ta_core.specs.declared.symbol.Symbol.{Symbol}
use Rattle.ta_core.specs.declared.symbol.Symbol.TheVariants.{Null, Uninit, Dangling, Ref, Cell}
use Rattle.fa_core.specs.declared.faces.BoxFace.{BoxFace}
use Rattle.fa_core.specs.Filled.{covers, least}
use Rattle.fa_core.specs.Folding.{symbol_slots}

-- Lists put together.

-- the item before the first whose key is not less
abbrev pub put_in : {X : Type 0} → (X → ℕ) → X → List X → List X
put_in key x [] = x ∷ []
put_in key x (y ∷ ys) = if nat_le (key x) (key y) then x ∷ (y ∷ ys) else y ∷ put_in key x ys

-- the items xs, with the items ys put in
abbrev pub joined : {X : Type 0} → (X → ℕ) → List X → List X → List X
joined key xs [] = xs
joined key xs (y ∷ ys) = put_in key y (joined key xs ys)

-- the items but the one at place p
abbrev pub without : {X : Type 0} → ℕ → List X → List X
without p [] = []
without zero (x ∷ xs) = xs
without (suc p) (x ∷ xs) = x ∷ without p xs

-- Slots with the states of their children.

-- a slot, and the state of its child, if it has one
abbrev pub Place : Type 0
Place = Slot × List ℕ

-- each slot with the state of its child
abbrev pub state_places : List Slot → List ℕ → List Place
state_places [] qs = []
state_places (Hook b ∷ ss) qs = (Hook b, []) ∷ state_places ss qs
state_places (Field f ∷ ss) [] = []
state_places (Field f ∷ ss) (q ∷ qs) = (Field f, q ∷ []) ∷ state_places ss qs
state_places (Link b ∷ ss) [] = []
state_places (Link b ∷ ss) (q ∷ qs) = (Link b, q ∷ []) ∷ state_places ss qs

-- those of a rule
abbrev pub rule_places : Rule → List Place
rule_places x = state_places (symbol_slots x.symbol) x.children

-- how many children the slots before place p have: the child of slot p stands behind so many
abbrev pub children_before : List Slot → ℕ → ℕ
children_before ss p = child_slots (take p ss)

-- the least field that the slot covers
abbrev pub slot_key : List BoxFace → Slot → ℕ
slot_key bs s = least (covers bs s)

abbrev pub place_key : List BoxFace → Place → ℕ
place_key bs p = slot_key bs p.0

-- with n added to the states
abbrev pub moved_place : ℕ → Place → Place
moved_place n p = (p.0, map (shift n) p.1)

-- a cell with other slots; a leaf stays
abbrev pub with_slots : Symbol → List Slot → Symbol
with_slots Null ss = Null
with_slots Uninit ss = Uninit
with_slots Dangling ss = Dangling
with_slots (Ref r) ss = Ref r
with_slots (Cell s ds old) ss = Cell s ds ss

-- the rule with other slots and children
abbrev pub with_places : Rule → List Place → Rule
with_places x ps = record {
  state = x.state;
  symbol = with_slots x.symbol (map (λ p. p.0) ps);
  children = flat_map (λ p. p.1) ps;
}
