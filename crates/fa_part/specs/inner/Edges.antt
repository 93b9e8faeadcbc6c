-- The slots at the top of a root's one rule that have a child, each with the state of the child.
use Rattle.std.specs.Prelude.{ℕ, not, Bool, true, false, filter, List}
use Rattle.ta_core.specs.Auto.{Automaton}
use Rattle.ta_core.specs.declared.symbol.Slot.{Slot}
use Rattle.fa_core.specs.Cells.{edges}
use Rattle.fa_core.specs.Folding.{symbol_slots, is_one_of}
use Rattle.fa_split.specs.Split.{top_rule}

-- the slots with a child that meet p, each with what stands in its place
abbrev pub picked : {X : Type 0} → (Slot → Bool) → List Slot → List X → List (Slot × X)
picked p ss xs = filter (λ e. p e.0) (edges ss xs)

-- the slots with a child at the top, each with the state of the child
abbrev pub all_edges : Automaton → List (Slot × ℕ)
all_edges a = edges (symbol_slots (top_rule a).symbol) (top_rule a).children

-- those that meet p
abbrev pub top_edges : (Slot → Bool) → Automaton → List (Slot × ℕ)
top_edges p a = picked p (symbol_slots (top_rule a).symbol) (top_rule a).children

-- the slot is none of these fields
abbrev pub is_left : List ℕ → Slot → Bool
is_left fs s = not (is_one_of fs s)

-- the slots to pick: those that are one of these fields, where they are taken, and else the others
abbrev pub is_picked : Bool → List ℕ → Slot → Bool
is_picked true fs = is_one_of fs
is_picked false fs = is_left fs
