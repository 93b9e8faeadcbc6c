-- Worked values of box edges for a field of a root, each made by hand.
use Rattle.std.proofs.Common.{◌≡◌, inl, inr, true, false, List, [], ◌∷◌, refl, subst, Some, None, arith}
use Rattle.fore_base.specs.declared.store.Value.{Value}
use Rattle.fore_base.specs.declared.store.Value.TheVariants.{Null as NullValue, Uninit as UninitValue}
use Rattle.fore_base.specs.declared.store.Value.TheVariants.{Dangling as DanglingValue, Cell as CellValue}
use Rattle.ta_core.specs.Auto.{automaton}
use Rattle.ta_core.specs.declared.symbol.Slot.{Slot}
use Rattle.ta_core.specs.declared.symbol.Slot.TheVariants.{Field, Link, Hook}
use Rattle.ta_core.specs.declared.symbol.Symbol.TheVariants.{Cell}
use Rattle.fa_core.specs.declared.forest.Forest.{Forest}
use Rattle.fa_core.specs.declared.faces.BoxFace.{BoxFace}
use Rattle.fa_core.specs.declared.forest.Target.TheVariants.{At, Null}
use Rattle.fa_core.specs.Dressed.{Nodes, node, no_parts, field, link, leaf, no_nodes, more}
use Rattle.fa_core.specs.Dressed.{SeenField, SeenLink, SeenHook}
use Rattle.fa_unfold.specs.Opens.{IsCell, HasSlot}
use Rattle.fa_opening.specs.Opened.{CoversAt, GivesAt, HasFieldsAlone, IsAnyField, IsEdgeFor, IsEdgeForRoot}
use Rattle.fa_opening.specs.Opened.{slot_covers}

-- box 0 covers field 0 at its input and gives field 1 to its output, box 1 covers field 2 and has no output
abbrev faces : List BoxFace
faces =
    record { input = 0; output = Some 0; gives_in = 0 ∷ []; gives_out = 1 ∷ []; back = true }
    ∷ record { input = 0; output = None; gives_in = 2 ∷ []; gives_out = []; back = false } ∷ []

abbrev inside : Nodes
inside = no_nodes

-- an edge covers what its box has at the input, a field and a box that is not there cover nothing
link_covers : CoversAt faces (SeenLink 0 inside (CellValue 6)) 0
link_covers = inl refl

link_covers_no_other : CoversAt faces (SeenLink 0 inside (CellValue 6)) 1 → ⊥
link_covers_no_other (inl e) = omega (arith, e)
link_covers_no_other (inr i) = i

hook_covers : CoversAt faces (SeenHook 1 inside) 2
hook_covers = inl refl

field_covers_not : CoversAt faces (SeenField 0 (CellValue 6)) 0 → ⊥
field_covers_not h = h

-- an edge gives what its box has at the output to the cell at its end, and to no other
link_gives : GivesAt faces (SeenLink 0 inside (CellValue 6)) 6 1
link_gives = (refl, inl refl)

abbrev Dangles : Value → Type 0
Dangles NullValue = ⊥
Dangles UninitValue = ⊥
Dangles DanglingValue = Unit {0}
Dangles (CellValue n) = ⊥

dangling_gives_not : GivesAt faces (SeenLink 0 inside DanglingValue) 6 1 → ⊥
dangling_gives_not h = subst Dangles h.0 tt

hook_gives_not : GivesAt faces (SeenHook 1 inside) 6 2 → ⊥
hook_gives_not h = h

-- for field 0 of cell 5 and for field 1 of cell 6
own_edge : IsEdgeFor faces 5 0 (HasSlot 5 (SeenLink 0 inside (CellValue 6)))
own_edge = inl (refl, inl refl)

end_edge : IsEdgeFor faces 6 1 (HasSlot 5 (SeenLink 0 inside (CellValue 6)))
end_edge = inr (refl, inl refl)

cell_is_no_edge : IsEdgeFor faces 5 0 (IsCell 5 0 []) → ⊥
cell_is_no_edge h = h

-- a forest of two cells: the first has an edge to the second, at which root 1 is
abbrev two : Nodes
two = more (node 5 0 [] (link 0 inside (leaf (At 1)) no_parts))
    (more (node 6 0 [] (field 0 (leaf Null) no_parts)) no_nodes)

edge_for_the_first : IsEdgeForRoot faces 0 0 two (HasSlot 5 (SeenLink 0 inside (CellValue 6)))
edge_for_the_first = (5, refl, inl (refl, inl refl))

edge_for_the_second : IsEdgeForRoot faces 1 1 two (HasSlot 5 (SeenLink 0 inside (CellValue 6)))
edge_for_the_second = (6, refl, inr (refl, inl refl))

-- Slots of rules.

link_slot : slot_covers faces 0 (Link 0) ≡ true
link_slot = refl

link_slot_not : slot_covers faces 1 (Link 0) ≡ false
link_slot_not = refl

hook_slot : slot_covers faces 2 (Hook 1) ≡ true
hook_slot = refl

field_slot : slot_covers faces 0 (Field 0) ≡ false
field_slot = refl

no_box : slot_covers faces 0 (Link 7) ≡ false
no_box = refl

-- A root with two fields, and one with a field and an edge.

abbrev with_slots : List Slot → Forest
with_slots ss = record {
  autos = automaton 1 (0 ∷ []) (record { state = 0; symbol = Cell 0 [] ss; children = [] } ∷ []) ∷ [];
  vars = At 0 ∷ [];
  data_vars = [];
}

fields_alone : HasFieldsAlone (with_slots (Field 0 ∷ Field 2 ∷ [])) 0
fields_alone = (tt, (tt, tt))

a_link_is_no_field : HasFieldsAlone (with_slots (Field 0 ∷ Link 0 ∷ [])) 0 → ⊥
a_link_is_no_field h = h.1.0

a_hook_is_no_field : HasFieldsAlone (with_slots (Hook 1 ∷ [])) 0 → ⊥
a_hook_is_no_field h = h.0

any_field : IsAnyField 3
any_field = tt
