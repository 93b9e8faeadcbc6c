-- Worked values of what rules say of cells with box edges, each made by hand.
use Rattle.std.proofs.Common.{◌≡◌, inl, inr, ℕ, true, false, true≢false, List, [], ◌∷◌, Option, Some, None, refl, ap}
use Rattle.std.proofs.Common.{Bool, length, arith}
use Rattle.fore_base.specs.declared.shape.FieldDef.{FieldDef}
use Rattle.fore_base.specs.declared.shape.FieldKind.TheVariants.{Pointer}
use Rattle.fore_base.specs.declared.shape.Shape.{Shape}
use Rattle.ta_core.specs.declared.auto.Rule.{Rule}
use Rattle.ta_core.specs.declared.symbol.Slot.TheVariants.{Field, Link, Hook}
use Rattle.ta_core.specs.declared.symbol.Symbol.{Symbol}
use Rattle.ta_core.specs.declared.symbol.Symbol.TheVariants.{Null, Uninit, Dangling, Ref, Cell}
use Rattle.fa_core.specs.declared.faces.BoxFace.{BoxFace}
use Rattle.fa_core.specs.declared.faces.Face.{Face}
use Rattle.fa_core.specs.Rearranged.{empty, keep}
use Rattle.fa_core.proofs.Rearranging.{long_same}
use Rattle.fa_filling.specs.Given.{given_to}
use Rattle.fa_filling.specs.Parted.{chosen, rules_of, tops_but}
use Rattle.fa_filling.specs.Ruled.{EndAlways, SlotAlways, OnceBy, EdgeOnce, RootOnce}
use Rattle.fa_filling.specs.declared.parts.Part.{Part}
use Rattle.ta_core.specs.Auto.{Automaton}

-- Items of doubly linked lists (struct 0: next and prev), and others of one pointer (struct 1).

abbrev pointer : ℕ → FieldDef
pointer s = record { name = []; kind = Pointer s }

abbrev structs : List Shape
structs = record { name = []; fields = pointer 0 ∷ pointer 0 ∷ [] } ∷ record { name = []; fields = pointer 1 ∷ [] } ∷ []

-- a box that covers next and gives prev; one of struct 1 that gives nothing; one without an output that covers prev
abbrev giving : BoxFace
giving = record { input = 0; output = Some 0; gives_in = 0 ∷ []; gives_out = 1 ∷ []; back = true }

abbrev plain : BoxFace
plain = record { input = 1; output = Some 1; gives_in = 0 ∷ []; gives_out = []; back = false }

abbrev hooked : BoxFace
hooked = record { input = 0; output = None; gives_in = 1 ∷ []; gives_out = []; back = false }

abbrev face : Face
face = record { shapes = record { structs = structs }; boxes = giving ∷ plain ∷ hooked ∷ [] }

-- What is given at roots.

at_first : given_to ((0 ∷ []) ∷ (1 ∷ 2 ∷ []) ∷ []) 0 ≡ 0 ∷ []
at_first = refl

at_second : given_to ((0 ∷ []) ∷ (1 ∷ 2 ∷ []) ∷ []) 1 ≡ 1 ∷ 2 ∷ []
at_second = refl

at_none : given_to ((0 ∷ []) ∷ []) 1 ≡ []
at_none = refl

-- Ends of Links: a cell of the output's struct, a root whose tops are all of it, and Dangling where nothing is given.

abbrev tops : List (List ℕ)
tops = (0 ∷ []) ∷ (1 ∷ []) ∷ (0 ∷ 1 ∷ []) ∷ []

ends_in_cell : EndAlways face tops 0 (Link 0) (Cell 0 [] [])
ends_in_cell = (refl, refl)

ends_in_other_cell : EndAlways face tops 0 (Link 0) (Cell 1 [] []) → ⊥
ends_in_other_cell h = let e = h.1 in omega (arith, e)

begins_elsewhere : EndAlways face tops 1 (Link 0) (Cell 0 [] []) → ⊥
begins_elsewhere h = let e = h.0 in omega (arith, e)

ends_at_root : EndAlways face tops 0 (Link 0) (Ref 0)
ends_at_root = (refl, (refl, tt))

ends_at_other_root : EndAlways face tops 0 (Link 0) (Ref 1) → ⊥
ends_at_other_root h = let e = h.1.0 in omega (arith, e)

ends_at_some_root : EndAlways face tops 0 (Link 0) (Ref 2) → ⊥
ends_at_some_root h = let e = h.1.1.0 in omega (arith, e)

ends_at_no_root : EndAlways face tops 0 (Link 0) (Ref 3) → ⊥
ends_at_no_root h = h.1

ends_in_dangling : EndAlways face tops 1 (Link 1) Dangling
ends_in_dangling = (refl, refl)

ends_given_dangling : EndAlways face tops 0 (Link 0) Dangling → ⊥
ends_given_dangling h = let e = ap length h.1 in omega (arith, e)

ends_in_null : EndAlways face tops 1 (Link 1) Null → ⊥
ends_in_null h = h.1

ends_in_uninit : EndAlways face tops 1 (Link 1) Uninit → ⊥
ends_in_uninit h = h.1

-- a Link of a box without an output, and of one that is not there
no_output : EndAlways face tops 0 (Link 2) (Cell 0 [] []) → ⊥
no_output h = h.1

no_box : EndAlways face tops 0 (Link 3) (Cell 0 [] []) → ⊥
no_box h = h

-- Hooks: of a box without an output, at a cell of its input's struct.

hook_fits : SlotAlways face 0 (Hook 2)
hook_fits = (refl, refl)

hook_elsewhere : SlotAlways face 1 (Hook 2) → ⊥
hook_elsewhere h = let e = h.0 in omega (arith, e)

hook_with_output : SlotAlways face 0 (Hook 0) → ⊥
hook_with_output h = true≢false (ap is_some h.1)
  where
    is_some : Option ℕ → Bool
    is_some None = false
    is_some (Some n) = true

no_hook : SlotAlways face 0 (Hook 3) → ⊥
no_hook h = h

-- Fields: an item with a Link at next, below such a Link, has prev from it; with a field prev besides it has it twice.

item_once : OnceBy face (1 ∷ []) (Cell 0 [] (Link 0 ∷ []))
item_once = keep 0 (keep 1 empty)

item_twice : OnceBy face (1 ∷ []) (Cell 0 [] (Link 0 ∷ Field 1 ∷ [])) → ⊥
item_twice h = let e = long_same h in omega (arith, e)

item_lacks : OnceBy face [] (Cell 0 [] (Link 0 ∷ [])) → ⊥
item_lacks h = let e = long_same h in omega (arith, e)

hook_covers : OnceBy face [] (Cell 0 [] (Field 0 ∷ Hook 2 ∷ []))
hook_covers = keep 0 (keep 1 empty)

-- below an edge its state's rules count alone, with what the edge gives; at the root those of root states
abbrev rule : ℕ → Symbol → Rule
rule q y = record { state = q; symbol = y; children = [] }

abbrev rules : List Rule
rules = rule 0 (Cell 0 [] (Link 0 ∷ [])) ∷ rule 1 (Cell 0 [] (Field 0 ∷ Field 1 ∷ [])) ∷ []

below_link : EdgeOnce face rules (Link 0, 0)
below_link = (λ e. keep 0 (keep 1 empty), (λ e. absurd (omega (arith, e)), tt))

below_field : EdgeOnce face rules (Field 0, 0) → ⊥
below_field h = let e = long_same (h.0 refl) in omega (arith, e)

at_root : RootOnce face [] (1 ∷ []) (rule 1 (Cell 0 [] (Field 0 ∷ Field 1 ∷ [])))
at_root i = keep 0 (keep 1 empty)

not_at_root : RootOnce face [] (1 ∷ []) (rule 0 (Cell 0 [] (Link 0 ∷ [])))
not_at_root (inl e) = absurd (omega (arith, e))
not_at_root (inr j) = absurd j

-- Parts.

-- lists of one cell of struct 1, whose state is 0 and whose end is 1
abbrev cell_rule : Rule
cell_rule = record { state = 0; symbol = Cell 1 [] (Field 0 ∷ []); children = 1 ∷ [] }

abbrev end_rule : Rule
end_rule = record { state = 1; symbol = Null; children = [] }

abbrev cells : Automaton
cells = record { states = 2; roots = 0 ∷ []; rules = cell_rule ∷ end_rule ∷ [] }

-- the rule is chosen: it is put at one more state, which is the only root state
abbrev top_rule : Rule
top_rule = record { state = 2; symbol = Cell 1 [] (Field 0 ∷ []); children = 1 ∷ [] }

chosen_rule : chosen cells (cell_rule ∷ [])
    ≡ record { states = 3; roots = 2 ∷ []; rules = cell_rule ∷ end_rule ∷ top_rule ∷ [] }
chosen_rule = refl

-- the rules that have a cell of struct 1, and those of struct 0
of_struct : rules_of 1 (cell_rule ∷ end_rule ∷ []) ≡ cell_rule ∷ []
of_struct = refl

of_other_struct : rules_of 0 (cell_rule ∷ end_rule ∷ []) ≡ []
of_other_struct = refl

-- a component before has struct 0 at its top, this one has struct 1 alone, and that behind it both
abbrev part : ℕ → Part
part s = record { auto = cells; top = s }

tops_around : tops_but ((0 ∷ []) ∷ []) 1 ((part 0 ∷ part 1 ∷ []) ∷ []) ≡ (0 ∷ []) ∷ (1 ∷ []) ∷ (0 ∷ 1 ∷ []) ∷ []
tops_around = refl
