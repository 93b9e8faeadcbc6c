-- Worked values of the definitions.
use Rattle.std.proofs.Common.{◌≡◌, ℕ, true, false, List, [], ◌∷◌, refl, codes, replicate, Some, None}
use Rattle.fore_base.specs.declared.shape.FieldKind.TheVariants.{Pointer, Datum as IsDatum}
use Rattle.fore_base.specs.declared.shape.Shape.{Shape}
use Rattle.fore_base.specs.declared.shape.Shapes.{Shapes}
use Rattle.fore_base.specs.declared.store.Datum.TheVariants.{Known as IsKnown}
use Rattle.ta_core.specs.declared.symbol.Slot.TheVariants.{Field as ToField, Link as ToLink, Hook as ToHook}
use Rattle.ta_core.specs.declared.symbol.Symbol.TheVariants.{Ref as IsRef, Cell as IsCell}
use Rattle.fa_lines.specs.declared.line.SlotText.{SlotText}
use Rattle.fa_lines.specs.declared.line.SlotText.TheVariants.{Field, Link, Hook}
use Rattle.fa_lines.specs.declared.line.DatumText.{DatumText}
use Rattle.fa_lines.specs.declared.line.Term.{Term}
use Rattle.fa_lines.specs.declared.line.Term.TheVariants.{Ref, Cell}
use Rattle.fa_written.specs.declared.draft.RuleDraft.{RuleDraft}
use Rattle.fa_written.specs.declared.draft.PartDraft.{PartDraft}
use Rattle.fa_written.specs.declared.draft.Head.{Head}
use Rattle.fa_written.specs.declared.draft.BoxDraft.{BoxDraft}
use Rattle.fa_named.specs.Breaks.{part_faults, limit_faults, head_faults}
use Rattle.fa_named.specs.Earlier.{no_boxes, with_box}
use Rattle.fa_named.specs.Insides.{state_count, bound_from}
use Rattle.fa_named.specs.Named.{faults, box_of, boxes_of}
use Rattle.fa_named.specs.Places.{place}
use Rattle.fa_named.specs.Structs.{known_of, field_names}
use Rattle.fa_named.specs.declared.fault.NameFault.TheVariants.{K6, B2, B3}
use Rattle.fa_named.specs.declared.named.Boxes.{Boxes}
use Rattle.fa_named.specs.declared.named.Known.{Known}

-- the first of two, and none
first_place : place (codes "b") (codes "a" ∷ codes "b" ∷ codes "b" ∷ []) ≡ 1
first_place = refl

no_place : place (codes "c") (codes "a" ∷ codes "b" ∷ []) ≡ 2
no_place = refl

-- a list of numbers has one more state than the greatest, and none without numbers
bounds : bound_from 0 (3 ∷ 0 ∷ 2 ∷ []) ≡ 4
bounds = refl

no_bound : bound_from 0 [] ≡ 0
no_bound = refl

-- struct cell { struct cell *next; int key; struct cell *prev; } and struct bare { struct bare *next; }

abbrev cell : Shape
cell = record {
  name = codes "cell";
  fields = record { name = codes "next"; kind = Pointer 0 } ∷ record { name = codes "key"; kind = IsDatum }
      ∷ record { name = codes "prev"; kind = Pointer 0 } ∷ [];
}

abbrev bare : Shape
bare = record { name = codes "bare"; fields = record { name = codes "next"; kind = Pointer 1 } ∷ [] }

abbrev shapes : Shapes
shapes = record { structs = cell ∷ bare ∷ [] }

abbrev known : Known
known = known_of shapes

pointers_apart : field_names false cell.fields ≡ codes "next" ∷ codes "prev" ∷ []
pointers_apart = refl

data_apart : field_names true cell.fields ≡ codes "key" ∷ []
data_apart = refl

-- Lines of rules. Behind them stand box ab, which has an output, and box a, which has none.

abbrev behind : Boxes
behind = record { names = codes "ab" ∷ codes "a" ∷ []; outputs = true ∷ false ∷ [] }

abbrev key : DatumText
key = record { name = codes "key"; datum = IsKnown 3 }

abbrev cell_of : List DatumText → List SlotText → Term
cell_of ds slots = Cell (codes "cell") ds slots

abbrev bare_of : List SlotText → Term
bare_of slots = Cell (codes "bare") [] slots

-- a component with root state 0, and these rules on lines 5 and 6
abbrev two : ℕ → Term → ℕ → Term → PartDraft
two q s p t = record {
  line = 4;
  roots = 0 ∷ [];
  rules = record { line = 5; state = q; term = s } ∷ record { line = 6; state = p; term = t } ∷ [];
}

-- a struct that is not there, and a field that is not the struct's, or is a datum
no_struct : part_faults known behind false (two 0 (Cell (codes "node") [] []) 1 (Ref 0)) ≡ B2 5 ∷ []
no_struct = refl

no_field : part_faults known behind false (two 0 (bare_of (Field (codes "prev") 1 ∷ [])) 1 (Ref 0)) ≡ B2 5 ∷ []
no_field = refl

no_pointer : part_faults known behind false (two 0 (cell_of (key ∷ []) (Field (codes "key") 1 ∷ [])) 1 (Ref 0))
    ≡ B2 5 ∷ []
no_pointer = refl

-- the data of a cell, and of a port's cell
data_are_there : part_faults known behind false (two 0 (cell_of (key ∷ []) []) 1 (Ref 0)) ≡ []
data_are_there = refl

data_are_missing : part_faults known behind false (two 0 (cell_of [] []) 1 (Ref 0)) ≡ B2 5 ∷ []
data_are_missing = refl

data_are_twice : part_faults known behind false (two 0 (cell_of (key ∷ key ∷ []) []) 1 (Ref 0)) ≡ B2 5 ∷ []
data_are_twice = refl

port_has_none : part_faults known behind true (two 0 (cell_of [] []) 1 (cell_of (key ∷ []) [])) ≡ []
port_has_none = refl

port_has_some : part_faults known behind true (two 0 (cell_of (key ∷ []) []) 1 (cell_of [] [])) ≡ B2 5 ∷ B2 6 ∷ []
port_has_some = refl

-- a root state of a port that stands below a cell, in a struct with data and in one without
both_with_data : part_faults known behind true (two 0 (cell_of [] (Field (codes "next") 0 ∷ [])) 1 (Ref 0)) ≡ B2 5 ∷ []
both_with_data = refl

both_with_data_written :
    part_faults known behind true (two 0 (cell_of (key ∷ []) (Field (codes "next") 0 ∷ [])) 1 (Ref 0))
    ≡ B2 5 ∷ []
both_with_data_written = refl

both_without : part_faults known behind true (two 0 (bare_of (Field (codes "next") 0 ∷ [])) 1 (Ref 0)) ≡ []
both_without = refl

-- edges of boxes
edges : part_faults known behind false (two 0 (bare_of (Link (codes "ab") 1 ∷ Hook (codes "a") ∷ [])) 1 (Ref 0)) ≡ []
edges = refl

no_state : part_faults known behind false (two 0 (bare_of (Hook (codes "ab") ∷ [])) 1 (Ref 0)) ≡ B3 5 ∷ []
no_state = refl

state_of_none : part_faults known behind false (two 0 (bare_of (Link (codes "a") 1 ∷ [])) 1 (Ref 0)) ≡ B3 5 ∷ []
state_of_none = refl

no_box : part_faults known behind false (two 0 (bare_of (Hook (codes "b") ∷ [])) 1 (Ref 0)) ≡ B3 5 ∷ []
no_box = refl

-- both on one line, and on two
least_rule : part_faults known behind false (two 0 (bare_of (Hook (codes "b") ∷ Field (codes "prev") 1 ∷ [])) 1 (Ref 0))
    ≡ B2 5 ∷ []
least_rule = refl

two_lines : part_faults known behind false (two 0 (bare_of (Hook (codes "b") ∷ [])) 1 (cell_of [] []))
    ≡ B3 5 ∷ B2 6 ∷ []
two_lines = refl

-- Lines of boxes

abbrev head : ℕ → Head
head n = record { line = n; name = codes "ab"; input = codes "cell"; output = Some (codes "bare") }

fine_head : head_faults known no_boxes (head 7) ≡ []
fine_head = refl

second_of_a_name : head_faults known behind (head 7) ≡ B3 7 ∷ []
second_of_a_name = refl

no_input : head_faults known behind (record { line = 7; name = codes "ab"; input = codes "node"; output = None })
    ≡ B2 7 ∷ []
no_input = refl

no_output :
    head_faults known no_boxes (record { line = 7; name = codes "ab"; input = codes "cell"; output = Some (codes "x") })
    ≡ B2 7 ∷ []
no_output = refl

-- a box of two ports; its second stands with the state 2 alone

abbrev output : PartDraft
output = record { line = 7; roots = 2 ∷ []; rules = record { line = 8; state = 2; term = bare_of [] } ∷ [] }

abbrev a_box : BoxDraft
a_box = record {
  head = head 3;
  parts = two 0 (cell_of [] (Field (codes "prev") 1 ∷ [])) 1 (Ref 1) ∷ output ∷ [];
  end = 9;
}

a_file : faults shapes (a_box ∷ []) ≡ []
a_file = refl

its_states : state_count output ≡ 3
its_states = refl

its_boxes : boxes_of known no_boxes (a_box ∷ [])
    ≡ record {
      name = codes "ab";
      input = 0;
      output = Some 1;
      inside = record {
        autos = record {
          states = 2;
          roots = 0 ∷ [];
          rules = record { state = 0; symbol = IsCell 0 [] (ToField 1 ∷ []); children = 1 ∷ [] }
              ∷ record { state = 1; symbol = IsRef 1; children = [] } ∷ [];
        } ∷ record {
          states = 3;
          roots = 2 ∷ [];
          rules = record { state = 2; symbol = IsCell 1 [] []; children = [] } ∷ [];
        } ∷ [];
        vars = [];
        data_vars = [];
      };
    } ∷ []
its_boxes = refl

-- a box does not stand before itself, but before the next
second_box : faults shapes (a_box ∷ a_box ∷ []) ≡ B3 3 ∷ []
second_box = refl

abbrev own : BoxDraft
own = record { head = head 3; parts = two 0 (bare_of (Link (codes "ab") 1 ∷ [])) 1 (Ref 0) ∷ output ∷ []; end = 9 }

own_box : faults shapes (own ∷ []) ≡ B3 5 ∷ []
own_box = refl

-- the 33rd box
just_32 : limit_faults (replicate 32 a_box) ≡ []
just_32 = refl

one_more : limit_faults (replicate 33 a_box) ≡ K6 3 ∷ []
one_more = refl
