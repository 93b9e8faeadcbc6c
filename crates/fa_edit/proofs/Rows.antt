-- Worked values: places of fields, leaves and data put, new cells, and which leaves fit.
use Rattle.std.proofs.Common.{◌≡◌, inl, inr, ℕ, zero, suc, List, [], ◌∷◌, refl, sym, ap, subst, ◌∙◌, slice_get, Some}
use Rattle.std.proofs.Common.{None, arith}
use Rattle.fore_base.specs.Lists.{IsIn}
use Rattle.std.proofs.lemmas.Option.{none-some, same_Some}
use Rattle.fore_base.specs.declared.shape.FieldKind.TheVariants.{Pointer, Datum as DatumKind}
use Rattle.fore_base.specs.declared.shape.Shape.{Shape}
use Rattle.fore_base.specs.declared.store.Datum.TheVariants.{Undefined, Known}
use Rattle.ta_core.specs.Auto.{Automaton, automaton}
use Rattle.ta_core.specs.Single.{HasOneTop}
use Rattle.ta_core.specs.declared.auto.Rule.{Rule}
use Rattle.ta_core.specs.declared.symbol.Slot.TheVariants.{Field, Link, Hook}
use Rattle.ta_core.specs.declared.symbol.Symbol.{Symbol}
use Rattle.ta_core.specs.declared.symbol.Symbol.TheVariants.{Null as NullSymbol, Cell}
use Rattle.fa_core.specs.declared.forest.Forest.{Forest}
use Rattle.fa_core.specs.declared.forest.Target.TheVariants.{Null, Uninit, Dangling, At}
use Rattle.fa_core.specs.Dressed.{Parts, Nodes, node, no_parts, field, link, hook, under, leaf, no_nodes, more}
use Rattle.fa_core.specs.Filled.{target_of}
use Rattle.fa_edit.specs.Cells.{new_node}
use Rattle.fa_edit.specs.Data.{HasDatum, LacksDatum, HasDatumField, datum_put, datums_at}
use Rattle.fa_edit.specs.Fits.{LeafFits, shape_at}
use Rattle.fa_edit.specs.Leaves.{HasLeaf, LacksField, end_of_field, leaf_put, put_leaf}
use Rattle.fa_edit.specs.Plain.{IsLeafPlace, IsPlainAt, StructLacks, field_place, place_at}

-- Places: a Link has a child, a Hook none.

last_field : field_place 0 (Hook 5 ∷ Field 1 ∷ Link 2 ∷ Field 0 ∷ []) ≡ Some 2
last_field = refl

first_field : field_place 1 (Hook 5 ∷ Field 1 ∷ Link 2 ∷ Field 0 ∷ []) ≡ Some 0
first_field = refl

-- the numbers of boxes are no fields
no_field : field_place 2 (Hook 5 ∷ Field 1 ∷ Link 2 ∷ Field 0 ∷ []) ≡ None
no_field = refl

-- Leaves: a cell 7 with a box edge, field 1 and field 0, under which stands a cell.

abbrev mixed : Parts
mixed =
    hook 5 no_nodes
    (field 1 (leaf Null) (link 0 no_nodes (leaf (At 4)) (field 0 (under (node 8 0 [] no_parts)) no_parts)))

end_at_one : end_of_field 1 mixed ≡ Some (leaf Null)
end_at_one = refl

end_at_zero : end_of_field 0 mixed ≡ Some (under (node 8 0 [] no_parts))
end_at_zero = refl

no_end : end_of_field 2 mixed ≡ None
no_end = refl

leaf_at_one : put_leaf 1 (At 3) mixed
    ≡ hook 5 no_nodes
    (field 1 (leaf (At 3)) (link 0 no_nodes (leaf (At 4)) (field 0 (under (node 8 0 [] no_parts)) no_parts)))
leaf_at_one = refl

leaf_at_two : put_leaf 2 (At 3) mixed ≡ mixed
leaf_at_two = refl

abbrev pair : Nodes
pair = more (node 6 0 [] (field 0 (leaf Uninit) no_parts)) (more (node 7 0 [] mixed) no_nodes)

second_tree : leaf_put 1 1 Dangling pair
    ≡ more (node 6 0 [] (field 0 (leaf Uninit) no_parts)) (more (node 7 0 [] (put_leaf 1 Dangling mixed)) no_nodes)
second_tree = refl

has_null : HasLeaf pair 1 1 Null
has_null = (node 7 0 [] mixed, refl, refl)

lacks_two : LacksField pair 1 2
lacks_two = (node 7 0 [] mixed, refl, refl)

-- Data.

abbrev dated : Nodes
dated = more (node 5 0 (Undefined ∷ Known 1 ∷ []) no_parts) (more (node 6 0 (Known 2 ∷ []) no_parts) no_nodes)

second_datum : datum_put 0 1 (Known 3) dated
    ≡ more (node 5 0 (Undefined ∷ Known 3 ∷ []) no_parts) (more (node 6 0 (Known 2 ∷ []) no_parts) no_nodes)
second_datum = refl

has_undefined : HasDatum dated 0 0 Undefined
has_undefined = (node 5 0 (Undefined ∷ Known 1 ∷ []) no_parts, refl, refl)

lacks_datum : LacksDatum dated 1 1
lacks_datum = (node 6 0 (Known 2 ∷ []) no_parts, refl, refl)

-- New cells: struct 0 has a datum between two pointers, struct 1 has no fields.

abbrev structs : List Shape
structs =
    record {
      name = [];
      fields = record { name = []; kind = Pointer 1 } ∷ record { name = []; kind = DatumKind }
          ∷ record { name = []; kind = Pointer 0 } ∷ [];
    } ∷ record { name = []; fields = [] } ∷ []

new_cell : new_node structs 0 9 ≡ node 9 0 (Undefined ∷ []) (field 0 (leaf Uninit) (field 1 (leaf Uninit) no_parts))
new_cell = refl

new_empty : new_node structs 1 9 ≡ node 9 1 [] no_parts
new_empty = refl

-- Which leaves fit: root 0 is of struct 0, root 1 of struct 1.

abbrev top : ℕ → Symbol → List ℕ → Automaton
top n y qs = automaton n (0 ∷ [])
    (record { state = 0; symbol = y; children = qs } ∷ record { state = 1; symbol = NullSymbol; children = [] } ∷ [])

abbrev two : Forest
two =
    record {
      autos = top 2 (Cell 0 (Known 4 ∷ []) (Field 0 ∷ Field 1 ∷ [])) (1 ∷ 1 ∷ []) ∷ top 2 (Cell 1 [] []) [] ∷ [];
      vars = [];
      data_vars = [];
    }

one_top : (y : Symbol) (qs : List ℕ) → HasOneTop (top 2 y qs)
one_top y qs =
    record {
      root = 0;
      alone = refl;
      place = 0;
      rule = record { state = 0; symbol = y; children = qs };
      there = refl;
      top = refl;
      only = only;
    }
  where
    only : (i : ℕ) (r : Rule)
        → slice_get (record { state = 0; symbol = y; children = qs }
        ∷ record { state = 1; symbol = NullSymbol; children = [] } ∷ []) i ≡ Some r → r.state ≡ 0 → i ≡ 0
    only zero r e s = refl
    only (suc zero) r e s = absurd
        (let w : 1 ≡ r.state = ap (λ (x : Rule). x.state)
        (same_Some (record { state = 1; symbol = NullSymbol; children = [] }) r e) in omega (arith, w, s))
    only (suc (suc i)) r e s = absurd (none-some r e)

shapes : (shape_at two 0 ≡ Some 0) × (shape_at two 1 ≡ Some 1)
shapes = (refl, refl)

fits_first : LeafFits structs two 0 0 (At 1)
fits_first =
    record {
      root = omega arith;
      top = one_top (Cell 1 [] []) [];
      above = 0;
      is_above = refl;
      below = 1;
      is_below = refl;
      points = refl;
    }

fits_second : LeafFits structs two 0 1 (At 0)
fits_second =
    record {
      root = omega arith;
      top = one_top (Cell 0 (Known 4 ∷ []) (Field 0 ∷ Field 1 ∷ [])) (1 ∷ 1 ∷ []);
      above = 0;
      is_above = refl;
      below = 0;
      is_below = refl;
      points = refl;
    }

-- field 0 points to struct 1
fits_not : LeafFits structs two 0 0 (At 0) → ⊥
fits_not h =
    let a : 0 ≡ h.above = same_Some 0 h.above h.is_above in
    let b : 0 ≡ h.below = same_Some 0 h.below h.is_below in
    let c : Some 1 ≡ Some h.below = ap (λ (n : ℕ). target_of structs n 0) a ∙ h.points in
    let d : 1 ≡ h.below = same_Some 1 h.below c in
    omega (arith, b, d)

data_there : datums_at two 0 ≡ Known 4 ∷ []
data_there = refl

no_data : HasDatumField two 1 0 → ⊥
no_data h = omega (arith, h)

place_there : (place_at two 0 1 ≡ Some 1) × (place_at two 1 0 ≡ None)
place_there = (refl, refl)

-- Which fields are shown: that of a slot, where one leaf stands there, and one that the struct has not. A field that a
-- box edge covers is not.

empty_lacks : StructLacks structs (Some 1) 0
empty_lacks = refl

third_lacks : StructLacks structs (Some 0) 2
third_lacks = refl

none_lacks : StructLacks structs None 0
none_lacks = tt

second_there : StructLacks structs (Some 0) 1 → ⊥
second_there h = none-some 0 (sym h)

-- field 0 is covered by a box edge, and null stands in field 1
abbrev linked : Forest
linked = record {
  autos = top 2 (Cell 0 (Known 4 ∷ []) (Link 0 ∷ Field 1 ∷ [])) (1 ∷ 1 ∷ []) ∷ [];
  vars = [];
  data_vars = [];
}

null_there : (F : Forest) (y : Symbol) → F.autos ≡ top 2 y (1 ∷ 1 ∷ []) ∷ [] → IsLeafPlace F 0 1 Null
null_there F y e =
    rw e
    (record {
      there = (record { state = 1; symbol = NullSymbol; children = [] }, inr (inl refl), refl);
      only = λ x i s. only x i s;
    })
  where
    only : (x : Rule)
        → IsIn x (record { state = 0; symbol = y; children = 1 ∷ 1 ∷ [] }
        ∷ record { state = 1; symbol = NullSymbol; children = [] } ∷ []) → x.state ≡ 1 → x.symbol ≡ NullSymbol
    only x (inl e) s = absurd (let z : 0 ≡ 1 = sym (ap (λ (r : Rule). r.state) e) ∙ s in omega (arith, z))
    only x (inr (inl e)) s = ap (λ (r : Rule). r.symbol) e
    only x (inr (inr z)) s = absurd z

slot_is_shown : IsPlainAt structs linked 0 1
slot_is_shown =
    record {
      root = omega arith;
      top = one_top (Cell 0 (Known 4 ∷ []) (Link 0 ∷ Field 1 ∷ [])) (1 ∷ 1 ∷ []);
      leaf = λ p e. (
        Null,
        subst (λ (n : ℕ). IsLeafPlace linked 0 n Null) (same_Some 1 p e)
            (null_there linked (Cell 0 (Known 4 ∷ []) (Link 0 ∷ Field 1 ∷ [])) refl),
      );
      lacks = λ e. absurd (none-some 1 (sym e));
    }

covered_is_not : IsPlainAt structs linked 0 0 → ⊥
covered_is_not h = none-some 1 (sym (h.lacks refl))

no_such_field_is_shown : IsPlainAt structs two 1 0
no_such_field_is_shown =
    record {
      root = omega arith;
      top = one_top (Cell 1 [] []) [];
      leaf = λ p e. absurd (none-some p e);
      lacks = λ e. refl;
    }
