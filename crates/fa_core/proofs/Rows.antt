-- Worked values of the definitions: orders, facts, members, signatures, filled cells, kinds of roots, walks, parts.
use Rattle.std.proofs.Common.{◌≡◌, inl, inr, ℕ, zero, suc, Bool, true, false, true≢false, List, [], ◌∷◌, map, refl, sym}
use Rattle.std.proofs.Common.{ap, length, Option, Some, None, arith}
use Rattle.std.proofs.lemmas.Option.{none-some}
use Rattle.fore_base.specs.declared.shape.FieldDef.{FieldDef}
use Rattle.fore_base.specs.declared.shape.FieldKind.TheVariants.{Pointer, Datum as DatumField}
use Rattle.fore_base.specs.declared.shape.Shape.{Shape}
use Rattle.fore_base.specs.declared.store.CellRec.{CellRec}
use Rattle.fore_base.specs.declared.store.Datum.TheVariants.{Undefined, Known}
use Rattle.fore_base.specs.declared.store.Value.{Value}
use Rattle.fore_base.specs.declared.store.Value.TheVariants.{Null as NullValue, Dangling as DanglingValue}
use Rattle.fore_base.specs.declared.store.Value.TheVariants.{Cell as CellValue}
use Rattle.ta_core.specs.declared.symbol.Slot.{Slot}
use Rattle.ta_core.specs.declared.symbol.Slot.TheVariants.{Field, Link, Hook}
use Rattle.ta_core.specs.declared.symbol.Symbol.{Symbol}
use Rattle.ta_core.specs.declared.symbol.Symbol.TheVariants.{Null, Uninit, Dangling, Ref, Cell}
use Rattle.ta_core.specs.declared.tree.Tree.{Tree, Tree-F, roll-Tree, fold-roll-Tree}
use Rattle.fa_core.specs.declared.faces.BoxFace.{BoxFace}
use Rattle.fa_core.specs.declared.faces.Face.{Face}
use Rattle.fa_core.specs.declared.forest.Target.TheVariants.{Null as NullTarget, Dangling as DanglingTarget, At}
use Rattle.fa_core.specs.declared.signature.RefMark.{RefMark}
use Rattle.fa_core.specs.Canonical.{IsShared, Walks, ended, old, new, again, var_roots}
use Rattle.fa_core.specs.Dressed.{Nodes, node, no_parts, field, link, hook, under, leaf, no_nodes, more, Head, Points}
use Rattle.fa_core.specs.Dressed.{facts, cells, all_refs}
use Rattle.fa_core.specs.Filled.{Spot, IsFilledSpot, SymbolFits, fields_of}
use Rattle.fa_core.specs.Folding.{position, number_without, taken_at, Placing, all_placed, is_placed, place_now}
use Rattle.fa_core.specs.Member.{HasItsFields, cell_facts}
use Rattle.fa_core.specs.Rearranged.{Rearranged, keep, swap, empty, in_order, often, IsRising}
use Rattle.fa_core.specs.Ways.{Way, ways, ways_at, once, signature}
use Rattle.fa_core.proofs.Rearranging.{long_same}

-- Orders.

sorted : in_order (3 ∷ 1 ∷ 2 ∷ 1 ∷ []) ≡ 1 ∷ 1 ∷ 2 ∷ 3 ∷ []
sorted = refl

counted_often : often 1 (3 ∷ 1 ∷ 2 ∷ 1 ∷ []) ≡ 2
counted_often = refl

first_visits : once (2 ∷ 0 ∷ 2 ∷ 1 ∷ 0 ∷ []) ≡ 2 ∷ 0 ∷ 1 ∷ []
first_visits = refl

other_order : Rearranged {X = ℕ} (1 ∷ 2 ∷ []) (2 ∷ 1 ∷ [])
other_order = swap 1 2 []

equal_is_not_rising : IsRising (1 ∷ 1 ∷ []) → ⊥
equal_is_not_rising h = omega (arith, h.0)

-- Facts.

-- two list cells, the second in the first one's tree, back to the first
abbrev ring : Nodes
ring = more (node 7 0 [] (field 0 (under (node 4 0 [] (field 0 (leaf (At 0)) no_parts))) no_parts)) no_nodes

ring_facts : facts ring ≡ Head 7 0 [] ∷ Points 7 0 (CellValue 4) ∷ Head 4 0 [] ∷ Points 4 0 (CellValue 7) ∷ []
ring_facts = refl

-- the same two cells as two trees: other trees, the same cells
abbrev parted : Nodes
parted = more (node 7 0 [] (field 0 (leaf (At 1)) no_parts))
    (more (node 4 0 [] (field 0 (leaf (At 0)) no_parts)) no_nodes)

same_cells : cells parted ≡ cells ring
same_cells = refl

parted_refs : all_refs parted ≡ 1 ∷ 0 ∷ []
parted_refs = refl

-- an edge whose inside has one field at each port: the ports are the cells outside, and have no heads
abbrev edge : Nodes
edge =
    more
    (node 7 0 []
    (link 0
    (more (node 1 0 [] (field 0 (leaf (At 1)) no_parts)) (more (node 2 0 [] (field 1 (leaf (At 0)) no_parts)) no_nodes))
    (leaf (At 1)) no_parts)) (more (node 4 0 [] no_parts) no_nodes)

edge_facts : facts edge ≡ Head 7 0 [] ∷ Points 7 0 (CellValue 4) ∷ Points 4 1 (CellValue 7) ∷ Head 4 0 [] ∷ []
edge_facts = refl

-- an edge that ends in Dangling: its output has no facts, and a reference to the output is Dangling
abbrev open_edge : Nodes
open_edge =
    more
    (node 7 0 []
    (link 0
    (more (node 1 0 [] (field 0 (leaf (At 1)) no_parts)) (more (node 2 0 [] (field 1 (leaf (At 0)) no_parts)) no_nodes))
    (leaf DanglingTarget) no_parts)) no_nodes

open_edge_facts : facts open_edge ≡ Head 7 0 [] ∷ Points 7 0 DanglingValue ∷ []
open_edge_facts = refl

-- a box edge without an end, with an inner root: a ring of two cells
abbrev hooked : Nodes
hooked =
    more
    (node 7 0 []
    (hook 1
    (more (node 1 0 [] (field 0 (leaf (At 1)) no_parts)) (more (node 4 0 [] (field 0 (leaf (At 0)) no_parts)) no_nodes))
    no_parts)) no_nodes

hooked_facts : facts hooked ≡ Head 7 0 [] ∷ Points 7 0 (CellValue 4) ∷ Head 4 0 [] ∷ Points 4 0 (CellValue 7) ∷ []
hooked_facts = refl

-- Structs: the first has pointer field 0 to itself, a data field, and pointer field 1 to itself; the second one pointer
-- to itself.

abbrev pointer_to : ℕ → FieldDef
pointer_to s = record { name = []; kind = Pointer s }

abbrev datum_field : FieldDef
datum_field = record { name = []; kind = DatumField }

abbrev structs : List Shape
structs = record { name = []; fields = pointer_to 0 ∷ datum_field ∷ pointer_to 0 ∷ [] }
    ∷ record { name = []; fields = pointer_to 1 ∷ [] } ∷ []

two_fields : fields_of structs 0 ≡ 0 ∷ 1 ∷ []
two_fields = refl

-- Members: the fields of a cell are those of its struct, and no more.

abbrev with_fields : List Value → CellRec
with_fields vs = record { number = 7; shape = 0; datums = Known 3 ∷ []; fields = vs }

cell_has_facts : cell_facts (with_fields (CellValue 4 ∷ NullValue ∷ [])) ≡ Head 7 0 (Known 3 ∷ [])
    ∷ Points 7 0 (CellValue 4) ∷ Points 7 1 NullValue ∷ []
cell_has_facts = refl

has_its_fields : HasItsFields structs (with_fields (CellValue 4 ∷ NullValue ∷ []))
has_its_fields = refl

has_one_more : HasItsFields structs (with_fields (CellValue 4 ∷ NullValue ∷ NullValue ∷ [])) → ⊥
has_one_more h = omega (arith, h)

-- Filled cells. Box 0 leads from field 0 of the first struct to its field 1, box 1 has no output, box 2 covers nothing.

abbrev boxes : List BoxFace
boxes = record { input = 0; output = Some 0; gives_in = 0 ∷ []; gives_out = 1 ∷ []; back = true }
    ∷ record { input = 0; output = None; gives_in = 0 ∷ []; gives_out = []; back = false }
    ∷ record { input = 0; output = Some 0; gives_in = []; gives_out = []; back = false } ∷ []

abbrev face : Face
face = record { shapes = record { structs = structs }; boxes = boxes }

-- root 0 is of the first struct, root 1 of the second
abbrev tops : List ℕ
tops = 0 ∷ 1 ∷ []

abbrev spot : ℕ → List Slot → List Symbol → List ℕ → Spot
spot s ss ys fs = record { shape = s; slots = ss; ends = ys; given = fs }

filled_fields : IsFilledSpot face tops (spot 0 (Field 0 ∷ Field 1 ∷ []) (Ref 0 ∷ Null ∷ []) [])
filled_fields =
    record {
      ends = ((0, refl, refl), ((0, refl, tt), tt));
      order = ((tt, (tt, tt)), (omega arith, tt));
      once = keep 0 (keep 1 empty);
    }

-- an edge covers field 0, and the edge above gives field 1
filled_edge : IsFilledSpot face tops (spot 0 (Link 0 ∷ []) (Ref 0 ∷ []) (1 ∷ []))
filled_edge =
    record { ends = ((_, 0, refl, refl, refl, inl refl), tt); order = ((tt, tt), tt); once = keep 0 (keep 1 empty) }

filled_hook : IsFilledSpot face tops (spot 0 (Hook 1 ∷ Field 1 ∷ []) (Uninit ∷ []) [])
filled_hook =
    record {
      ends = ((_, refl, refl, refl), ((0, refl, tt), tt));
      order = ((tt, (tt, tt)), (omega arith, tt));
      once = keep 0 (keep 1 empty);
    }

given_twice : IsFilledSpot face tops (spot 0 (Field 0 ∷ Field 1 ∷ []) (Ref 0 ∷ Null ∷ []) (1 ∷ [])) → ⊥
given_twice h = let e = long_same h.once in omega (arith, e)

never_given : IsFilledSpot face tops (spot 0 (Field 0 ∷ []) (Ref 0 ∷ []) []) → ⊥
never_given h = let e = long_same h.once in omega (arith, e)

out_of_order : IsFilledSpot face tops (spot 0 (Field 1 ∷ Field 0 ∷ []) (Null ∷ Null ∷ []) []) → ⊥
out_of_order h = let l = h.order.1.0 in omega (arith, l)

covers_nothing : IsFilledSpot face tops (spot 0 (Link 2 ∷ []) (Ref 0 ∷ []) (0 ∷ 1 ∷ [])) → ⊥
covers_nothing h = h.order.0.0

abbrev said : Option ℕ → ℕ
said None = 9
said (Some n) = n

names_another_struct : IsFilledSpot face tops (spot 0 (Field 0 ∷ Field 1 ∷ []) (Ref 1 ∷ Null ∷ []) []) → ⊥
names_another_struct h = let e : 0 ≡ h.ends.0.0 = ap said h.ends.0.1 in let f : 1 ≡ h.ends.0.0 = ap said h.ends.0.2 in
    omega (arith, e, f)

names_no_root : IsFilledSpot face tops (spot 0 (Field 0 ∷ Field 1 ∷ []) (Ref 2 ∷ Null ∷ []) []) → ⊥
names_no_root h = none-some h.ends.0.0 h.ends.0.2

holds_another_struct : IsFilledSpot face tops (spot 0 (Field 0 ∷ Field 1 ∷ []) (Cell 1 [] [] ∷ Null ∷ []) []) → ⊥
holds_another_struct h = let e : 0 ≡ h.ends.0.0 = ap said h.ends.0.1 in let f = h.ends.0.2 in omega (arith, e, f)

-- box 0 gives its output field 1, so it may not end in Dangling, nor in Null
ends_in_dangling : IsFilledSpot face tops (spot 0 (Link 0 ∷ Field 1 ∷ []) (Dangling ∷ Null ∷ []) []) → ⊥
ends_in_dangling h = elim h.ends.0.5 [ inl n ↦ n | inr d ↦ gives d.1 ]
  where
    sizes : BoxFace → ℕ
    sizes x = length x.gives_out

    gives : h.ends.0.0.gives_out ≡ [] → ⊥
    gives e = let a : length h.ends.0.0.gives_out ≡ 0 = ap (λ (xs : List ℕ). length xs) e in
        let b : 1 ≡ sizes h.ends.0.0 = ap (λ (o : Option BoxFace). sizes_in o) h.ends.0.2 in omega (arith, a, b)
      where
        sizes_in : Option BoxFace → ℕ
        sizes_in None = 9
        sizes_in (Some x) = sizes x

-- Symbols of rules.

fits : SymbolFits face (Cell 0 (Known 15 ∷ []) (Link 0 ∷ Hook 1 ∷ Field 1 ∷ []))
fits = (omega arith, refl, (omega arith, tt), (refl, (refl, (refl, tt))))

data_too_short : SymbolFits face (Cell 0 [] (Field 0 ∷ Field 1 ∷ [])) → ⊥
data_too_short h = let e = h.1 in omega (arith, e)

datum_of_16 : SymbolFits face (Cell 0 (Known 16 ∷ []) (Field 0 ∷ Field 1 ∷ [])) → ⊥
datum_of_16 h = let l = h.2.0 in omega (arith, l)

-- the second pointer field is field 1, and there is no field 2
no_field_2 : SymbolFits face (Cell 0 (Undefined ∷ []) (Field 2 ∷ [])) → ⊥
no_field_2 h = true≢false (sym h.3.0)

no_such_struct : SymbolFits face (Cell 2 [] []) → ⊥
no_such_struct h = let l = h.0 in omega (arith, l)

hook_with_output : SymbolFits face (Cell 0 (Undefined ∷ []) (Hook 0 ∷ [])) → ⊥
hook_with_output h = true≢false h.3.0

link_without_output : SymbolFits face (Cell 0 (Undefined ∷ []) (Link 1 ∷ [])) → ⊥
link_without_output h = true≢false (sym h.3.0)

-- Signatures.

abbrev ref : ℕ → Tree
ref r = roll-Tree (record { symbol = Ref r; children = [] })

abbrev cell : List Slot → List Tree → Tree
cell ss ts = roll-Tree (record { symbol = Cell 0 [] ss; children = ts })

opened : (x : Tree-F Tree) → ways (roll-Tree x) ≡ ways_at x.symbol (map ways x.children)
opened x = fold-roll-Tree (List Way) (λ t. ways_at t.symbol t.children) x

abbrev marked : ℕ → Bool → List ℕ → Bool → List ℕ → RefMark
marked r many provided back reach = record { root = r; many = many; provided = provided; back = back; reach = reach }

-- a leaf alone provides nothing and does not lead back
leaf_alone : signature boxes (ref 2) ≡ marked 2 false [] false [] ∷ []
leaf_alone = simp opened

-- an edge that leads back: its end is provided, and the way back leads to the roots below the cell
one_edge : signature boxes (cell (Link 0 ∷ []) (ref 2 ∷ [])) ≡ marked 2 false (1 ∷ []) true (2 ∷ []) ∷ []
one_edge = simp opened

-- two such edges, one below the other, and a field beside them: the highest cell is the top
two_edges : signature boxes (cell (Field 2 ∷ Link 0 ∷ []) (ref 3 ∷ cell (Link 0 ∷ []) (ref 2 ∷ []) ∷ []))
    ≡ marked 3 false [] false [] ∷ marked 2 false (1 ∷ []) true (3 ∷ 2 ∷ []) ∷ []
two_edges = simp opened

-- a field above the edge: the highest cell is the one below it
below_field : signature boxes (cell (Field 2 ∷ Field 0 ∷ []) (ref 3 ∷ cell (Link 0 ∷ []) (ref 2 ∷ []) ∷ []))
    ≡ marked 3 false [] false [] ∷ marked 2 false (1 ∷ []) false (2 ∷ []) ∷ []
below_field = simp opened

-- two references to one root, one of them by an edge
twice : signature boxes (cell (Link 0 ∷ Field 2 ∷ []) (ref 2 ∷ ref 2 ∷ [])) ≡ marked 2 true (1 ∷ []) true (2 ∷ []) ∷ []
twice = simp opened

-- an edge of a box that does not lead back
not_back : signature boxes (cell (Link 2 ∷ Field 1 ∷ []) (ref 2 ∷ ref 0 ∷ [])) ≡ marked 2 false [] false []
    ∷ marked 0 false [] false [] ∷ []
not_back = simp opened

-- the provided fields stand in rising order, whichever edge comes first
abbrev givers : List BoxFace
givers = record { input = 0; output = Some 0; gives_in = 0 ∷ []; gives_out = 4 ∷ []; back = false }
    ∷ record { input = 0; output = Some 0; gives_in = 1 ∷ []; gives_out = 3 ∷ []; back = false } ∷ []

in_rising_order : signature givers (cell (Link 0 ∷ Link 1 ∷ []) (ref 2 ∷ ref 2 ∷ []))
    ≡ marked 2 true (3 ∷ 4 ∷ []) false [] ∷ []
in_rising_order = simp opened

-- Roots and walks.

-- a variable alone makes a root shared; so do two references, and one does not
abbrev two_refs : Tree
two_refs = cell (Field 0 ∷ Field 1 ∷ []) (ref 1 ∷ ref 1 ∷ [])

two_ways : length (ways two_refs) ≡ 2
two_ways = simp opened

by_variable : IsShared (NullTarget ∷ At 1 ∷ []) [] 1
by_variable = inl (inr (inl refl))

-- root 0 refers to roots 1 and 2, and root 1 to root 2; a variable is at root 0
abbrev refers : ℕ → List ℕ
refers zero = 1 ∷ 2 ∷ []
refers (suc zero) = 2 ∷ []
refers (suc (suc k)) = []

walk : Walks refers (λ k. ⊥) (var_roots (NullTarget ∷ At 0 ∷ [])) 0 3
walk = new (new (new (old (omega arith) ended)))

abbrev first : List ℕ → ℕ
first [] = 9
first (x ∷ xs) = x

-- with the variable at root 1 the roots stand in another order
other_walk : (k n : ℕ) (todo : List ℕ) → k ≡ 0 → todo ≡ 1 ∷ [] → Walks refers (λ k. ⊥) todo k n → ⊥
other_walk k n todo a e ended = let f = ap first e in omega (arith, f)
other_walk k n todo a e (old l w) = omega (arith, a, l)
other_walk k n todo a e (new w) = let f = ap first e in omega (arith, a, f)
other_walk k n todo a e (again l h w) = h

-- Parts and folds.

-- the inner roots from the taken fields of roots 0 and 1, in order of first visit: 3 and then 2
abbrev part_refers : ℕ → List ℕ
part_refers zero = []
part_refers (suc zero) = []
part_refers (suc (suc zero)) = 0 ∷ []
part_refers (suc (suc (suc k))) = 2 ∷ 1 ∷ []

inner_roots : Placing part_refers (1 ∷ 3 ∷ []) (0 ∷ 1 ∷ []) (0 ∷ 1 ∷ 3 ∷ 2 ∷ [])
inner_roots = is_placed (inr (inl refl))
    (place_now (λ i. elim i [ inl e ↦ omega (arith, e) | inr j ↦ elim j [ inl e ↦ omega (arith, e) | inr x ↦ x ] ])
    (place_now
    (λ i.
    elim i [
      | inl e ↦ omega (arith, e)
      | inr j ↦ elim j
          [ inl e ↦ omega (arith, e) | inr k ↦ elim k [ inl e ↦ omega (arith, e) | inr x ↦ x ] ]
    ])
    (is_placed (inl refl) (is_placed (inr (inl refl)) all_placed))))

-- a root that is both ports has the first number
both_ports : position (4 ∷ 4 ∷ 5 ∷ []) 4 ≡ 0
both_ports = refl

inner_number : position (4 ∷ 4 ∷ 5 ∷ []) 5 ≡ 2
inner_number = refl

taken_at_both : taken_at ((4, 0 ∷ []) ∷ (4, 1 ∷ []) ∷ []) 4 ≡ 0 ∷ 1 ∷ []
taken_at_both = refl

moved_down : number_without (1 ∷ 3 ∷ []) 4 ≡ 2
moved_down = refl
