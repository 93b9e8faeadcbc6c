-- Worked values of the words on folds that can be made: a ring of one cell, whose next is the cell itself, folded into
-- an edge without an end.
use Rattle.std.proofs.Common.{◌≡◌, ◌<◌, inl, inr, ℕ, zero, suc, List, [], ◌∷◌, length, refl, sym, ap, subst, Option}
use Rattle.std.proofs.Common.{Some, None, ◌∙◌, slice_get, arith, lit<, lit≤}
use Rattle.std.proofs.lemmas.Bool.{ne_eqb}
use Rattle.std.proofs.lemmas.Option.{none-some, same_Some}
use Rattle.fore_base.specs.Lists.{IsIn, IsDistinct}
use Rattle.ta_core.specs.Auto.{Automaton}
use Rattle.ta_core.specs.declared.symbol.Slot.TheVariants.{Field, Hook}
use Rattle.ta_core.specs.declared.symbol.Slot.{Slot}
use Rattle.ta_core.specs.declared.symbol.Symbol.TheVariants.{Null, Ref}
use Rattle.ta_core.specs.declared.tree.Tree.{Tree}
use Rattle.fa_core.specs.Boxes.{Boxes}
use Rattle.fa_core.specs.Dressed.{no_parts, field, leaf}
use Rattle.fa_core.specs.Folding.{covered_fields, all_placed, is_placed, position, Ports, port_refs, ArePartRoots}
use Rattle.fa_core.specs.Folding.{port_tree, IsPart, IsPartWithin, number_without, box_slot, gained}
use Rattle.fa_core.specs.Folding.{taken_at}
use Rattle.fa_core.specs.Folding.{ArePortFields, ArePortRoots, IsFoldedAuto, FoldOf, symbol_slots}
use Rattle.fa_core.specs.LeastFolds.{OutputUpTo, IsUpTo, CanFold, IsFolded, IsLeastFold, FoldsTo}
use Rattle.fa_core.specs.Member.{bare}
use Rattle.fa_core.specs.declared.boxes.BoxDef.{BoxDef}
use Rattle.fa_core.specs.declared.folds.FoldStep.{FoldStep}
use Rattle.fa_core.specs.declared.forest.Forest.{Forest}
use Rattle.fa_core.specs.declared.forest.Target.TheVariants.{Null as NullTarget, At}
use Rattle.fa_core.proofs.Dressing.{cell_top}
use Rattle.fa_core.proofs.Rearranging.{same}
use Rattle.fa_core.proofs.RowsFolds.{single_language}
use Rattle.fa_core.proofs.RowsHooks.{ring_face}
use Rattle.fa_core.proofs.SingleTrees.{single_choice}
use Rattle.fa_core_rows.proofs.HookFolds.{item, both, bs, next_auto, next_node, next_runs, next_places}
use Rattle.fa_core_rows.proofs.HookFolds.{ref_refs, null_place, hooked, hook_node, hook_runs, back_port, back_node}
use Rattle.fa_core_rows.proofs.HookFolds.{back_runs}
use Rattle.fa_core_rows.proofs.Singles.{over_single, over_top, moved_rolled, single_fields}
use Rattle.fa_core_rows.proofs.Singles.{single_folded, top_is}

-- Folds by box, then input, then output; a fold without output comes first.

no_output_first : OutputUpTo None (Some 0)
no_output_first = tt

no_output_alone : OutputUpTo (Some 0) None → ⊥
no_output_alone h = h

equal_outputs : OutputUpTo (Some 1) (Some 1)
equal_outputs = lit≤ tt

later_output : OutputUpTo (Some 2) (Some 1) → ⊥
later_output h = omega (arith, h)

module _ (part : BoxDef) where
  abbrev fold_at : ℕ → ℕ → Option ℕ → FoldStep
  fold_at b i o = record { box_no = b; input = i; output = o; part = part }

  lower_box : IsUpTo (fold_at 0 5 (Some 5)) 1 0 None
  lower_box = inl (lit< tt)

  lower_input : IsUpTo (fold_at 1 2 (Some 5)) 1 3 None
  lower_input = inr (refl, inl (lit< tt))

  lower_output : IsUpTo (fold_at 1 2 (Some 3)) 1 2 (Some 4)
  lower_output = inr (refl, inr (refl, lit≤ tt))

  higher_output : IsUpTo (fold_at 1 2 (Some 4)) 1 2 (Some 3) → ⊥
  higher_output (inl h) = omega (arith, h)
  higher_output (inr (e, inl h)) = omega (arith, h)
  higher_output (inr (e, inr (f, h))) = omega (arith, h)

  higher_input : IsUpTo (fold_at 1 3 None) 1 2 (Some 4) → ⊥
  higher_input (inl h) = omega (arith, h)
  higher_input (inr (e, inl h)) = omega (arith, h)
  higher_input (inr (e, inr (f, h))) = omega (arith, f)

  higher_box : IsUpTo (fold_at 2 0 None) 1 5 (Some 5) → ⊥
  higher_box (inl h) = omega (arith, h)
  higher_box (inr (e, h)) = omega (arith, e)

-- The part at root 0 is the inside of the box: the input's next is the input.

abbrev ring : Forest
ring = record { autos = next_auto 0 ∷ []; vars = At 0 ∷ []; data_vars = [] }

abbrev trees : List Tree
trees = bare (next_node 0 0) ∷ []

abbrev box : BoxDef
box = record {
  name = 114 ∷ [];
  face = ring_face;
  inside = record { autos = back_port ∷ []; vars = []; data_vars = [] };
}

abbrev ports : Ports
ports = (0, 0 ∷ []) ∷ []

abbrev places : ℕ → ℕ
places = position (0 ∷ [])

from_ports : port_refs trees ports ≡ 0 ∷ []
from_ports = let a = next_places 0 0 in let b = ref_refs 0 in rw (a, b) refl

part_roots : ArePartRoots (At 0 ∷ []) trees ports []
part_roots = record {
  order = 0 ∷ [];
  reached = (let e = from_ports in rw e (is_placed (inl refl) all_placed));
  are = refl;
  no_var = λ r i j. i;
  alone = λ r k i o l j. i;
}

moved_input : port_tree places 0 (0 ∷ []) (bare (next_node 0 0)) ≡ bare back_node
moved_input =
    let e = next_places 0 0 in
    let m = moved_rolled places (record { symbol = Ref 0; children = [] }) in
    rw (e, m) refl

back_fields : covered_fields bs (bare back_node) ≡ 0 ∷ []
back_fields = let e = cell_top 0 0 [] (field 0 (leaf (At 0)) no_parts) in rw e refl

taken_once : (r : ℕ) → IsDistinct (taken_at ports r)
taken_once zero = ((λ i. i), tt)
taken_once (suc r) = let a = ne_eqb 0 (suc r) (λ e. omega (arith, e)) in rw a tt

abbrev is_part : IsPart bs ring box 0 None box
is_part = record {
  ports = ports;
  shapes = 0 ∷ [];
  inner = [];
  are_ports = (
    back_port,
    0 ∷ [],
    refl,
    single_fields bs back_port (bare back_node) (0 ∷ []) (over_single _ _ _) back_runs back_fields tt,
    refl,
    refl,
    refl,
  );
  roots = (
    record {
      auto = next_auto 0;
      there = refl;
      one = over_top (item both) (1 ∷ 2 ∷ []) 0;
      datums = [];
      slots = both;
      symbol = refl;
      fields = λ f i. (elim i [ inl e ↦ inl (ap Field e) | inr x ↦ absurd x ]);
    },
    tt,
  );
  once = taken_once;
  reached = λ ts c. subst (λ (us : List Tree). ArePartRoots (At 0 ∷ []) us ports [])
      (single_choice (next_auto 0 ∷ []) trees ts (over_single _ _ _, tt) (next_runs 0 0, tt) c) part_roots;
  name = refl;
  face = refl;
  no_vars = refl;
  no_data = refl;
  port_autos = back_port ∷ [];
  inner_autos = [];
  autos = refl;
  at_ports = (
    (
      next_auto 0,
      refl,
      single_language (port_tree places 0 (0 ∷ [])) (next_auto 0) back_port (bare (next_node 0 0)) (bare back_node)
          (over_single _ _ _) (over_single _ _ _) (next_runs 0 0) back_runs moved_input,
    ),
    refl,
  );
  at_inner = tt;
}

-- The fold: the root has the Hook in the place of its next.

abbrev folded : Forest
folded = record { autos = hooked ∷ []; vars = At 0 ∷ []; data_vars = [] }

abbrev numbers : ℕ → ℕ
numbers = number_without []

input_folded : IsFoldedAuto bs numbers ((Hook 0, []) ∷ []) (0 ∷ []) (next_auto 0) hooked
input_folded = single_folded bs numbers ((Hook 0, []) ∷ []) (0 ∷ []) (next_auto 0) hooked
    (next_node 0 0) hook_node 0 [] both
    ((Hook 0, []) ∷ null_place 1 ∷ [])
    (over_single _ _ _) (over_single _ _ _) (next_runs 0 0) hook_runs
    (cell_top 0 0 [] (field 0 (leaf (At 0)) (field 1 (leaf NullTarget) no_parts)))
    (let e = next_places 0 0 in
    let m = moved_rolled numbers (record { symbol = Null; children = [] }) in rw (e, m) (same _))
    ((tt, (tt, tt)), (omega arith, tt)) refl

-- over this table, and over that of the box twice
abbrev boxes : List BoxDef → Boxes
boxes defs = record { face = record { shapes = record { structs = [] }; boxes = bs }; defs = defs }

abbrev step : ℕ → FoldStep
step b = record { box_no = b; input = 0; output = None; part = box }

fold_of : FoldOf bs (box ∷ []) ring folded 0 0 None box
fold_of = record {
  def = box;
  there = refl;
  part = is_part;
  within = ((λ t h. h), tt);
  vars = refl;
  data_vars = refl;
  count = refl;
  autos = all;
}
  where
    all : (r : ℕ) (a : Automaton) → slice_get (next_auto 0 ∷ []) r ≡ Some a → (IsIn {X = ℕ} r [] → ⊥)
        → (c : Automaton) × (slice_get (hooked ∷ []) (numbers r) ≡ Some c)
        × IsFoldedAuto bs numbers (gained (box_slot numbers 0 None) 0 r) (taken_at ports r) a c
    all zero a e n = (
      hooked,
      refl,
      subst (λ (x : Automaton). IsFoldedAuto bs numbers ((Hook 0, []) ∷ []) (0 ∷ []) x hooked)
          (same_Some (next_auto 0) a e) input_folded,
    )
    all (suc r) a e n = absurd (none-some a e)

-- What can be folded.

can_fold : CanFold (boxes (box ∷ [])) ring 0 0 None
can_fold = (box, refl, (box, is_part, ((λ t h. h), tt)))

not_folded : IsFolded (boxes (box ∷ [])) ring → ⊥
not_folded h = h 0 0 None can_fold

no_box : CanFold (boxes []) ring 0 0 None → ⊥
no_box h = none-some h.0 h.1

folded_without_boxes : IsFolded (boxes []) ring
folded_without_boxes b i o h = none-some h.0 h.1

-- a part with fewer components than the box is not within it
fewer_components : IsPartWithin box (record box { inside = record ring { autos = back_port ∷ back_port ∷ [] } }) → ⊥
fewer_components h = h.1

-- The fold is the least one, and in its result nothing can be folded: the root's next is no Field slot.

least_fold : IsLeastFold (boxes (box ∷ [])) ring (step 0) folded
least_fold = record { fold = fold_of; can = can_fold; least = λ b i o h. first b i o }
  where
    first : (b i : ℕ) (o : Option ℕ) → IsUpTo (step 0) b i o
    first zero zero o = inr (refl, inr (refl, tt))
    first zero (suc i) o = inr (refl, inl (omega arith))
    first (suc b) i o = inl (omega arith)

not_the_least : (G : Forest) → IsLeastFold (boxes (box ∷ box ∷ [])) ring (step 1) G → ⊥
not_the_least G h = no_later (h.least 0 0 None (box, refl, (box, is_part, ((λ t h. h), tt))))
  where
    no_later : IsUpTo (step 1) 0 0 None → ⊥
    no_later (inl l) = omega (arith, l)
    no_later (inr (e, l)) = omega (arith, e)

no_field : (slots : List Slot) → slots ≡ Hook 0 ∷ Field 1 ∷ [] → IsIn (Field 0) slots → ⊥
no_field slots e i = never (subst (λ (l : List Slot). IsIn (Field 0) l) e i)
  where
    field_of : Slot → ℕ
    field_of (Field f) = f
    field_of s = 9

    never : IsIn (Field 0) (Hook 0 ∷ Field 1 ∷ []) → ⊥
    never (inl k) = omega (arith, ap field_of k)
    never (inr (inl k)) = omega (arith, ap field_of k)
    never (inr (inr k)) = k

is_folded : IsFolded (boxes (box ∷ [])) folded
is_folded (suc b) i o h = none-some h.0 h.1
is_folded zero i (Some j) h = none-some h.2.1.are_ports.4
    (subst (λ (d : BoxDef). d.face.output ≡ Some h.2.1.are_ports.4)
    (sym (same_Some box h.0 h.1)) h.2.1.are_ports.10)
is_folded zero i None h = at_root i (h.2.1.are_ports.1) fields roots
  where
    fields : ArePortFields bs back_port h.2.1.are_ports.1
    fields = subst (λ (a : Automaton). ArePortFields bs a h.2.1.are_ports.1) (sym (same_Some back_port h.2.1.are_ports.0
        (subst (λ (d : BoxDef). slice_get d.inside.autos 0 ≡ Some h.2.1.are_ports.0) (sym (same_Some box h.0 h.1))
        h.2.1.are_ports.2))) h.2.1.are_ports.3

    roots : ArePortRoots (hooked ∷ []) ((i, h.2.1.are_ports.1) ∷ []) (h.0.face.input ∷ [])
    roots = subst (λ (ss : List ℕ). ArePortRoots (hooked ∷ []) ((i, h.2.1.are_ports.1) ∷ []) ss) h.2.1.are_ports.6
        (subst (λ (ps : Ports). ArePortRoots (hooked ∷ []) ps h.2.1.shapes) h.2.1.are_ports.4 h.2.1.roots)

    at_root : (k : ℕ) (ins : List ℕ) → ArePortFields bs back_port ins → ArePortRoots (hooked ∷ []) ((k, ins) ∷ [])
        (h.0.face.input ∷ []) → ⊥
    at_root (suc k) ins f r = none-some r.0.auto r.0.there
    at_root zero ins f r =
        let u = back_fields in
        let i = (f.are 0).1 (bare back_node, back_runs, rw u (inl refl)) in
        let e = top_is (item (Hook 0 ∷ Field 1 ∷ [])) (2 ∷ []) 0 r.0.auto (sym (same_Some hooked r.0.auto r.0.there))
        r.0.one in
        no_field r.0.slots (ap symbol_slots (sym r.0.symbol ∙ e)) (r.0.fields 0 i)

-- One fold leads to the folded forest, and none changes nothing.

one_fold : FoldsTo (boxes (box ∷ [])) ring (step 0 ∷ []) folded
one_fold = (folded, least_fold, refl)

no_fold : FoldsTo (boxes (box ∷ [])) ring [] ring
no_fold = refl

no_fold_changes : FoldsTo (boxes []) ring [] (record ring { vars = [] }) → ⊥
no_fold_changes e = omega (arith, ap (λ (F : Forest). length F.vars) e)
