-- A worked part and its fold into an edge without an end; what forbids a part; a part whose ports are one root.
use Rattle.std.proofs.Common.{◌≡◌, ◌<◌, inl, inr, ℕ, zero, suc, List, [], ◌∷◌, ◌++◌, refl, sym, ◌∙◌, ap, subst}
use Rattle.std.proofs.Common.{Some, None}
use Rattle.std.proofs.Common.{slice_get, arith}
use Rattle.std.proofs.lemmas.Bool.{ne_eqb}
use Rattle.std.proofs.lemmas.Option.{none-some, same_Some}
use Rattle.fore_base.specs.Lists.{IsIn, IsDistinct, Every}
use Rattle.fore_base.proofs.ListLemmas.{in_left, in_right}
use Rattle.fore_base.specs.declared.store.Datum.{Datum}
use Rattle.ta_core.specs.Auto.{Automaton}
use Rattle.ta_core.specs.Language.{InLanguage}
use Rattle.ta_core.specs.declared.symbol.Slot.{Slot}
use Rattle.ta_core.specs.declared.symbol.Slot.TheVariants.{Field, Hook}
use Rattle.ta_core.specs.declared.symbol.Symbol.{Symbol}
use Rattle.ta_core.specs.declared.symbol.Symbol.TheVariants.{Null, Ref, Cell}
use Rattle.ta_core.specs.declared.tree.Tree.{Tree, roll-Tree, out-roll-Tree}
use Rattle.fa_core.specs.declared.boxes.BoxDef.{BoxDef}
use Rattle.fa_core.specs.declared.faces.BoxFace.{BoxFace}
use Rattle.fa_core.specs.declared.forest.Forest.{Forest}
use Rattle.fa_core.specs.declared.forest.Target.{Target}
use Rattle.fa_core.specs.declared.forest.Target.TheVariants.{Null as NullTarget, At}
use Rattle.fa_core.specs.Canonical.{refs_at}
use Rattle.fa_core.specs.Dressed.{Node, node, no_parts, field, hook, leaf, no_nodes}
use Rattle.fa_core.specs.Filled.{Choice}
use Rattle.fa_core.specs.Folding.{covered_fields, top_places, Placing, all_placed, is_placed, place_now, position}
use Rattle.fa_core.specs.Folding.{Ports, port_refs}
use Rattle.fa_core.specs.Folding.{left_refs, ArePartRoots, port_tree, moved_tree, IsPart, number_without, box_slot}
use Rattle.fa_core.specs.Folding.{gained}
use Rattle.fa_core.specs.Folding.{taken_at, ArePortFields, IsFoldedAuto, FoldOf}
use Rattle.fa_core.specs.Member.{bare}
use Rattle.fa_core.specs.References.{tree_refs}
use Rattle.fa_core.proofs.Dressing.{cell_top}
use Rattle.fa_core.proofs.Rearranging.{same}
use Rattle.fa_core.proofs.RowsBack.{opened}
use Rattle.fa_core.proofs.RowsCanonical.{target_root}
use Rattle.fa_core.proofs.RowsFolds.{single_language}
use Rattle.fa_core.proofs.RowsHooks.{ring_face}
use Rattle.fa_core.proofs.SingleTrees.{IsSingle, single_choice}
use Rattle.fa_core_rows.proofs.Singles.{over, over_single, over_top, over_runs, to_ref, to_null, moved_rolled}
use Rattle.fa_core_rows.proofs.Singles.{single_fields, single_folded}

-- Items have next and prev. Roots 0 and 2 are a ring by next, root 1 is apart; variables are at roots 1 and 2.

abbrev pub item : List Slot → Symbol
item ss = Cell 0 [] ss

abbrev pub both : List Slot
both = Field 0 ∷ Field 1 ∷ []

-- an item whose next is root r
abbrev pub next_auto : ℕ → Automaton
next_auto r = over (item both) (1 ∷ 2 ∷ []) r

abbrev pub next_node : ℕ → ℕ → Node
next_node c r = node c 0 [] (field 0 (leaf (At r)) (field 1 (leaf NullTarget) no_parts))

-- an item whose pointers are null
abbrev lone_auto : Automaton
lone_auto = over (item both) (2 ∷ 2 ∷ []) 0

abbrev pub lone_node : Node
lone_node = node 1 0 [] (field 0 (leaf NullTarget) (field 1 (leaf NullTarget) no_parts))

pub next_runs : (c r : ℕ) → InLanguage (next_auto r) (bare (next_node c r))
next_runs c r = over_runs c 0 [] (field 0 (leaf (At r)) (field 1 (leaf NullTarget) no_parts)) (1 ∷ 2 ∷ []) r
    (to_ref (item both) (1 ∷ 2 ∷ []) r, (to_null (item both) (1 ∷ 2 ∷ []) r, tt))

lone_runs : InLanguage lone_auto (bare lone_node)
lone_runs = over_runs 1 0 [] (field 0 (leaf NullTarget) (field 1 (leaf NullTarget) no_parts)) (2 ∷ 2 ∷ []) 0
    (to_null (item both) (2 ∷ 2 ∷ []) 0, (to_null (item both) (2 ∷ 2 ∷ []) 0, tt))

abbrev autos : List Automaton
autos = next_auto 2 ∷ lone_auto ∷ next_auto 0 ∷ []

abbrev ring : Forest
ring = record { autos = autos; vars = At 1 ∷ At 2 ∷ []; data_vars = [] }

abbrev trees : List Tree
trees = bare (next_node 0 2) ∷ bare lone_node ∷ bare (next_node 2 0) ∷ []

singles : Every IsSingle autos
singles = (over_single _ _ _, (over_single _ _ _, (over_single _ _ _, tt)))

choice : Choice autos trees
choice = (next_runs 0 2, (lone_runs, (next_runs 2 0, tt)))

-- The box: the input's next is the inner root, whose next is the input.

abbrev pub bs : List BoxFace
bs = ring_face ∷ []

abbrev in_port : Automaton
in_port = over (item (Field 0 ∷ [])) (1 ∷ []) 1

abbrev in_node : Node
in_node = node 0 0 [] (field 0 (leaf (At 1)) no_parts)

abbrev box : BoxDef
box = record {
  name = 114 ∷ [];
  face = ring_face;
  inside = record { autos = in_port ∷ next_auto 0 ∷ []; vars = []; data_vars = [] };
}

in_runs : InLanguage in_port (bare in_node)
in_runs = over_runs 0 0 [] (field 0 (leaf (At 1)) no_parts) (1 ∷ []) 1 (to_ref (item (Field 0 ∷ [])) (1 ∷ []) 1, tt)

in_fields : covered_fields bs (bare in_node) ≡ 0 ∷ []
in_fields = let e = cell_top 0 0 [] (field 0 (leaf (At 1)) no_parts) in rw e refl

-- The part at root 2 is the box itself: there root 2 is 0, and root 0 is 1.

abbrev ports : Ports
ports = (2, 0 ∷ []) ∷ []

abbrev places : ℕ → ℕ
places = position (2 ∷ 0 ∷ [])

abbrev pub leaf_tree : Symbol → Tree
leaf_tree y = roll-Tree (record { symbol = y; children = [] })

pub next_places : (c r : ℕ) → top_places (bare (next_node c r)) ≡ (Field 0, leaf_tree (Ref r) ∷ []) ∷
    (Field 1, leaf_tree Null ∷ []) ∷ []
next_places c r =
    let e = out-roll-Tree (record { symbol = item both; children = leaf_tree (Ref r) ∷ leaf_tree Null ∷ [] }) in
    rw e refl

lone_places : top_places (bare lone_node) ≡ (Field 0, leaf_tree Null ∷ []) ∷ (Field 1, leaf_tree Null ∷ []) ∷ []
lone_places = let e = out-roll-Tree (record { symbol = item both; children = leaf_tree Null ∷ leaf_tree Null ∷ [] }) in
    rw e refl

pub ref_refs : (r : ℕ) → tree_refs (leaf_tree (Ref r)) ≡ r ∷ []
ref_refs r = let e = opened (record { symbol = Ref r; children = [] }) in rw e refl

pub null_refs : tree_refs (leaf_tree Null) ≡ []
null_refs = let e = opened (record { symbol = Null; children = [] }) in rw e refl

from_ports : port_refs trees ports ≡ 0 ∷ []
from_ports = let a = next_places 2 0 in let b = ref_refs 0 in rw (a, b) refl

inner_refs : refs_at trees 0 ≡ 2 ∷ []
inner_refs = simp opened

left_of_lone : left_refs trees ports 1 ≡ []
left_of_lone = let a = lone_places in let b = null_refs in rw (a, b) refl

left_of_input : left_refs trees ports 2 ≡ []
left_of_input = let a = next_places 2 0 in let b = null_refs in rw (a, b) refl

not_a_port : IsIn {X = ℕ} 0 (2 ∷ []) → ⊥
not_a_port (inl e) = omega (arith, e)
not_a_port (inr x) = x

-- the variables are at the ports
pub no_var : (r : ℕ) → IsIn r (0 ∷ []) → IsIn (At r) (At 1 ∷ At 2 ∷ []) → ⊥
no_var r (inr x) j = x
no_var r (inl e) (inl h) = let z = ap target_root h in omega (arith, e, z)
no_var r (inl e) (inr (inl h)) = let z = ap target_root h in omega (arith, e, z)
no_var r (inl e) (inr (inr x)) = x

part_roots : ArePartRoots (At 1 ∷ At 2 ∷ []) trees ports (0 ∷ [])
part_roots = record { order = 2 ∷ 0 ∷ []; reached = walk; are = refl; no_var = no_var; alone = alone }
  where
    walk : Placing (refs_at trees) (port_refs trees ports) (2 ∷ []) (2 ∷ 0 ∷ [])
    walk =
        let e = from_ports in
        let f = inner_refs in
        let last : Placing (refs_at trees) (refs_at trees 0 ++ []) (2 ∷ 0 ∷ []) (2 ∷ 0 ∷ []) =
        rw f (is_placed (inl refl) all_placed) in
        rw e (place_now {r = 0} not_a_port last)

    alone : (r k : ℕ) → IsIn k (0 ∷ []) → (IsIn r (0 ∷ []) → ⊥) → r < 3 → IsIn k (left_refs trees ports r) → ⊥
    alone zero k i o l j = o (inl refl)
    alone (suc zero) k i o l j = let e = left_of_lone in rw e at j
    alone (suc (suc zero)) k i o l j = let e = left_of_input in rw e at j
    alone (suc (suc (suc r))) k i o l j = omega (arith, l)

moved_input : port_tree places 0 (0 ∷ []) (bare (next_node 2 0)) ≡ bare in_node
moved_input =
    let e = next_places 2 0 in
    let m = moved_rolled places (record { symbol = Ref 0; children = [] }) in
    rw (e, m) refl

moved_inner : moved_tree places (bare (next_node 0 2)) ≡ bare (next_node 0 0)
moved_inner = simp moved_rolled

taken_once : (r : ℕ) → IsDistinct (taken_at ports r)
taken_once zero = tt
taken_once (suc zero) = tt
taken_once (suc (suc zero)) = ((λ i. i), tt)
taken_once (suc (suc (suc r))) = let a = ne_eqb 2 (suc (suc (suc r))) (λ e. omega (arith, e)) in rw a tt

abbrev is_part : IsPart bs ring box 2 None box
is_part = record {
  ports = ports;
  shapes = 0 ∷ [];
  inner = 0 ∷ [];
  are_ports = (
    in_port,
    0 ∷ [],
    refl,
    single_fields bs in_port (bare in_node) (0 ∷ []) (over_single _ _ _) in_runs in_fields tt,
    refl,
    refl,
    refl,
  );
  roots = (
    record {
      auto = next_auto 0;
      there = refl;
      one = over_top (item both) (1 ∷ 2 ∷ []) 0;
      datums = [];
      slots = both;
      symbol = refl;
      fields = λ f i. (elim i [ inl e ↦ inl (ap Field e) | inr x ↦ absurd x ]);
    },
    tt,
  );
  once = taken_once;
  reached = λ ts c. subst (λ (us : List Tree). ArePartRoots (At 1 ∷ At 2 ∷ []) us ports (0 ∷ []))
      (single_choice autos trees ts singles choice c) part_roots;
  name = refl;
  face = refl;
  no_vars = refl;
  no_data = refl;
  port_autos = in_port ∷ [];
  inner_autos = next_auto 0 ∷ [];
  autos = refl;
  at_ports = (
    (
      next_auto 0,
      refl,
      single_language (port_tree places 0 (0 ∷ [])) (next_auto 0) in_port (bare (next_node 2 0)) (bare in_node)
          (over_single _ _ _) (over_single _ _ _) (next_runs 2 0) in_runs moved_input,
    ),
    refl,
  );
  at_inner = (
    (
      next_auto 2,
      refl,
      single_language (moved_tree places) (next_auto 2) (next_auto 0) (bare (next_node 0 2)) (bare (next_node 0 0))
          (over_single _ _ _) (over_single _ _ _) (next_runs 0 2) (next_runs 0 0) moved_inner,
    ),
    tt,
  );
}

-- The fold: root 0 is taken away, and root 2, which is root 1 then, has the Hook in the place of its next.

abbrev pub hooked : Automaton
hooked = over (item (Hook 0 ∷ Field 1 ∷ [])) (2 ∷ []) 0

abbrev pub hook_node : Node
hook_node = node 2 0 [] (hook 0 no_nodes (field 1 (leaf NullTarget) no_parts))

pub hook_runs : InLanguage hooked (bare hook_node)
hook_runs = over_runs 2 0 [] (hook 0 no_nodes (field 1 (leaf NullTarget) no_parts)) (2 ∷ []) 0
    (to_null (item (Hook 0 ∷ Field 1 ∷ [])) (2 ∷ []) 0, tt)

abbrev folded : Forest
folded = record { autos = lone_auto ∷ hooked ∷ []; vars = At 0 ∷ At 1 ∷ []; data_vars = [] }

abbrev numbers : ℕ → ℕ
numbers = number_without (0 ∷ [])

abbrev pub null_place : ℕ → Slot × List Tree
null_place f = (Field f, leaf_tree Null ∷ [])

moved_null : moved_tree numbers (leaf_tree Null) ≡ leaf_tree Null
moved_null = moved_rolled numbers (record { symbol = Null; children = [] })

lone_stays : IsFoldedAuto bs numbers [] [] lone_auto lone_auto
lone_stays = single_folded bs numbers [] [] lone_auto lone_auto lone_node lone_node 0 [] both
    (null_place 0 ∷ null_place 1 ∷ [])
    (over_single _ _ _) (over_single _ _ _) lone_runs lone_runs
    (cell_top 1 0 [] (field 0 (leaf NullTarget) (field 1 (leaf NullTarget) no_parts)))
    (let e = lone_places in let m = moved_null in rw (e, m) (same _))
    ((tt, (tt, tt)), (omega arith, tt)) refl

input_folded : IsFoldedAuto bs numbers ((Hook 0, []) ∷ []) (0 ∷ []) (next_auto 0) hooked
input_folded = single_folded bs numbers ((Hook 0, []) ∷ []) (0 ∷ []) (next_auto 0) hooked
    (next_node 2 0) hook_node 0 [] both
    ((Hook 0, []) ∷ null_place 1 ∷ [])
    (over_single _ _ _) (over_single _ _ _) (next_runs 2 0) hook_runs
    (cell_top 2 0 [] (field 0 (leaf (At 0)) (field 1 (leaf NullTarget) no_parts)))
    (let e = next_places 2 0 in let m = moved_null in rw (e, m) (same _))
    ((tt, (tt, tt)), (omega arith, tt)) refl

fold : FoldOf bs (box ∷ []) ring folded 0 2 None box
fold = record {
  def = box;
  there = refl;
  part = is_part;
  within = ((λ t h. h), ((λ t h. h), tt));
  vars = refl;
  data_vars = refl;
  count = refl;
  autos = all;
}
  where
    all : (r : ℕ) (a : Automaton) → slice_get autos r ≡ Some a → (IsIn r (0 ∷ []) → ⊥)
        → (c : Automaton) × (slice_get (lone_auto ∷ hooked ∷ []) (numbers r) ≡ Some c)
        × IsFoldedAuto bs numbers (gained (box_slot numbers 0 None) 2 r) (taken_at ports r) a c
    all zero a e n = absurd (n (inl refl))
    all (suc zero) a e n = (
      lone_auto,
      refl,
      subst (λ (x : Automaton). IsFoldedAuto bs numbers [] [] x lone_auto)
          (same_Some lone_auto a e) lone_stays,
    )
    all (suc (suc zero)) a e n = (
      hooked,
      refl,
      subst (λ (x : Automaton). IsFoldedAuto bs numbers ((Hook 0, []) ∷ []) (0 ∷ []) x hooked)
          (same_Some (next_auto 0) a e) input_folded,
    )
    all (suc (suc (suc r))) a e n = absurd (none-some a e)

-- What forbids a part.

-- a variable at the inner root
variable_inside : ArePartRoots (At 0 ∷ At 2 ∷ []) trees ports (0 ∷ []) → ⊥
variable_inside h = h.no_var 0 (inl refl) (inl refl)

-- root 1, which is no part of it, refers to the inner root too
abbrev outside : List Tree
outside = bare (next_node 0 2) ∷ bare (next_node 1 0) ∷ bare (next_node 2 0) ∷ []

left_of_other : left_refs outside ports 1 ≡ 0 ∷ []
left_of_other = let a = next_places 1 0 in let b = ref_refs 0 in let c = null_refs in rw (a, b, c) refl

not_inner : IsIn {X = ℕ} 1 (0 ∷ []) → ⊥
not_inner (inl e) = omega (arith, e)
not_inner (inr x) = x

reference_from_outside : ArePartRoots (At 1 ∷ At 2 ∷ []) outside ports (0 ∷ []) → ⊥
reference_from_outside h = let e = left_of_other in h.alone 1 0 (inl refl) not_inner (omega arith) (rw e (inl refl))

-- the part has the box's face
part_has_the_face : (F : Forest) (g : BoxDef) → IsPart bs F box 2 None g → g.face ≡ ring_face
part_has_the_face F g h = h.face

-- and no variables
part_with_a_variable : (F : Forest) (g : BoxDef) (v : Target) → g.inside.vars ≡ v ∷ [] → IsPart bs F box 2 None g → ⊥
part_with_a_variable F g v e h = cc (sym e ∙ h.no_vars)

part_with_data : (F : Forest) (g : BoxDef) (x : Datum) → g.inside.data_vars ≡ x ∷ [] → IsPart bs F box 2 None g → ⊥
part_with_data F g x e h = cc (sym e ∙ h.no_data)

-- Both ports at one root. Each covers next, so there is no part: the field would be taken twice.

abbrev pub back_port : Automaton
back_port = over (item (Field 0 ∷ [])) (1 ∷ []) 0

abbrev pub back_node : Node
back_node = node 0 0 [] (field 0 (leaf (At 0)) no_parts)

pub back_runs : InLanguage back_port (bare back_node)
back_runs = over_runs 0 0 [] (field 0 (leaf (At 0)) no_parts) (1 ∷ []) 0 (to_ref (item (Field 0 ∷ [])) (1 ∷ []) 0, tt)

back_fields : covered_fields [] (bare back_node) ≡ 0 ∷ []
back_fields = let e = cell_top 0 0 [] (field 0 (leaf (At 0)) no_parts) in rw e refl

front_fields : covered_fields [] (bare in_node) ≡ 0 ∷ []
front_fields = let e = cell_top 0 0 [] (field 0 (leaf (At 1)) no_parts) in rw e refl

abbrev twin : BoxDef
twin = record {
  name = 116 ∷ [];
  face = record ring_face { output = Some 0; gives_out = 0 ∷ [] };
  inside = record { autos = in_port ∷ back_port ∷ []; vars = []; data_vars = [] };
}

twice_there : (xs ys : List ℕ) (f : ℕ) → IsIn f xs → IsIn f ys → IsDistinct (xs ++ ys) → ⊥
twice_there [] ys f i j d = i
twice_there (x ∷ xs) ys f (inl e) j d = d.0 (in_right x xs ys (subst (λ (k : ℕ). IsIn k ys) e j))
twice_there (x ∷ xs) ys f (inr i) j d = twice_there xs ys f i j d.1

no_part_at_one_root : (F : Forest) (g : BoxDef) → IsPart [] F twin 0 (Some 0) g → ⊥
no_part_at_one_root F g h = by h.are_ports.0 h.are_ports.1 h.are_ports.2 h.are_ports.3 h.are_ports.5 h.are_ports.6
    h.are_ports.7 h.are_ports.8 h.are_ports.9
  where
    by : (a c : Automaton) (ins outs : List ℕ) → slice_get twin.inside.autos 0 ≡ Some a
        → slice_get twin.inside.autos 1 ≡ Some c
        → ArePortFields [] a ins → ArePortFields [] c outs → h.ports ≡ (0, ins) ∷ ((0, outs) ∷ []) → ⊥
    by a c ins outs ea ec fa fc e =
        let u = front_fields in
        let v = back_fields in
        let i = (fa.are 0).1 (
          bare in_node,
          subst (λ (x : Automaton). InLanguage x (bare in_node)) (same_Some in_port a ea) in_runs,
          rw u (inl refl),
        ) in
        let j = (fc.are 0).1 (
          bare back_node,
          subst (λ (x : Automaton). InLanguage x (bare back_node)) (same_Some back_port c ec) back_runs,
          rw v (inl refl),
        ) in
        let d = subst (λ (ps : Ports). IsDistinct (taken_at ps 0)) e (h.once 0) in
        twice_there ins (outs ++ []) 0 i (in_left 0 outs [] j) d
