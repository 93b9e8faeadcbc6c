-- A worked part and its fold whose inner root stands before the roots that stay, between ports of different structs, in
-- a box that has more trees than the part.
use Rattle.std.proofs.Common.{◌≡◌, ◌<◌, inl, inr, ℕ, zero, suc, false, List, [], ◌∷◌, ◌++◌, refl, ap, subst, Some}
use Rattle.std.proofs.Common.{slice_get, arith}
use Rattle.std.proofs.lemmas.Bool.{ne_eqb}
use Rattle.std.proofs.lemmas.Option.{none-some, same_Some}
use Rattle.fore_base.specs.Lists.{IsIn, IsDistinct, Every}
use Rattle.fore_base.specs.declared.store.Datum.TheVariants.{Known}
use Rattle.ta_core.specs.Auto.{Automaton}
use Rattle.ta_core.specs.Language.{InLanguage, IsWithin}
use Rattle.ta_core.specs.declared.symbol.Slot.{Slot}
use Rattle.ta_core.specs.declared.symbol.Slot.TheVariants.{Field, Link}
use Rattle.ta_core.specs.declared.symbol.Symbol.{Symbol}
use Rattle.ta_core.specs.declared.symbol.Symbol.TheVariants.{Null, Uninit, Ref, Cell}
use Rattle.ta_core.specs.declared.tree.Tree.{Tree, out-roll-Tree}
use Rattle.fa_core.specs.declared.boxes.BoxDef.{BoxDef}
use Rattle.fa_core.specs.declared.faces.BoxFace.{BoxFace}
use Rattle.fa_core.specs.declared.forest.Forest.{Forest}
use Rattle.fa_core.specs.declared.forest.Target.TheVariants.{Null as NullTarget, At}
use Rattle.fa_core.specs.Canonical.{refs_at}
use Rattle.fa_core.specs.Dressed.{Node, node, no_parts, field, link, leaf, no_nodes}
use Rattle.fa_core.specs.Filled.{Choice}
use Rattle.fa_core.specs.Folding.{covered_fields, top_places, Placing, all_placed, is_placed, place_now, position}
use Rattle.fa_core.specs.Folding.{Ports, port_refs}
use Rattle.fa_core.specs.Folding.{left_refs, ArePartRoots, port_tree, moved_tree, IsPart, number_without, box_slot}
use Rattle.fa_core.specs.Folding.{gained}
use Rattle.fa_core.specs.Folding.{taken_at, IsFoldedAuto, FoldOf}
use Rattle.fa_core.specs.Member.{bare}
use Rattle.fa_core.proofs.Dressing.{cell_top}
use Rattle.fa_core.proofs.NodeRuns.{node_bare}
use Rattle.fa_core.proofs.Rearranging.{same}
use Rattle.fa_core.proofs.RowsBack.{opened}
use Rattle.fa_core.proofs.RowsCanonical.{rule}
use Rattle.fa_core.proofs.RowsFolds.{single_language}
use Rattle.fa_core.proofs.SingleTrees.{IsSingle, single_tree, single_choice}
use Rattle.fa_core_rows.proofs.HookFolds.{no_var, leaf_tree, ref_refs, null_refs}
use Rattle.fa_core_rows.proofs.Singles.{over, over_single, over_top, over_runs, to_ref, to_null, moved_rolled}
use Rattle.fa_core_rows.proofs.Singles.{single_fields, single_folded}

-- Items have next and prev, heads a datum and first. Root 0 is an item between the item of root 1, which is its next
-- and whose prev it is, and the head of root 2, whose first it is. Variables are at roots 1 and 2.

abbrev item : List Slot → Symbol
item ss = Cell 0 [] ss

abbrev both : List Slot
both = Field 0 ∷ Field 1 ∷ []

abbrev head : Symbol
head = Cell 1 (Known 3 ∷ []) (Field 0 ∷ [])

abbrev inner_auto : Automaton
inner_auto = over (item both) (1 ∷ 2 ∷ []) 1

abbrev out_auto : Automaton
out_auto = over (item both) (2 ∷ 1 ∷ []) 0

abbrev head_auto : Automaton
head_auto = over head (1 ∷ []) 0

abbrev inner_node : Node
inner_node = node 0 0 [] (field 0 (leaf (At 1)) (field 1 (leaf NullTarget) no_parts))

abbrev out_node : Node
out_node = node 1 0 [] (field 0 (leaf NullTarget) (field 1 (leaf (At 0)) no_parts))

abbrev head_node : Node
head_node = node 2 1 (Known 3 ∷ []) (field 0 (leaf (At 0)) no_parts)

abbrev autos : List Automaton
autos = inner_auto ∷ out_auto ∷ head_auto ∷ []

abbrev three : Forest
three = record { autos = autos; vars = At 1 ∷ At 2 ∷ []; data_vars = [] }

inner_runs : InLanguage inner_auto (bare inner_node)
inner_runs = over_runs 0 0 [] (field 0 (leaf (At 1)) (field 1 (leaf NullTarget) no_parts)) (1 ∷ 2 ∷ []) 1
    (to_ref (item both) (1 ∷ 2 ∷ []) 1, (to_null (item both) (1 ∷ 2 ∷ []) 1, tt))

out_runs : InLanguage out_auto (bare out_node)
out_runs = over_runs 1 0 [] (field 0 (leaf NullTarget) (field 1 (leaf (At 0)) no_parts)) (2 ∷ 1 ∷ []) 0
    (to_null (item both) (2 ∷ 1 ∷ []) 0, (to_ref (item both) (2 ∷ 1 ∷ []) 0, tt))

head_runs : InLanguage head_auto (bare head_node)
head_runs = over_runs 2 1 (Known 3 ∷ []) (field 0 (leaf (At 0)) no_parts) (1 ∷ []) 0 (to_ref head (1 ∷ []) 0, tt)

abbrev trees : List Tree
trees = bare inner_node ∷ bare out_node ∷ bare head_node ∷ []

singles : Every IsSingle autos
singles = (over_single _ _ _, (over_single _ _ _, (over_single _ _ _, tt)))

choice : Choice autos trees
choice = (inner_runs, (out_runs, (head_runs, tt)))

-- The box: its inner root's prev is null or uninitialised.

abbrev face : BoxFace
face = record { input = 1; output = Some 0; gives_in = 0 ∷ []; gives_out = 1 ∷ []; back = false }

abbrev bs : List BoxFace
bs = face ∷ []

abbrev in_port : Automaton
in_port = over (Cell 1 [] (Field 0 ∷ [])) (1 ∷ []) 2

abbrev out_port : Automaton
out_port = over (item (Field 1 ∷ [])) (1 ∷ []) 2

abbrev in_node : Node
in_node = node 0 1 [] (field 0 (leaf (At 2)) no_parts)

abbrev prev_node : Node
prev_node = node 1 0 [] (field 1 (leaf (At 2)) no_parts)

abbrev wide : Automaton
wide = record {
  states = 3;
  roots = 0 ∷ [];
  rules = rule 0 (item both) (1 ∷ 2 ∷ []) ∷ rule 1 (Ref 1) [] ∷ rule 2 Null [] ∷ rule 2 Uninit [] ∷ [];
}

abbrev segment : List Automaton → BoxDef
segment last = record {
  name = 115 ∷ [];
  face = face;
  inside = record { autos = in_port ∷ out_port ∷ last; vars = []; data_vars = [] };
}

abbrev box : BoxDef
box = segment (wide ∷ [])

-- the part: the same ports, and the inner root with its own reference, to the output
abbrev part : BoxDef
part = segment (inner_auto ∷ [])

in_runs : InLanguage in_port (bare in_node)
in_runs = over_runs 0 1 [] (field 0 (leaf (At 2)) no_parts) (1 ∷ []) 2
    (to_ref (Cell 1 [] (Field 0 ∷ [])) (1 ∷ []) 2, tt)

prev_runs : InLanguage out_port (bare prev_node)
prev_runs = over_runs 1 0 [] (field 1 (leaf (At 2)) no_parts) (1 ∷ []) 2 (to_ref (item (Field 1 ∷ [])) (1 ∷ []) 2, tt)

in_fields : covered_fields bs (bare in_node) ≡ 0 ∷ []
in_fields = let e = cell_top 0 1 [] (field 0 (leaf (At 2)) no_parts) in rw e refl

prev_fields : covered_fields bs (bare prev_node) ≡ 1 ∷ []
prev_fields = let e = cell_top 1 0 [] (field 1 (leaf (At 2)) no_parts) in rw e refl

-- The part's roots.

abbrev ports : Ports
ports = (2, 0 ∷ []) ∷ (1, 1 ∷ []) ∷ []

-- references go to the places in the part: the head's, the item's, the inner root's
abbrev places : ℕ → ℕ
places = position (2 ∷ 1 ∷ 0 ∷ [])

inner_places : top_places (bare inner_node) ≡ (Field 0, leaf_tree (Ref 1) ∷ []) ∷ (Field 1, leaf_tree Null ∷ []) ∷ []
inner_places =
    let e = out-roll-Tree (record { symbol = item both; children = leaf_tree (Ref 1) ∷ leaf_tree Null ∷ [] }) in
    rw e refl

out_places : top_places (bare out_node) ≡ (Field 0, leaf_tree Null ∷ []) ∷ (Field 1, leaf_tree (Ref 0) ∷ []) ∷ []
out_places =
    let e = out-roll-Tree (record { symbol = item both; children = leaf_tree Null ∷ leaf_tree (Ref 0) ∷ [] }) in
    rw e refl

head_places : top_places (bare head_node) ≡ (Field 0, leaf_tree (Ref 0) ∷ []) ∷ []
head_places = let e = out-roll-Tree (record { symbol = head; children = leaf_tree (Ref 0) ∷ [] }) in rw e refl

from_ports : port_refs trees ports ≡ 0 ∷ 0 ∷ []
from_ports = let a = head_places in let b = out_places in let c = ref_refs 0 in rw (a, b, c) refl

inner_refs : refs_at trees 0 ≡ 1 ∷ []
inner_refs = simp opened

left_of_out : left_refs trees ports 1 ≡ []
left_of_out = let a = out_places in let b = null_refs in rw (a, b) refl

left_of_head : left_refs trees ports 2 ≡ []
left_of_head = let a = head_places in rw a refl

not_a_port : IsIn {X = ℕ} 0 (2 ∷ 1 ∷ []) → ⊥
not_a_port (inl e) = omega (arith, e)
not_a_port (inr (inl e)) = omega (arith, e)
not_a_port (inr (inr x)) = x

part_roots : ArePartRoots (At 1 ∷ At 2 ∷ []) trees ports (0 ∷ [])
part_roots = record {
  order = 2 ∷ 1 ∷ 0 ∷ [];
  reached = walk;
  are = refl;
  no_var = no_var;
  alone = alone;
}
  where
    walk : Placing (refs_at trees) (port_refs trees ports) (2 ∷ 1 ∷ []) (2 ∷ 1 ∷ 0 ∷ [])
    walk =
        let e = from_ports in
        let f = inner_refs in
        let last : Placing (refs_at trees) (refs_at trees 0 ++ 0 ∷ []) (2 ∷ 1 ∷ 0 ∷ []) (2 ∷ 1 ∷ 0 ∷ []) =
        rw f (is_placed (inr (inl refl)) (is_placed (inr (inr (inl refl))) all_placed)) in
        rw e (place_now {r = 0} not_a_port last)

    alone : (r k : ℕ) → IsIn k (0 ∷ []) → (IsIn r (0 ∷ []) → ⊥) → r < 3 → IsIn k (left_refs trees ports r) → ⊥
    alone zero k i o l j = o (inl refl)
    alone (suc zero) k i o l j = let e = left_of_out in rw e at j
    alone (suc (suc zero)) k i o l j = let e = left_of_head in rw e at j
    alone (suc (suc (suc r))) k i o l j = omega (arith, l)

-- The part.

moved_input : port_tree places 1 (0 ∷ []) (bare head_node) ≡ bare in_node
moved_input =
    let e = head_places in
    let m = moved_rolled places (record { symbol = Ref 0; children = [] }) in
    rw (e, m) refl

moved_output : port_tree places 0 (1 ∷ []) (bare out_node) ≡ bare prev_node
moved_output =
    let e = out_places in
    let m = moved_rolled places (record { symbol = Ref 0; children = [] }) in
    rw (e, m) refl

moved_inner : moved_tree places (bare inner_node) ≡ bare inner_node
moved_inner = simp moved_rolled

taken_once : (r : ℕ) → IsDistinct (taken_at ports r)
taken_once zero = tt
taken_once (suc zero) = ((λ i. i), tt)
taken_once (suc (suc zero)) = ((λ i. i), tt)
taken_once (suc (suc (suc r))) =
    let a = ne_eqb 2 (suc (suc (suc r))) (λ e. omega (arith, e)) in
    let b = ne_eqb 1 (suc (suc (suc r))) (λ e. omega (arith, e)) in
    rw (a, b) tt

abbrev is_part : IsPart bs three box 2 (Some 1) part
is_part = record {
  ports = ports;
  shapes = 1 ∷ 0 ∷ [];
  inner = 0 ∷ [];
  are_ports = (
    in_port,
    out_port,
    0 ∷ [],
    1 ∷ [],
    0,
    refl,
    refl,
    single_fields bs in_port (bare in_node) (0 ∷ []) (over_single _ _ _) in_runs in_fields tt,
    single_fields bs out_port (bare prev_node) (1 ∷ []) (over_single _ _ _) prev_runs prev_fields tt,
    refl,
    refl,
    refl,
  );
  roots = (
    record {
      auto = head_auto;
      there = refl;
      one = over_top head (1 ∷ []) 0;
      datums = Known 3 ∷ [];
      slots = Field 0 ∷ [];
      symbol = refl;
      fields = λ f i. (elim i [ inl e ↦ inl (ap Field e) | inr x ↦ absurd x ]);
    },
    (
      record {
        auto = out_auto;
        there = refl;
        one = over_top (item both) (2 ∷ 1 ∷ []) 0;
        datums = [];
        slots = both;
        symbol = refl;
        fields = λ f i. (elim i [ inl e ↦ inr (inl (ap Field e)) | inr x ↦ absurd x ]);
      },
      tt,
    ),
  );
  once = taken_once;
  reached = λ ts c. subst (λ (us : List Tree). ArePartRoots (At 1 ∷ At 2 ∷ []) us ports (0 ∷ []))
      (single_choice autos trees ts singles choice c) part_roots;
  name = refl;
  face = refl;
  no_vars = refl;
  no_data = refl;
  port_autos = in_port ∷ out_port ∷ [];
  inner_autos = inner_auto ∷ [];
  autos = refl;
  at_ports = (
    (
      head_auto,
      refl,
      single_language (port_tree places 1 (0 ∷ [])) head_auto in_port (bare head_node) (bare in_node)
          (over_single _ _ _) (over_single _ _ _) head_runs in_runs moved_input,
    ),
    (
      (
        out_auto,
        refl,
        single_language (port_tree places 0 (1 ∷ [])) out_auto out_port (bare out_node) (bare prev_node)
            (over_single _ _ _) (over_single _ _ _) out_runs prev_runs moved_output,
      ),
      refl,
    ),
  );
  at_inner = (
    (
      inner_auto,
      refl,
      single_language (moved_tree places) inner_auto inner_auto (bare inner_node) (bare inner_node)
          (over_single _ _ _) (over_single _ _ _) inner_runs inner_runs moved_inner,
    ),
    tt,
  );
}

-- The fold: root 0 is taken away, and root 2, which is root 1 then, has the edge to root 1, which is root 0.

abbrev kept_out : Automaton
kept_out = over (item (Field 0 ∷ [])) (2 ∷ []) 0

abbrev kept_head : Automaton
kept_head = over (Cell 1 (Known 3 ∷ []) (Link 0 ∷ [])) (1 ∷ []) 0

abbrev folded : Forest
folded = record { autos = kept_out ∷ kept_head ∷ []; vars = At 0 ∷ At 1 ∷ []; data_vars = [] }

abbrev kept_node : Node
kept_node = node 1 0 [] (field 0 (leaf NullTarget) no_parts)

abbrev edge_node : Node
edge_node = node 2 1 (Known 3 ∷ []) (link 0 no_nodes (leaf (At 0)) no_parts)

kept_runs : InLanguage kept_out (bare kept_node)
kept_runs = over_runs 1 0 [] (field 0 (leaf NullTarget) no_parts) (2 ∷ []) 0
    (to_null (item (Field 0 ∷ [])) (2 ∷ []) 0, tt)

edge_runs : InLanguage kept_head (bare edge_node)
edge_runs = over_runs 2 1 (Known 3 ∷ []) (link 0 no_nodes (leaf (At 0)) no_parts) (1 ∷ []) 0
    (to_ref (Cell 1 (Known 3 ∷ []) (Link 0 ∷ [])) (1 ∷ []) 0, tt)

abbrev numbers : ℕ → ℕ
numbers = number_without (0 ∷ [])

out_folded : IsFoldedAuto bs numbers [] (1 ∷ []) out_auto kept_out
out_folded = single_folded bs numbers [] (1 ∷ []) out_auto kept_out out_node kept_node 0 [] both
    ((Field 0, leaf_tree Null ∷ []) ∷ [])
    (over_single _ _ _) (over_single _ _ _) out_runs kept_runs
    (cell_top 1 0 [] (field 0 (leaf NullTarget) (field 1 (leaf (At 0)) no_parts)))
    (let e = out_places in let m = moved_rolled numbers (record { symbol = Null; children = [] }) in rw (e, m) (same _))
    ((tt, tt), tt) refl

head_folded : IsFoldedAuto bs numbers ((Link 0, leaf_tree (Ref 0) ∷ []) ∷ []) (0 ∷ []) head_auto kept_head
head_folded = single_folded bs numbers ((Link 0, leaf_tree (Ref 0) ∷ []) ∷ [])
    (0 ∷ []) head_auto kept_head head_node edge_node
    1 (Known 3 ∷ []) (Field 0 ∷ []) ((Link 0, leaf_tree (Ref 0) ∷ []) ∷ [])
    (over_single _ _ _) (over_single _ _ _) head_runs edge_runs
    (cell_top 2 1 (Known 3 ∷ []) (field 0 (leaf (At 0)) no_parts))
    (let e = head_places in rw e (same _))
    ((tt, tt), tt) refl

-- the tree of the part is one of the box
wide_runs : InLanguage wide (bare inner_node)
wide_runs = (
  0,
  inl refl,
  node_bare wide.rules 0 inner_node (
    rule 0 (item both) (1 ∷ 2 ∷ []),
    inl refl,
    refl,
    refl,
    (
      (rule 1 (Ref 1) [], inr (inl refl), refl, refl, refl),
      ((rule 2 Null [], inr (inr (inl refl)), refl, refl, refl), tt),
    ),
  ),
)

inner_within : IsWithin inner_auto wide
inner_within t h = subst (λ (u : Tree). InLanguage wide u)
    (single_tree inner_auto (bare inner_node) t (over_single _ _ _) inner_runs h) wide_runs

fold : FoldOf bs (box ∷ []) three folded 0 2 (Some 1) part
fold = record {
  def = box;
  there = refl;
  part = is_part;
  within = ((λ t h. h), ((λ t h. h), (inner_within, tt)));
  vars = refl;
  data_vars = refl;
  count = refl;
  autos = all;
}
  where
    all : (r : ℕ) (a : Automaton) → slice_get autos r ≡ Some a → (IsIn r (0 ∷ []) → ⊥)
        → (c : Automaton) × (slice_get (kept_out ∷ kept_head ∷ []) (numbers r) ≡ Some c)
        × IsFoldedAuto bs numbers (gained (box_slot numbers 0 (Some 1)) 2 r) (taken_at ports r) a c
    all zero a e n = absurd (n (inl refl))
    all (suc zero) a e n = (
      kept_out,
      refl,
      subst (λ (x : Automaton). IsFoldedAuto bs numbers [] (1 ∷ []) x kept_out)
          (same_Some out_auto a e) out_folded,
    )
    all (suc (suc zero)) a e n = (
      kept_head,
      refl,
      subst (λ (x : Automaton). IsFoldedAuto bs numbers ((Link 0, leaf_tree (Ref 0) ∷ []) ∷ []) (0 ∷ []) x kept_head)
          (same_Some head_auto a e) head_folded,
    )
    all (suc (suc (suc r))) a e n = absurd (none-some a e)
