-- Worked presentations: a list of two cells and a ring of two, each by its canonical forest and by one that is not.
use Rattle.std.proofs.Common.{◌≡◌, inl, inr, ℕ, zero, suc, ◌<◌, List, [], ◌∷◌, length, refl, sym, ap, subst, ◌∙◌}
use Rattle.std.proofs.Common.{Some}
use Rattle.std.proofs.Common.{slice_get, arith}
use Rattle.std.proofs.lemmas.Option.{none-some, same_Some}
use Rattle.fore_base.specs.Heap.{IsProper}
use Rattle.fore_base.specs.Lists.{IsIn}
use Rattle.fore_base.specs.declared.store.Store.{Store}
use Rattle.fore_base.specs.declared.store.Value.TheVariants.{Null as NullValue, Cell as CellValue}
use Rattle.ta_core.specs.Auto.{Automaton}
use Rattle.ta_core.specs.Language.{InLanguage}
use Rattle.ta_core.specs.Single.{HasOneTop}
use Rattle.ta_core.specs.declared.auto.Rule.{Rule}
use Rattle.ta_core.specs.declared.symbol.Symbol.{Symbol}
use Rattle.ta_core.specs.declared.symbol.Slot.TheVariants.{Field}
use Rattle.ta_core.specs.declared.symbol.Symbol.TheVariants.{Null, Ref, Cell}
use Rattle.ta_core.specs.declared.tree.Tree.{Tree}
use Rattle.fa_core.specs.declared.forest.Forest.{Forest}
use Rattle.fa_core.specs.declared.forest.Target.TheVariants.{Null as NullTarget, At}
use Rattle.fa_core.specs.Canonical.{IsCanonical, IsShared, IsRootKind, IsUntied, RefersTo, references, field_trees}
use Rattle.fa_core.specs.Canonical.{GoesOn}
use Rattle.fa_core.specs.Canonical.{Walks, ended, old, new, refs_at}
use Rattle.fa_core.specs.Choices.{bares}
use Rattle.fa_core.specs.Dressed.{Node, Nodes, End, node, no_parts, field, under, leaf, no_nodes, more}
use Rattle.fa_core.specs.Filled.{Choice}
use Rattle.fa_core.specs.Member.{StandsBy, bare, bare_end}
use Rattle.fa_core.specs.Rearranged.{empty, keep}
use Rattle.fa_core.proofs.Dressing.{leaf_top}
use Rattle.fa_core.proofs.NodeRuns.{NodeRun, EndRun, node_bare}
use Rattle.fa_core.proofs.Rearranging.{same}
use Rattle.fa_core.proofs.RootCounts.{references_are}
use Rattle.fa_core.proofs.RowsCanonical.{rule, target_root}
use Rattle.fa_core.proofs.RowsForests.{list_face, one_pointer}
use Rattle.fa_core.proofs.SingleTrees.{IsWorked, single_choice, worked_well_formed}
use Rattle.fa_core.proofs.WaysOf.{end_roots}
use Rattle.fa_unique.specs.Presented.{IsPlainCanonical, PresentAlike}
use Rattle.fa_unique.proofs.CanonicalRead.{tree_fields, fields_tree, cell_no_ref, refers_refs, refs_refer, ways_plain}
use Rattle.fa_unique.proofs.CanonicalRead.{no_way_back}
use Rattle.fa_unique.proofs.WholeRead.{refs_once}

abbrev cell : Symbol
cell = Cell 0 [] (Field 0 ∷ [])

abbrev next_to : ℕ → End → Node
next_to c e = node c 0 [] (field 0 e no_parts)

-- one cell, with this rule at the end of its field
abbrev one_cell : Rule → Automaton
one_cell r = record { states = 2; roots = 0 ∷ []; rules = rule 0 cell (1 ∷ []) ∷ r ∷ [] }

one_cell_top : (x : Symbol) → HasOneTop (one_cell (rule 1 x []))
one_cell_top x = record {
  root = 0;
  alone = refl;
  place = 0;
  rule = rule 0 cell
      (1 ∷ []);
  there = refl;
  top = refl;
  only = one;
}
  where
    one : (i : ℕ) (r : Rule) → slice_get (rule 0 cell (1 ∷ []) ∷ rule 1 x [] ∷ []) i ≡ Some r → r.state ≡ 0 → i ≡ 0
    one zero r e s = refl
    one (suc zero) r e s =
        let z : 1 ≡ 0 = ap (λ (y : Rule). y.state) (same_Some (rule 1 x []) r e) ∙ s in absurd (omega (arith, z))
    one (suc (suc i)) r e s = absurd (none-some r e)

-- The list: a variable at the first of two cells, the second one's field null.

abbrev list_store : Store
list_store = record {
  vars = CellValue 4 ∷ [];
  data_vars = [];
  cells = record { number = 4; shape = 0; datums = []; fields = CellValue 7 ∷ [] }
      ∷ record { number = 7; shape = 0; datums = []; fields = NullValue ∷ [] } ∷ [];
  next = 8;
}

list_proper : IsProper list_store
list_proper = record {
  differ = ((λ h. elim h [ inl e ↦ omega (arith, e) | inr x ↦ x ]), ((λ x. x), tt));
  below = (omega arith, (omega arith, tt));
  vars = (inl refl, tt);
  fields = ((inr (inl refl), tt), ((tt, tt), tt));
}

-- one tree: the second cell is in the first one's field
abbrev list_auto : Automaton
list_auto = record {
  states = 3;
  roots = 0 ∷ [];
  rules = rule 0 cell (1 ∷ []) ∷ rule 1 cell (2 ∷ []) ∷ rule 2 Null [] ∷ [];
}

abbrev list_forest : Forest
list_forest = record { autos = list_auto ∷ []; vars = At 0 ∷ []; data_vars = [] }

abbrev list_nodes : ℕ → ℕ → Nodes
list_nodes a b = more (next_to a (under (next_to b (leaf NullTarget)))) no_nodes

list_runs : (a b : ℕ) → InLanguage list_auto (bare (next_to a (under (next_to b (leaf NullTarget)))))
list_runs a b =
    let nil : EndRun list_auto.rules 2 (leaf NullTarget) = (rule 2 Null [], inr (inr (inl refl)), refl, refl, refl) in
    let low : NodeRun list_auto.rules 1 (next_to b (leaf NullTarget)) =
    (rule 1 cell (2 ∷ []), inr (inl refl), refl, refl, (nil, tt)) in (
      0,
      inl refl,
      node_bare list_auto.rules 0 (next_to a (under (next_to b (leaf NullTarget))))
          (rule 0 cell (1 ∷ []), inl refl, refl, refl, (low, tt)),
    )

list_stands : StandsBy list_face.shapes.structs [] list_forest (list_nodes 4 7) list_store
list_stands = record {
  proper = list_proper;
  fields = (refl, (refl, tt));
  of = (list_runs 4 7, ((tt, tt), tt), tt);
  same_facts = same _;
  vars = refl;
  data_vars = refl;
}

list_worked : IsWorked list_face list_forest (list_nodes 0 1)
list_worked = record {
  single = (((refl, (refl, (refl, tt))), (0, refl)), tt);
  choice = (list_runs 0 1, tt);
  differ = ((λ i. elim i [ inl e ↦ omega (arith, e) | inr x ↦ x ]), ((λ i. i), tt));
  refers = tt;
  vars = ((λ r e. (let z = ap target_root e in omega (arith, z))), tt);
  data_vars = tt;
  rules = (((omega arith, refl, tt, (refl, tt)), ((omega arith, refl, tt, (refl, tt)), (tt, tt))), tt);
  cells = (
    record { slots = ((0, refl, inr (inl (refl, refl))), tt); order = ((tt, tt), tt); once = keep 0 empty },
    (record { slots = ((0, refl, tt), tt); order = ((tt, tt), tt); once = keep 0 empty }, tt),
  );
}

list_top : HasOneTop list_auto
list_top = record {
  root = 0;
  alone = refl;
  place = 0;
  rule = rule 0 cell
      (1 ∷ []);
  there = refl;
  top = refl;
  only = one;
}
  where
    one : (i : ℕ) (r : Rule) → slice_get list_auto.rules i ≡ Some r → r.state ≡ 0 → i ≡ 0
    one zero r e s = refl
    one (suc zero) r e s =
        let z : 1 ≡ 0 = ap (λ (y : Rule). y.state) (same_Some (rule 1 cell (2 ∷ [])) r e) ∙ s in
        absurd (omega (arith, z))
    one (suc (suc zero)) r e s =
        let z : 2 ≡ 0 = ap (λ (y : Rule). y.state) (same_Some (rule 2 Null []) r e) ∙ s in absurd (omega (arith, z))
    one (suc (suc (suc i))) r e s = absurd (none-some r e)

abbrev list_trees : List Tree
list_trees = bares (list_nodes 0 1)

list_kinds : (r : ℕ) → r < 1 → IsRootKind (one_pointer ∷ []) (At 0 ∷ []) list_trees r
list_kinds zero l = inl (inl (inl refl))
list_kinds (suc r) l = absurd (omega (arith, l))

-- no tree refers to a root
list_untied : IsUntied (At 0 ∷ []) list_trees
list_untied zero t u s g i n h =
    let top = next_to 0 (under (next_to 1 (leaf NullTarget))) in
    let f = tree_fields top u (subst (λ (z : Tree). IsIn u (field_trees z)) (sym (same_Some (bare top) t g)) i) in
    elim f.2 [
      | inl e ↦ refers_refs (next_to 1 (leaf NullTarget)) 0
          (subst (λ (z : Tree). RefersTo z 0) (f.3 ∙ ap bare_end e.1) h)
      | inr x ↦ x
    ]
list_untied (suc r) t u s g i n h = none-some t g

list_order : Walks (refs_at list_trees) (GoesOn (one_pointer ∷ []) list_trees) (0 ∷ []) 0 1
list_order = let e : refs_at list_trees 0 ≡ [] = refs_once (list_nodes 0 1) 0 in new {k = 0} (rw e ended)

list_canonical : IsPlainCanonical list_face list_forest
list_canonical = record {
  canonical = record {
    well_formed = worked_well_formed list_face list_forest (list_nodes 0 1) list_worked;
    tops = (list_top, tt);
    kinds =
        λ ts c.
        (subst (λ (us : List Tree). (r : ℕ) → r < length us → IsRootKind (one_pointer ∷ []) (At 0 ∷ []) us r)
        (are ts c)
        list_kinds);
    untied = λ ts c. (subst (λ (us : List Tree). IsUntied (At 0 ∷ []) us) (are ts c) list_untied);
    order =
        λ ts c.
        (subst (λ (us : List Tree). Walks (refs_at us) (GoesOn (one_pointer ∷ []) us) (0 ∷ []) 0 (length us))
        (are ts c)
        list_order);
  };
  plain = (((tt, tt), ((tt, tt), (tt, tt))), tt);
}
  where
    are : (ts : List Tree) → Choice (list_auto ∷ []) ts → list_trees ≡ ts
    are ts c = single_choice (list_auto ∷ []) list_trees ts list_worked.single (list_runs 0 1, tt) c

-- with other numbers it is the same
list_alike : PresentAlike list_forest list_forest (list_nodes 4 7) (list_nodes 0 1)
list_alike = record { trees = refl; vars = refl; data_vars = refl }

-- two trees: the second cell is a root, to which the first refers
abbrev cut_forest : Forest
cut_forest = record {
  autos = one_cell (rule 1 (Ref 1) []) ∷ one_cell (rule 1 Null []) ∷ [];
  vars = At 0 ∷ [];
  data_vars = [];
}

abbrev cut_nodes : Nodes
cut_nodes = more (next_to 4 (leaf (At 1))) (more (next_to 7 (leaf NullTarget)) no_nodes)

ref_runs : (c k : ℕ) → InLanguage (one_cell (rule 1 (Ref k) [])) (bare (next_to c (leaf (At k))))
ref_runs c k = (
  0,
  inl refl,
  node_bare (rule 0 cell (1 ∷ []) ∷ rule 1 (Ref k) [] ∷ []) 0 (next_to c (leaf (At k)))
      (rule 0 cell (1 ∷ []), inl refl, refl, refl, ((rule 1 (Ref k) [], inr (inl refl), refl, refl, refl), tt)),
)

null_runs : (c : ℕ) → InLanguage (one_cell (rule 1 Null [])) (bare (next_to c (leaf NullTarget)))
null_runs c = (
  0,
  inl refl,
  node_bare (rule 0 cell (1 ∷ []) ∷ rule 1 Null [] ∷ []) 0 (next_to c (leaf NullTarget))
      (rule 0 cell (1 ∷ []), inl refl, refl, refl, ((rule 1 Null [], inr (inl refl), refl, refl, refl), tt)),
)

-- it stands for the store too, by another dressed forest
cut_stands : StandsBy list_face.shapes.structs [] cut_forest cut_nodes list_store
cut_stands = record {
  proper = list_proper;
  fields = (refl, (refl, tt));
  of = (ref_runs 4 1, (tt, tt), (null_runs 7, (tt, tt), tt));
  same_facts = same _;
  vars = refl;
  data_vars = refl;
}

cut_differs : PresentAlike list_forest cut_forest (list_nodes 4 7) cut_nodes → ⊥
cut_differs p = let e = ap length p.trees in omega (arith, e)

-- it is not canonical: its root 1 has one reference, and no variable
cut_shared : IsShared (At 0 ∷ []) (bares cut_nodes) 1 → ⊥
cut_shared (inl i) = elim i [ inl e ↦ (let z = ap target_root e in omega (arith, z)) | inr x ↦ x ]
cut_shared (inr l) = let e : references (bares cut_nodes) 1 ≡ 1 = references_are cut_nodes 1 in omega (arith, l, e)

cut_not_canonical : IsCanonical list_face cut_forest → ⊥
cut_not_canonical h = by (h.kinds (bares cut_nodes) choice 1 (omega arith))
  where
    choice : Choice cut_forest.autos (bares cut_nodes)
    choice = (ref_runs 4 1, (null_runs 7, tt))

    by : IsRootKind (one_pointer ∷ []) (At 0 ∷ []) (bares cut_nodes) 1 → ⊥
    by (inl s) = cut_shared s
    by (inr (inl k)) = no_way_back (one_pointer ∷ []) (bares cut_nodes)
        (ways_plain (one_pointer ∷ []) cut_forest.autos (bares cut_nodes)
        (((tt, tt), (tt, tt)), (((tt, tt), (tt, tt)), tt)) choice) k.from 1 1 k.led
    by (inr (inr k)) = refers_refs (next_to 7 (leaf NullTarget)) k.from
        (subst (λ (t : Tree). RefersTo t k.from) (sym (same_Some (bare (next_to 7 (leaf NullTarget))) k.own k.is_own))
        k.ties)

-- The ring: a variable at one of two cells, each in the field of the other.

abbrev ring_store : Store
ring_store = record {
  vars = CellValue 4 ∷ [];
  data_vars = [];
  cells = record { number = 4; shape = 0; datums = []; fields = CellValue 7 ∷ [] }
      ∷ record { number = 7; shape = 0; datums = []; fields = CellValue 4 ∷ [] } ∷ [];
  next = 8;
}

ring_proper : IsProper ring_store
ring_proper = record {
  differ = list_proper.differ;
  below = (omega arith, (omega arith, tt));
  vars = (inl refl, tt);
  fields = ((inr (inl refl), tt), ((inl refl, tt), tt));
}

-- two trees: the second cell is a knot, since its tree refers to the first one
abbrev ring_forest : Forest
ring_forest = record {
  autos = one_cell (rule 1 (Ref 1) []) ∷ one_cell (rule 1 (Ref 0) []) ∷ [];
  vars = At 0 ∷ [];
  data_vars = [];
}

abbrev ring_nodes : ℕ → ℕ → Nodes
ring_nodes a b = more (next_to a (leaf (At 1))) (more (next_to b (leaf (At 0))) no_nodes)

ring_stands : StandsBy list_face.shapes.structs [] ring_forest (ring_nodes 4 7) ring_store
ring_stands = record {
  proper = ring_proper;
  fields = (refl, (refl, tt));
  of = (ref_runs 4 1, (tt, tt), (ref_runs 7 0, (tt, tt), tt));
  same_facts = same _;
  vars = refl;
  data_vars = refl;
}

ring_worked : IsWorked list_face ring_forest (ring_nodes 0 1)
ring_worked = record {
  single = (((refl, (refl, tt)), (0, refl)), (((refl, (refl, tt)), (0, refl)), tt));
  choice = (ref_runs 0 1, (ref_runs 1 0, tt));
  differ = ((λ i. elim i [ inl e ↦ omega (arith, e) | inr x ↦ x ]), ((λ i. i), tt));
  refers = (omega arith, (omega arith, tt));
  vars = ((λ r e. (let z = ap target_root e in omega (arith, z))), tt);
  data_vars = tt;
  rules = (((omega arith, refl, tt, (refl, tt)), (tt, tt)), (((omega arith, refl, tt, (refl, tt)), (tt, tt)), tt));
  cells = (
    record { slots = ((0, refl, inr (inl (refl, refl))), tt); order = ((tt, tt), tt); once = keep 0 empty },
    (record { slots = ((0, refl, inl (refl, refl)), tt); order = ((tt, tt), tt); once = keep 0 empty }, tt),
  );
}

abbrev ring_trees : List Tree
ring_trees = bares (ring_nodes 0 1)

ring_once : references ring_trees 1 ≡ 1
ring_once = references_are (ring_nodes 0 1) 1

ring_kinds : (r : ℕ) → r < 2 → IsRootKind (one_pointer ∷ []) (At 0 ∷ []) ring_trees r
ring_kinds zero l = inl (inl (inl refl))
ring_kinds (suc zero) l = inr (inr (record {
  one = ring_once;
  from = 0;
  shared = inl (inl refl);
  above = bare (next_to 0 (leaf (At 1)));
  is_above = refl;
  leaf = bare_end (leaf (At 1));
  in_field = fields_tree (next_to 0 (leaf (At 1))) 0 (leaf (At 1)) (inl (refl, refl));
  refers = leaf_top (At 1);
  own = bare (next_to 1 (leaf (At 0)));
  is_own = refl;
  ties = refs_refer (next_to 1 (leaf (At 0))) 0 (inl refl);
}))
ring_kinds (suc (suc r)) l = absurd (omega (arith, l))

ring_untied : IsUntied (At 0 ∷ []) ring_trees
ring_untied zero t u s g i n h =
    let top = next_to 0 (leaf (At 1)) in
    let f = tree_fields top u (subst (λ (z : Tree). IsIn u (field_trees z)) (sym (same_Some (bare top) t g)) i) in
    elim f.2 [
      | inl e ↦ (let k : IsIn 0 (1 ∷ []) = subst (λ (z : List ℕ). IsIn 0 z) (end_roots (leaf (At 1)))
          (subst (λ (z : Tree). RefersTo z 0) (f.3 ∙ ap bare_end e.1) h) in
          elim k [ inl z ↦ omega (arith, z) | inr x ↦ x ])
      | inr x ↦ x
    ]
ring_untied (suc zero) t u (inl s) g i n h =
    elim s [ inl e ↦ (let z = ap target_root e in omega (arith, z)) | inr x ↦ x ]
ring_untied (suc zero) t u (inr s) g i n h = let z = ring_once in omega (arith, s, z)
ring_untied (suc (suc r)) t u s g i n h = none-some t g

ring_order : Walks (refs_at ring_trees) (GoesOn (one_pointer ∷ []) ring_trees) (0 ∷ []) 0 2
ring_order =
    let a : refs_at ring_trees 0 ≡ 1 ∷ [] = refs_once (ring_nodes 0 1) 0 in
    let b : refs_at ring_trees 1 ≡ 0 ∷ [] = refs_once (ring_nodes 0 1) 1 in
    let on : Walks (refs_at ring_trees) (GoesOn (one_pointer ∷ []) ring_trees) (1 ∷ []) 1 2 =
    new {k = 1} {n = 2} (rw b (old {r = 0} {k = 2} (omega arith) ended)) in
    new {k = 0} {n = 2} (rw a on)

ring_canonical : IsPlainCanonical list_face ring_forest
ring_canonical = record {
  canonical = record {
    well_formed = worked_well_formed list_face ring_forest (ring_nodes 0 1) ring_worked;
    tops = (one_cell_top (Ref 1), (one_cell_top (Ref 0), tt));
    kinds =
        λ ts c.
        (subst (λ (us : List Tree). (r : ℕ) → r < length us → IsRootKind (one_pointer ∷ []) (At 0 ∷ []) us r)
        (are ts c)
        ring_kinds);
    untied = λ ts c. (subst (λ (us : List Tree). IsUntied (At 0 ∷ []) us) (are ts c) ring_untied);
    order =
        λ ts c.
        (subst (λ (us : List Tree). Walks (refs_at us) (GoesOn (one_pointer ∷ []) us) (0 ∷ []) 0 (length us))
        (are ts c)
        ring_order);
  };
  plain = (((tt, tt), (tt, tt)), (((tt, tt), (tt, tt)), tt));
}
  where
    are : (ts : List Tree) → Choice ring_forest.autos ts → ring_trees ≡ ts
    are ts c = single_choice ring_forest.autos ring_trees ts ring_worked.single ring_worked.choice c

-- one tree: the knot is left where it is
abbrev knot_auto : Automaton
knot_auto = record {
  states = 3;
  roots = 0 ∷ [];
  rules = rule 0 cell (1 ∷ []) ∷ rule 1 cell (2 ∷ []) ∷ rule 2 (Ref 0) [] ∷ [];
}

abbrev knot_forest : Forest
knot_forest = record { autos = knot_auto ∷ []; vars = At 0 ∷ []; data_vars = [] }

abbrev knot_node : Node
knot_node = next_to 4 (under (next_to 7 (leaf (At 0))))

abbrev knot_nodes : Nodes
knot_nodes = more knot_node no_nodes

knot_runs : InLanguage knot_auto (bare knot_node)
knot_runs =
    let back : EndRun knot_auto.rules 2 (leaf (At 0)) =
    (rule 2 (Ref 0) [], inr (inr (inl refl)), refl, refl, refl) in
    let low : NodeRun knot_auto.rules 1 (next_to 7 (leaf (At 0))) =
    (rule 1 cell (2 ∷ []), inr (inl refl), refl, refl, (back, tt)) in
    (0, inl refl, node_bare knot_auto.rules 0 knot_node (rule 0 cell (1 ∷ []), inl refl, refl, refl, (low, tt)))

-- it stands for the store too, by another dressed forest
knot_stands : StandsBy list_face.shapes.structs [] knot_forest knot_nodes ring_store
knot_stands = record {
  proper = ring_proper;
  fields = (refl, (refl, tt));
  of = (knot_runs, ((tt, tt), tt), tt);
  same_facts = same _;
  vars = refl;
  data_vars = refl;
}

knot_differs : PresentAlike ring_forest knot_forest (ring_nodes 4 7) knot_nodes → ⊥
knot_differs p = let e = ap length p.trees in omega (arith, e)

-- it is not canonical: a cell in the field of root 0 refers to that root
knot_not_canonical : IsCanonical list_face knot_forest → ⊥
knot_not_canonical h =
    h.untied (bares knot_nodes) (knot_runs, tt) 0 (bare knot_node) (bare (next_to 7 (leaf (At 0))))
    (inl (inl refl)) refl
    (fields_tree knot_node 0 (under (next_to 7 (leaf (At 0)))) (inl (refl, refl)))
    (cell_no_ref (next_to 7 (leaf (At 0))) 0) (refs_refer (next_to 7 (leaf (At 0))) 0 (inl refl))
