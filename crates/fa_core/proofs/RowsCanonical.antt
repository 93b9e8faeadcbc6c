-- A worked canonical forest with a box: a doubly linked list whose tail a variable is at, and of which the head is
-- reached by the edge that leads back.
use Rattle.std.proofs.Common.{◌≡◌, ◌≢◌, ◌<◌, inl, inr, ℕ, zero, suc, List, [], ◌∷◌, ◌++◌, length, refl, sym, ap, subst}
use Rattle.std.proofs.Common.{◌∙◌, Some, slice_get, arith}
use Rattle.std.proofs.lemmas.Option.{none-some, same_Some}
use Rattle.fore_base.specs.Lists.{IsIn, Every}
use Rattle.fore_base.specs.declared.shape.FieldDef.{FieldDef}
use Rattle.fore_base.specs.declared.shape.FieldKind.TheVariants.{Pointer}
use Rattle.ta_core.specs.Auto.{Automaton}
use Rattle.ta_core.specs.Language.{InLanguage}
use Rattle.ta_core.specs.Single.{HasOneTop}
use Rattle.ta_core.specs.declared.auto.Rule.{Rule}
use Rattle.ta_core.specs.declared.symbol.Symbol.{Symbol}
use Rattle.ta_core.specs.declared.symbol.Slot.TheVariants.{Field, Link}
use Rattle.ta_core.specs.declared.symbol.Symbol.TheVariants.{Null, Ref, Cell}
use Rattle.ta_core.specs.declared.tree.Tree.{Tree, out-Tree, out-roll-Tree}
use Rattle.fa_core.specs.declared.faces.Face.{Face}
use Rattle.fa_core.specs.declared.forest.Forest.{Forest}
use Rattle.fa_core.specs.declared.forest.Target.{Target}
use Rattle.fa_core.specs.declared.forest.Target.TheVariants.{Null as NullTarget, At}
use Rattle.fa_core.specs.Canonical.{IsCanonical, IsShared, IsLedTo, IsKnot, LeadsBack, IsUntied, IsRootKind, RefersTo}
use Rattle.fa_core.specs.Canonical.{references, field_trees, GoesOn, Walks, ended, old, new, again, refs_at}
use Rattle.fa_core.specs.Choices.{bares}
use Rattle.fa_core.specs.Dressed.{Node, Nodes, node, no_parts, field, link, under, leaf, no_nodes, more}
use Rattle.fa_core.specs.Filled.{Choice, IsWellFormed}
use Rattle.fa_core.specs.Member.{bare}
use Rattle.fa_core.specs.Rearranged.{empty, keep, swap}
use Rattle.fa_core.specs.Ways.{Way, ways}
use Rattle.fa_core.proofs.NodeRuns.{NodeRun, EndRun, node_bare}
use Rattle.fa_core.proofs.RowsBack.{dll, null, root_cell, v_trees, v_ways, no_ways, opened, v_kind, v_goes_on, u_tree}
use Rattle.fa_core.proofs.RowsBack.{u_trees, u_ways, u_not_led}
use Rattle.fa_core.proofs.SingleTrees.{IsSingle, IsWorked, single_choice, worked_well_formed}

abbrev pub rule : ℕ → Symbol → List ℕ → Rule
rule q y qs = record { state = q; symbol = y; children = qs }

abbrev pointer : FieldDef
pointer = record { name = []; kind = Pointer 0 }

-- one struct with the pointers next, prev and x to itself
abbrev pub dll_face : Face
dll_face =
    record {
      shapes = record { structs = record { name = []; fields = pointer ∷ pointer ∷ pointer ∷ [] } ∷ [] };
      boxes = dll;
    }

abbrev pub three : Symbol
three = Cell 0 [] (Field 0 ∷ Field 1 ∷ Field 2 ∷ [])

abbrev tail_auto : Automaton
tail_auto =
    record {
      states = 2;
      roots = 0 ∷ [];
      rules = rule 0 (Cell 0 [] (Field 0 ∷ Field 2 ∷ [])) (1 ∷ 1 ∷ [])
          ∷ rule 1 Null [] ∷ [];
    }

abbrev head_auto : Automaton
head_auto =
    record {
      states = 6;
      roots = 0 ∷ [];
      rules = rule 0 three (1 ∷ 4 ∷ 4 ∷ []) ∷ rule 1 three (2 ∷ 4 ∷ 4 ∷ [])
          ∷ rule 2 (Cell 0 [] (Link 0 ∷ Field 1 ∷ Field 2 ∷ [])) (3 ∷ 5 ∷ 4 ∷ []) ∷ rule 3 (Ref 0) [] ∷ rule 4 Null []
          ∷ rule 5 (Ref 1) [] ∷ [];
    }

abbrev list_forest : Forest
list_forest = record { autos = tail_auto ∷ head_auto ∷ []; vars = At 0 ∷ []; data_vars = [] }

-- its one dressed forest
abbrev tail_node : Node
tail_node = node 0 0 [] (field 0 (leaf NullTarget) (field 2 (leaf NullTarget) no_parts))

abbrev low_node : Node
low_node = node 3 0 [] (link 0 no_nodes (leaf (At 0)) (field 1 (leaf (At 1)) (field 2 (leaf NullTarget) no_parts)))

abbrev middle_node : Node
middle_node = node 2 0 [] (field 0 (under low_node) (field 1 (leaf NullTarget) (field 2 (leaf NullTarget) no_parts)))

abbrev head_node : Node
head_node = node 1 0 [] (field 0 (under middle_node) (field 1 (leaf NullTarget) (field 2 (leaf NullTarget) no_parts)))

abbrev list_nodes : Nodes
list_nodes = more tail_node (more head_node no_nodes)

-- its trees are those of forest V
list_trees : bares list_nodes ≡ v_trees
list_trees = refl

tail_runs : InLanguage tail_auto (bare tail_node)
tail_runs =
    let nil : EndRun tail_auto.rules 1 (leaf NullTarget) = (rule 1 Null [], inr (inl refl), refl, refl, refl) in (
      0,
      inl refl,
      node_bare tail_auto.rules 0 tail_node
          (rule 0 (Cell 0 [] (Field 0 ∷ Field 2 ∷ [])) (1 ∷ 1 ∷ []), inl refl, refl, refl, (nil, (nil, tt))),
    )

head_runs : InLanguage head_auto (bare head_node)
head_runs =
    let nil : EndRun head_auto.rules 4 (leaf NullTarget) =
    (rule 4 Null [], inr (inr (inr (inr (inl refl)))), refl, refl, refl) in
    let low : NodeRun head_auto.rules 2 low_node = (
      rule 2 (Cell 0 [] (Link 0 ∷ Field 1 ∷ Field 2 ∷ [])) (3 ∷ 5 ∷ 4 ∷ []),
      inr (inr (inl refl)),
      refl,
      refl,
      (
        (rule 3 (Ref 0) [], inr (inr (inr (inl refl))), refl, refl, refl),
        ((rule 5 (Ref 1) [], inr (inr (inr (inr (inr (inl refl))))), refl, refl, refl), (nil, tt)),
      ),
    ) in
    let middle : NodeRun head_auto.rules 1 middle_node =
    (rule 1 three (2 ∷ 4 ∷ 4 ∷ []), inr (inl refl), refl, refl, (low, (nil, (nil, tt)))) in (
      0,
      inl refl,
      node_bare head_auto.rules 0 head_node
          (rule 0 three (1 ∷ 4 ∷ 4 ∷ []), inl refl, refl, refl, (middle, (nil, (nil, tt)))),
    )

list_single : Every IsSingle (tail_auto ∷ head_auto ∷ [])
list_single = (((refl, (refl, tt)), (0, refl)), (((refl, (refl, (refl, (refl, (refl, (refl, tt)))))), (0, refl)), tt))

list_choice : Choice (tail_auto ∷ head_auto ∷ []) v_trees
list_choice = (tail_runs, (head_runs, tt))

abbrev pub target_root : Target → ℕ
target_root (At r) = r
target_root t = 9

list_worked : IsWorked dll_face list_forest list_nodes
list_worked = record {
  single = list_single;
  choice = list_choice;
  differ = (
    (λ i.
        elim i [
          | inl e ↦ omega (arith, e)
          | inr j ↦ elim j
              [ inl e ↦ omega (arith, e) | inr k ↦ elim k [ inl e ↦ omega (arith, e) | inr x ↦ x ] ]
        ]),
    (
      (λ i. elim i [ inl e ↦ omega (arith, e) | inr j ↦ elim j [ inl e ↦ omega (arith, e) | inr x ↦ x ] ]),
      ((λ i. elim i [ inl e ↦ omega (arith, e) | inr x ↦ x ]), ((λ x. x), tt)),
    ),
  );
  refers = (omega arith, (omega arith, tt));
  vars = ((λ r e. (let z = ap target_root e in omega (arith, z))), tt);
  data_vars = tt;
  rules = (
    ((omega arith, refl, tt, (refl, (refl, tt))), (tt, tt)),
    (
      (
        (omega arith, refl, tt, (refl, (refl, (refl, tt)))),
        (
          (omega arith, refl, tt, (refl, (refl, (refl, tt)))),
          ((omega arith, refl, tt, (refl, (refl, (refl, tt)))), (tt, (tt, (tt, tt)))),
        ),
      ),
      tt,
    ),
  );
  cells = (
    record {
      slots = ((0, refl, tt), ((0, refl, tt), tt));
      order = ((tt, (tt, tt)), (omega arith, tt));
      once = keep 0 (swap 1 2 []);
    },
    (
      record {
        slots = ((0, refl, inr (inr (inl (refl, refl)))), ((0, refl, tt), ((0, refl, tt), tt)));
        order = ((tt, (tt, (tt, tt))), (omega arith, (omega arith, tt)));
        once = keep 0 (keep 1 (keep 2 empty));
      },
      (
        record {
          slots = ((0, refl, inr (inr (inr (inl (refl, refl))))), ((0, refl, tt), ((0, refl, tt), tt)));
          order = ((tt, (tt, (tt, tt))), (omega arith, (omega arith, tt)));
          once = keep 0 (keep 1 (keep 2 empty));
        },
        (
          record {
            slots = (
              (_, 0, refl, refl, refl, inl (inl (refl, refl))),
              ((0, refl, inr (inl (refl, refl))), ((0, refl, tt), tt)),
            );
            order = ((tt, (tt, (tt, tt))), (omega arith, (omega arith, tt)));
            once = keep 0 (keep 1 (keep 2 empty));
          },
          tt,
        ),
      ),
    ),
  );
}

list_well_formed : IsWellFormed dll_face list_forest
list_well_formed = worked_well_formed dll_face list_forest list_nodes list_worked

-- Kinds and order.

one_top : (i : ℕ) (r : Rule) → slice_get tail_auto.rules i ≡ Some r → r.state ≡ 0 → i ≡ 0
one_top zero r e s = refl
one_top (suc zero) r e s = let z : 1 ≡ 0 = ap (λ (x : Rule). x.state) (same_Some (rule 1 Null []) r e) ∙ s in
    absurd (omega (arith, z))
one_top (suc (suc i)) r e s = absurd (none-some r e)

one_head : (i : ℕ) (r : Rule) → slice_get head_auto.rules i ≡ Some r → r.state ≡ 0 → i ≡ 0
one_head zero r e s = refl
one_head (suc zero) r e s =
    let z : 1 ≡ 0 = ap (λ (x : Rule). x.state) (same_Some (rule 1 three (2 ∷ 4 ∷ 4 ∷ [])) r e) ∙ s in
    absurd (omega (arith, z))
one_head (suc (suc zero)) r e s =
    let z : 2 ≡ 0 = ap (λ (x : Rule). x.state)
    (same_Some (rule 2 (Cell 0 [] (Link 0 ∷ Field 1 ∷ Field 2 ∷ [])) (3 ∷ 5 ∷ 4 ∷ [])) r e) ∙ s in
    absurd (omega (arith, z))
one_head (suc (suc (suc zero))) r e s =
    let z : 3 ≡ 0 = ap (λ (x : Rule). x.state) (same_Some (rule 3 (Ref 0) []) r e) ∙ s in absurd (omega (arith, z))
one_head (suc (suc (suc (suc zero)))) r e s =
    let z : 4 ≡ 0 = ap (λ (x : Rule). x.state) (same_Some (rule 4 Null []) r e) ∙ s in absurd (omega (arith, z))
one_head (suc (suc (suc (suc (suc zero))))) r e s =
    let z : 5 ≡ 0 = ap (λ (x : Rule). x.state) (same_Some (rule 5 (Ref 1) []) r e) ∙ s in absurd (omega (arith, z))
one_head (suc (suc (suc (suc (suc (suc i)))))) r e s = absurd (none-some r e)

list_tops : Every HasOneTop (tail_auto ∷ head_auto ∷ [])
list_tops = (
  record {
    root = 0;
    alone = refl;
    place = 0;
    rule = rule 0 (Cell 0 [] (Field 0 ∷ Field 2 ∷ [])) (1 ∷ 1 ∷ []);
    there = refl;
    top = refl;
    only = one_top;
  },
  (
    record {
      root = 0;
      alone = refl;
      place = 0;
      rule = rule 0 three (1 ∷ 4 ∷ 4 ∷ []);
      there = refl;
      top = refl;
      only = one_head;
    },
    tt,
  ),
)

list_kinds : (r : ℕ) → r < 2 → IsRootKind dll (At 0 ∷ []) v_trees r
list_kinds zero l = inl (inl (inl refl))
list_kinds (suc zero) l = inr (inl v_kind)
list_kinds (suc (suc r)) l = absurd (omega (arith, l))

null_refers : (k : ℕ) → RefersTo null k → ⊥
null_refers k h = let e = opened (record { symbol = Null; children = [] }) in rw e at h

head_once : references v_trees 1 ≡ 1
head_once = rw (no_ways, v_ways) refl

tail_fields : field_trees root_cell ≡ null ∷ null ∷ []
tail_fields =
    let e = out-roll-Tree (record { symbol = Cell 0 [] (Field 0 ∷ Field 2 ∷ []); children = null ∷ null ∷ [] }) in
    rw e refl

list_untied : IsUntied (At 0 ∷ []) v_trees
list_untied zero t u s g i n h =
    let j : IsIn u (field_trees root_cell) =
    subst (λ (z : Tree). IsIn u (field_trees z)) (sym (same_Some root_cell t g)) i in
    elim (rw tail_fields at j) [
      | inl e ↦ null_refers 0 (subst (λ (z : Tree). RefersTo z 0) e h)
      | inr k ↦ elim k [ inl e ↦ null_refers 0 (subst (λ (z : Tree). RefersTo z 0) e h) | inr x ↦ x ]
    ]
list_untied (suc zero) t u (inl s) g i n h =
    elim s [ inl e ↦ (let z = ap target_root e in omega (arith, z)) | inr x ↦ x ]
list_untied (suc zero) t u (inr s) g i n h = let z = head_once in omega (arith, s, z)
list_untied (suc (suc r)) t u s g i n h = none-some t g

tail_refers : refs_at v_trees 0 ≡ []
tail_refers = rw no_ways refl

head_refers : refs_at v_trees 1 ≡ 0 ∷ 1 ∷ []
head_refers = rw v_ways refl

list_order : Walks (refs_at v_trees) (GoesOn dll v_trees) (0 ∷ []) 0 2
list_order =
    let on : Walks (refs_at v_trees) (GoesOn dll v_trees) (refs_at v_trees 1 ++ []) 2 2 =
    rw head_refers (old {r = 0} {k = 2} (omega arith) (old {r = 1} {k = 2} (omega arith) ended)) in
    new {k = 0} (rw tail_refers (again {k = 1} {n = 2} (omega arith) v_goes_on (new {k = 1} on)))

-- the forest is canonical
list_canonical : IsCanonical dll_face list_forest
list_canonical = record {
  well_formed = list_well_formed;
  tops = list_tops;
  kinds =
      λ ts c.
      (subst (λ (us : List Tree). (r : ℕ) → r < length us → IsRootKind dll (At 0 ∷ []) us r) (are ts c) list_kinds);
  untied = λ ts c. (subst (λ (us : List Tree). IsUntied (At 0 ∷ []) us) (are ts c) list_untied);
  order =
      λ ts c.
      (subst (λ (us : List Tree). Walks (refs_at us) (GoesOn dll us) (0 ∷ []) 0 (length us)) (are ts c) list_order);
}
  where
    are : (ts : List Tree) → Choice (tail_auto ∷ head_auto ∷ []) ts → v_trees ≡ ts
    are ts c = single_choice (tail_auto ∷ head_auto ∷ []) v_trees ts list_single list_choice c

-- The other forest: the middle cell refers to root 1 in place of the lowest one. Its root 1 is of no kind, so it is not
-- canonical.

abbrev other_head : Automaton
other_head =
    record {
      states = 6;
      roots = 0 ∷ [];
      rules = rule 0 three (1 ∷ 4 ∷ 4 ∷ []) ∷ rule 1 three (2 ∷ 5 ∷ 4 ∷ [])
          ∷ rule 2 (Cell 0 [] (Link 0 ∷ Field 1 ∷ Field 2 ∷ [])) (3 ∷ 4 ∷ 4 ∷ []) ∷ rule 3 (Ref 0) [] ∷ rule 4 Null []
          ∷ rule 5 (Ref 1) [] ∷ [];
    }

abbrev other_forest : Forest
other_forest = record { autos = tail_auto ∷ other_head ∷ []; vars = At 0 ∷ []; data_vars = [] }

abbrev other_low : Node
other_low = node 3 0 [] (link 0 no_nodes (leaf (At 0)) (field 1 (leaf NullTarget) (field 2 (leaf NullTarget) no_parts)))

abbrev other_middle : Node
other_middle = node 2 0 [] (field 0 (under other_low) (field 1 (leaf (At 1)) (field 2 (leaf NullTarget) no_parts)))

abbrev other_node : Node
other_node = node 1 0 [] (field 0 (under other_middle) (field 1 (leaf NullTarget) (field 2 (leaf NullTarget) no_parts)))

abbrev other_nodes : Nodes
other_nodes = more tail_node (more other_node no_nodes)

other_trees : bares other_nodes ≡ u_trees
other_trees = refl

other_runs : InLanguage other_head (bare other_node)
other_runs =
    let nil : EndRun other_head.rules 4 (leaf NullTarget) =
    (rule 4 Null [], inr (inr (inr (inr (inl refl)))), refl, refl, refl) in
    let low : NodeRun other_head.rules 2 other_low = (
      rule 2 (Cell 0 [] (Link 0 ∷ Field 1 ∷ Field 2 ∷ [])) (3 ∷ 4 ∷ 4 ∷ []),
      inr (inr (inl refl)),
      refl,
      refl,
      ((rule 3 (Ref 0) [], inr (inr (inr (inl refl))), refl, refl, refl), (nil, (nil, tt))),
    ) in
    let middle : NodeRun other_head.rules 1 other_middle = (
      rule 1 three (2 ∷ 5 ∷ 4 ∷ []),
      inr (inl refl),
      refl,
      refl,
      (low, ((rule 5 (Ref 1) [], inr (inr (inr (inr (inr (inl refl))))), refl, refl, refl), (nil, tt))),
    ) in (
      0,
      inl refl,
      node_bare other_head.rules 0 other_node
          (rule 0 three (1 ∷ 4 ∷ 4 ∷ []), inl refl, refl, refl, (middle, (nil, (nil, tt)))),
    )

other_worked : IsWorked dll_face other_forest other_nodes
other_worked = record {
  single = (list_single.0, (((refl, (refl, (refl, (refl, (refl, (refl, tt)))))), (0, refl)), tt));
  choice = (tail_runs, (other_runs, tt));
  differ = list_worked.differ;
  refers = list_worked.refers;
  vars = list_worked.vars;
  data_vars = tt;
  rules = list_worked.rules;
  cells = (
    record {
      slots = ((0, refl, tt), ((0, refl, tt), tt));
      order = ((tt, (tt, tt)), (omega arith, tt));
      once = keep 0 (swap 1 2 []);
    },
    (
      record {
        slots = ((0, refl, inr (inr (inl (refl, refl)))), ((0, refl, tt), ((0, refl, tt), tt)));
        order = ((tt, (tt, (tt, tt))), (omega arith, (omega arith, tt)));
        once = keep 0 (keep 1 (keep 2 empty));
      },
      (
        record {
          slots =
              ((0, refl, inr (inr (inr (inl (refl, refl))))), ((0, refl, inr (inl (refl, refl))), ((0, refl, tt), tt)));
          order = ((tt, (tt, (tt, tt))), (omega arith, (omega arith, tt)));
          once = keep 0 (keep 1 (keep 2 empty));
        },
        (
          record {
            slots = ((_, 0, refl, refl, refl, inl (inl (refl, refl))), ((0, refl, tt), ((0, refl, tt), tt)));
            order = ((tt, (tt, (tt, tt))), (omega arith, (omega arith, tt)));
            once = keep 0 (keep 1 (keep 2 empty));
          },
          tt,
        ),
      ),
    ),
  );
}

-- it is well formed
other_well_formed : IsWellFormed dll_face other_forest
other_well_formed = worked_well_formed dll_face other_forest other_nodes other_worked

other_once : references u_trees 1 ≡ 1
other_once = rw (no_ways, u_ways) refl

not_shared : IsShared (At 0 ∷ []) u_trees 1 → ⊥
not_shared (inl i) = elim i [ inl e ↦ (let z = ap target_root e in omega (arith, z)) | inr x ↦ x ]
not_shared (inr l) = let z = other_once in omega (arith, l, z)

not_led : IsLedTo dll (At 0 ∷ []) u_trees 1 → ⊥
not_led h = by h.from h.other h.led
  where
    by : (i : ℕ) → i ≢ 1 → LeadsBack dll u_trees i 1 1 → ⊥
    by zero n l = u_not_led l
    by (suc zero) n l = n refl
    by (suc (suc i)) n l = elim
        (rw u_ways at (subst (λ (y : Tree). IsIn l.2.0 (ways y)) (sym (same_Some u_tree l.0 l.1)) l.2.1)) [
          | inl e ↦ (let z : 0 ≡ suc (suc i) = sym (ap (λ (w : Way). w.root) e) ∙ l.2.2 in omega (arith, z))
          | inr k ↦ elim k [
            | inl e ↦ (let z : 1 ≡ suc (suc i) = sym (ap (λ (w : Way). w.root) e) ∙ l.2.2 in omega (arith, z))
            | inr x ↦ x
          ]
        ]

abbrev symbol_root : Symbol → ℕ
symbol_root (Ref r) = r
symbol_root y = 9

null_top : (out-Tree null).symbol ≡ Null
null_top = let e = out-roll-Tree (record { symbol = Null; children = [] }) in rw e refl

no_null_refers : (t : Tree) → IsIn t (null ∷ null ∷ []) → (out-Tree t).symbol ≡ Ref 1 → ⊥
no_null_refers t (inl i) e =
    let z : 9 ≡ 1 = ap symbol_root (sym null_top ∙ sym (ap (λ (x : Tree). (out-Tree x).symbol) i) ∙ e) in
    omega (arith, z)
no_null_refers t (inr (inl i)) e =
    let z : 9 ≡ 1 = ap symbol_root (sym null_top ∙ sym (ap (λ (x : Tree). (out-Tree x).symbol) i) ∙ e) in
    omega (arith, z)
no_null_refers t (inr (inr x)) e = x

not_knot : IsKnot (At 0 ∷ []) u_trees 1 → ⊥
not_knot h = by h.from h.shared h.is_above
  where
    by : (i : ℕ) → IsShared (At 0 ∷ []) u_trees i → slice_get u_trees i ≡ Some h.above → ⊥
    by zero s a = no_null_refers h.leaf
        (rw tail_fields at
        (subst (λ (z : Tree). IsIn h.leaf (field_trees z)) (sym (same_Some root_cell h.above a)) h.in_field)) h.refers
    by (suc zero) s a = not_shared s
    by (suc (suc i)) s a = none-some h.above a

other_not_canonical : IsCanonical dll_face other_forest → ⊥
other_not_canonical h = elim (h.kinds u_trees (tail_runs, (other_runs, tt)) 1 (omega arith))
    [ inl s ↦ not_shared s | inr k ↦ elim k [ inl l ↦ not_led l | inr n ↦ not_knot n ] ]
