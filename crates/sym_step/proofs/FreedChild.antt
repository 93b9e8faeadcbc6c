-- Where a cell is freed in a field of which a cell of its own stands, and no way back leads to that cell, nothing names
-- it any more: a leak.
use Rattle.std.proofs.Common.{◌≡◌, ◌≢◌, ◌⊎◌, inl, inr, ℕ, zero, suc, ◌<◌, Bool, true, false, nat_eq, length}
use Rattle.std.proofs.Common.{if◌then◌else◌}
use Rattle.std.proofs.Common.{List, [], ◌∷◌, ◌++◌, map, refl, sym, ap, subst, ◌∙◌, true≢false, Some, slice_index_or}
use Rattle.std.proofs.Common.{slice_get, arith}
use Rattle.std.proofs.lemmas.Bool.{eqb-true, eq-eqb}
use Rattle.std.proofs.lemmas.Option.{none-some, same_Some}
use Rattle.std.proofs.Math.ListN.{get_or-map}
use Rattle.fore_base.specs.Heap.{Reach, by_var, by_field, Leaked, leaks}
use Rattle.fore_base.specs.Lists.{IsIn, Every, IsDistinct}
use Rattle.fore_base.specs.Stores.{dangle, dangle_in, without, var_of, freed}
use Rattle.fore_base.specs.declared.fault.Fault.TheVariants.{Leak}
use Rattle.fore_base.specs.declared.shape.Shape.{Shape}
use Rattle.fore_base.specs.declared.store.CellRec.{CellRec}
use Rattle.fore_base.specs.declared.store.Datum.{Datum}
use Rattle.fore_base.specs.declared.store.Store.{Store}
use Rattle.fore_base.specs.declared.store.Value.{Value}
use Rattle.fore_base.specs.declared.store.Value.TheVariants.{Null as NullValue, Uninit as UninitValue}
use Rattle.fore_base.specs.declared.store.Value.TheVariants.{Dangling as DanglingValue, Cell}
use Rattle.fore_base.proofs.Leaks.{sound_unleaked}
use Rattle.fore_base.proofs.ListLemmas.{in_map, in_mapped, in_left, in_right, every_in}
use Rattle.ta_core.specs.Auto.{IsRanked}
use Rattle.ta_core.specs.Language.{InLanguage}
use Rattle.ta_core.specs.declared.symbol.Slot.{Slot}
use Rattle.ta_core.specs.declared.tree.Tree.{Tree}
use Rattle.fa_core.specs.declared.boxes.BoxDef.{BoxDef}
use Rattle.fa_core.specs.declared.faces.BoxFace.{BoxFace}
use Rattle.fa_core.specs.declared.faces.Face.{Face}
use Rattle.fa_core.specs.declared.forest.Forest.{Forest}
use Rattle.fa_core.specs.declared.forest.Target.TheVariants.{Null, Uninit, At}
use Rattle.fa_core.specs.declared.signature.RefMark.{RefMark}
use Rattle.fa_core.specs.Boxes.{Boxes, IsTableOf, Reaches, named, through, head_of, heads}
use Rattle.fa_core.specs.Canonical.{RefersTo}
use Rattle.fa_core.specs.Choices.{all_numbers, bares, count, numbers}
use Rattle.fa_core.specs.Dressed.{Node, Parts, Nodes, node, no_nodes, more, under, leaf, number, Points, facts, refs}
use Rattle.fa_core.specs.Dressed.{all_refs, forest_facts, nth_value, roots_of, value_in}
use Rattle.fa_core.specs.Filled.{IsFilled, IsSound}
use Rattle.fa_core.specs.Member.{OfForest, Stands, StandsBy, bare, slots_of}
use Rattle.fa_core.specs.References.{AllBelow}
use Rattle.fa_core.specs.Ways.{Way, any_back, leads_back, led_to, mark, signature, to_root, ways}
use Rattle.fa_core.proofs.Permuted.{distinct_moved, distinct_parts, in_rearranged, none_in_both}
use Rattle.fa_core.proofs.Rearranging.{back, flat_map-append, flat_mapped}
use Rattle.fa_core.proofs.WaysOf.{tree_roots}
use Rattle.fa_merge.specs.Dropped.{without_cell}
use Rattle.fa_back.specs.Reached.{RootReached, by_var as root_var, by_tree, by_way, node_at}
use Rattle.fa_back.specs.inner.Hops.{Edge, forest_edges, forest_own}
use Rattle.fa_back.proofs.Apart.{forest_numbers, inner}
use Rattle.fa_back.proofs.CellsReached.{EdgeSound, kept, reached_met}
use Rattle.fa_back.proofs.FactParts.{in_all, node_root, number_of, top_in}
use Rattle.fa_back.proofs.ForestLaws.{sound as edges_sound}
use Rattle.fa_back.proofs.Insides.{root_head}
use Rattle.fa_back.proofs.MetHops.{tree_at as tree_of}
use Rattle.fa_back.proofs.RootMarks.{back_any, in_to_root, mark_in, reach_in_mark, reach_refers, way_led}
use Rattle.fa_back.proofs.StoreLaws.{cell_number, differ, pointer_stored, same_numbers}
use Rattle.fa_merge.proofs.OtherOrders.{count_trees}
use Rattle.fa_sound.specs.Components.{component_at}
use Rattle.fa_split.specs.Split.{CanSplit, end_at, set_end, set_node, split_cells, top_parts, with_end, with_last}
use Rattle.fa_split.proofs.OtherComponent.{tree_at}
use Rattle.fa_split.proofs.Places.{end_set, first_node, last_node, node_less, node_set, other_node, roots_set}
use Rattle.fa_split.proofs.Places.{set_count, set_twice, slots_set}
use Rattle.fa_split.proofs.SplitCells.{all_below, of_taken, refers_well}
use Rattle.fa_opening.specs.Opened.{HasFieldsAlone, IsField}
use Rattle.fa_opening.proofs.SlotEdges.{top_slots}
use Rattle.c_cfg.specs.Edges.{Passed, Faulted, onto, leak_tested, gstep, choice_of, raw_step}
use Rattle.c_cfg.specs.declared.graph.Edge.{Edge as GraphEdge}
use Rattle.c_cfg.specs.declared.graph.Instr.{Instr}
use Rattle.sym_step.specs.Freed.{NeverLeadsBack}
use Rattle.sym_step.specs.inner.Opening.{IsFreeAt}
use Rattle.sym_step.proofs.NulledFields.{AllSame, child_refs, forest_edged, forest_same, nulled_refs, same_heads}
use Rattle.sym_step.proofs.NulledFields.{same_other, tree_edged, tree_same}
use Rattle.sym_step.proofs.Pieces.{cells_count, same_or_other}

-- the leak test is true where the store has leaked
pub leaked_leaks : (s : Store) → Leaked s → leaks s ≡ true
leaked_leaks s l = here (leaks s) refl
  where
    here : (b : Bool) → leaks s ≡ b → leaks s ≡ true
    here true e = e
    here false e = absurd (sound_unleaked s e l)

-- a value that names a cell where another is freed named it before
dangle_cell : (c m : ℕ) (v : Value) → dangle c v ≡ Cell m → v ≡ Cell m
dangle_cell c m NullValue h = h
dangle_cell c m UninitValue h = h
dangle_cell c m DanglingValue h = h
dangle_cell c m (Cell n) h = here (nat_eq n c) h
  where
    IsCell : Value → Type 0
    IsCell (Cell k) = Unit {0}
    IsCell NullValue = ⊥
    IsCell UninitValue = ⊥
    IsCell DanglingValue = ⊥

    here : (b : Bool) → (if b then DanglingValue else Cell n) ≡ Cell m → Cell n ≡ Cell m
    here true e = absurd (subst IsCell (sym e) tt)
    here false e = e

-- a cell with another number stays
cell_left : (c : ℕ) (cs : List CellRec) (x : CellRec) → IsIn x cs → x.number ≢ c → IsIn (dangle_in c x) (without c cs)
cell_left c [] x i d = absurd i
cell_left c (y ∷ cs) x (inl e) d = here (nat_eq y.number c) refl
  where
    here : (b : Bool) → nat_eq y.number c ≡ b
        → IsIn (dangle_in c x) (if b then without c cs else dangle_in c y ∷ without c cs)
    here true q = absurd (d (ap (λ (z : CellRec). z.number) e ∙ eqb-true y.number c q))
    here false q = inl (ap (dangle_in c) e)
cell_left c (y ∷ cs) x (inr i) d = here (nat_eq y.number c) (cell_left c cs x i d)
  where
    here : (b : Bool) → IsIn (dangle_in c x) (without c cs)
        → IsIn (dangle_in c x) (if b then without c cs else dangle_in c y ∷ without c cs)
    here true k = k
    here false k = inr k

-- a cell that is left was there under another number than the freed one
abbrev WasCell : ℕ → List CellRec → CellRec → Type 0
WasCell c cs y = (x : CellRec) × IsIn x cs × (x.number ≢ c) × (y ≡ dangle_in c x)

left_cell : (c : ℕ) (cs : List CellRec) (y : CellRec) → IsIn y (without c cs) → WasCell c cs y
left_cell c [] y i = absurd i
left_cell c (x ∷ cs) y i = here (nat_eq x.number c) refl (λ j. left_cell c cs y j) i
  where
    later : WasCell c cs y → WasCell c (x ∷ cs) y
    later k = (k.0, inr k.1, k.2, k.3)

    here : (b : Bool) → nat_eq x.number c ≡ b → (IsIn y (without c cs) → WasCell c cs y)
        → IsIn y (if b then without c cs else dangle_in c x ∷ without c cs) → WasCell c (x ∷ cs) y
    here true q rec j = later (rec j)
    here false q rec (inl e) = (x, inl refl, (λ w. true≢false (sym (eq-eqb x.number c w) ∙ q)), e)
    here false q rec (inr j) = later (rec j)

-- Trees of dressed forests.

-- no two roots are one cell
two_roots : (d : Nodes) → IsDistinct (all_numbers d) → (r j : ℕ) (x y : Node) → node_at d r ≡ Some x
    → node_at d j ≡ Some y → number x ≡ number y → r ≢ j → ⊥
two_roots no_nodes a r j x y e w n h = none-some x e
two_roots (more z ns) a zero zero x y e w n h = h refl
two_roots (more z ns) a zero (suc j) x y e w n h =
    none_in_both (number x) (numbers z) (all_numbers ns) a
    (subst (λ (u : Node). IsIn (number x) (numbers u)) (sym (same_Some z x e)) (top_in x))
    (in_all ns j (number x) y w (subst (λ (k : ℕ). IsIn k (numbers y)) (sym n) (top_in y)))
two_roots (more z ns) a (suc r) zero x y e w n h =
    none_in_both (number y) (numbers z) (all_numbers ns) a
    (subst (λ (u : Node). IsIn (number y) (numbers u)) (sym (same_Some z y w)) (top_in y))
    (in_all ns r (number y) x e (subst (λ (k : ℕ). IsIn k (numbers x)) n (top_in x)))
two_roots (more z ns) a (suc r) (suc j) x y e w n h =
    two_roots ns (distinct_parts (numbers z) (all_numbers ns) a).1 r j x y e w n (λ q. h (ap (λ (k : ℕ). suc k) q))

refs_among : (d : Nodes) (j k : ℕ) (x : Node) → node_at d j ≡ Some x → IsIn k (refs x) → IsIn k (all_refs d)
refs_among no_nodes j k x e i = absurd (none-some x e)
refs_among (more z ns) zero k x e i =
    in_left k (refs z) (all_refs ns) (subst (λ (u : Node). IsIn k (refs u)) (sym (same_Some z x e)) i)
refs_among (more z ns) (suc j) k x e i = in_right k (refs z) (all_refs ns) (refs_among ns j k x e i)

-- a tree among those with one more behind them is one of them, or that one
among_last : (ns : Nodes) (m : Node) (j : ℕ) (x : Node) → node_at (with_last ns m) j ≡ Some x
    → (node_at ns j ≡ Some x) ⊎ (x ≡ m)
among_last no_nodes m zero x e = inr (sym (same_Some m x e))
among_last no_nodes m (suc j) x e = absurd (none-some x e)
among_last (more n ns) m zero x e = inl e
among_last (more n ns) m (suc j) x e = among_last ns m j x e

refers_refs : (x : Node) (k : ℕ) → RefersTo (bare x) k → IsIn k (refs x)
refers_refs x k i = subst (λ (ks : List ℕ). IsIn k ks) (tree_roots x) i

module _ (face : Face) (T : List BoxDef) (table : IsTableOf face T) (F : Forest) (r p : ℕ) (sound : IsSound face F)
    (ranked : Every IsRanked F.autos) (can : CanSplit F r p) (fields : HasFieldsAlone F r)
    (filled : IsFilled face (split_cells F r p))
    (forward : NeverLeadsBack face.boxes (split_cells F r p) (length F.autos)) (d : Nodes) (s : Store)
    (h : StandsBy face.shapes.structs T (split_cells F r p) d s) where
  abbrev H : Forest
  H = split_cells F r p

  abbrev bs : List BoxFace
  bs = face.boxes

  abbrev t : Boxes
  t = record { face = face; defs = T }

  -- d is a dressed forest of F with the child of the root's cell c taken out
  module _ (d0 : Nodes) (of : OfForest T F d0) (c sh : ℕ) (ds : List Datum) (qs : Parts) (m : Node)
      (is_above : node_at d0 r ≡ Some (node c sh ds qs)) (is_child : end_at p qs ≡ Some (under m))
      (is : d ≡ with_last (set_node r (node c sh ds (set_end p (leaf (At (count d0))) qs)) d0) m) where
    abbrev n : ℕ
    n = count d0

    abbrev ps : Parts
    ps = set_end p (leaf (At (count d0))) qs

    abbrev old : Node
    old = node c sh ds ps

    abbrev ns : Nodes
    ns = set_node r old d0

    -- a null pointer in the place of the reference to the child
    abbrev nulled : Node
    nulled = node c sh ds (set_end p (leaf Null) ps)

    abbrev e : Nodes
    e = set_node r nulled d

    many : n ≡ length F.autos
    many = count_trees T F.autos d0 of

    low : r < n
    low = node_less d0 r (node c sh ds qs) is_above

    apart : r ≢ n
    apart q = let l = low in omega (arith, l, q)

    plain : Every IsField (slots_of ps)
    plain = subst (λ (ss : List Slot). Every IsField ss)
        (top_slots T F d0 of r can.root can.top c sh ds qs is_above ∙ sym (slots_set p (leaf (At n)) qs)) fields

    end : end_at p ps ≡ Some (leaf (At n))
    end = end_set p qs (under m) (leaf (At n)) is_child

    long : count ns ≡ n
    long = set_count r old d0

    at_old : node_at d r ≡ Some old
    at_old = ap (λ (z : Nodes). node_at z r) is
        ∙ first_node ns m r (let l = low in let k = long in omega (arith, l, k))
        ∙ node_set r d0 (node c sh ds qs) old is_above

    at_child : node_at d n ≡ Some m
    at_child = ap (λ (z : Nodes). node_at z n) is
        ∙ subst (λ (k : ℕ). node_at (with_last ns m) k ≡ Some m) long (last_node ns m)

    child_stays : node_at e n ≡ Some m
    child_stays = other_node r nulled d n (λ q. apart (sym q)) ∙ at_child

    roots : roots_of e ≡ roots_of d
    roots = roots_set r d old nulled at_old refl

    edges : forest_edges bs (roots_of e) e ≡ forest_edges bs (roots_of d) d
    edges = ap (λ (vs : List Value). forest_edges bs vs e) roots
        ∙ forest_edged (roots_of d) c p (At n) bs old nulled
        (tree_edged (roots_of d) c p (At n) bs sh ds ps plain end) d r at_old

    same : AllSame c (facts d) (facts e)
    same = subst (λ (vs : List Value). AllSame c (facts d) (forest_facts vs [] e))
        (sym roots)
        (forest_same (roots_of d) c p (At n) old nulled (tree_same (roots_of d) c p (At n) sh ds ps plain end) d r
        at_old)

    -- Cells all differ.

    all_apart : IsDistinct (heads (facts d))
    all_apart = differ face.shapes.structs T H d s h

    numbers_apart : IsDistinct (all_numbers d)
    numbers_apart =
        (distinct_parts (all_numbers d) (heads (inner (forest_edges bs (roots_of d) d)))
        (subst
        (λ (z : List ℕ). IsDistinct (z ++ heads (inner (forest_edges bs (roots_of d) d))))
        (forest_numbers bs (roots_of d) d)
        (rw (flat_map-append head_of (forest_own (roots_of d) d)
        (inner (forest_edges bs (roots_of d) d)))
        at (distinct_moved (flat_mapped head_of (kept bs H.vars d edge_sound)) all_apart)))).0
      where
        edge_sound : (x : Edge) → IsIn x (forest_edges bs (roots_of d) d) → EdgeSound x
        edge_sound = edges_sound t H d (record { table = table; filled = filled; of = h.of })

    other : number m ≢ c
    other q = two_roots d numbers_apart r n old m at_old at_child (sym q) apart

    -- What is reached in the store without c is reached by the facts with the null pointer.

    reach : (k : ℕ) → Reach (without_cell c s) k → Reaches (map (value_in (roots_of e)) H.vars) (facts e) k
    reach k (by_var i) =
        let w = in_mapped (dangle c) (Cell k) s.vars i in
        named (subst (λ (vs : List Value). IsIn (Cell k) (map (value_in vs) H.vars)) (sym roots)
        (subst (λ (vs : List Value). IsIn (Cell k) vs) h.vars
        (subst (λ (v : Value). IsIn v s.vars) (dangle_cell c k w.0 (sym w.2)) w.1)))
    reach k (by_field y i w j) =
        let z = left_cell c s.cells y i in
        let l = in_mapped (dangle c) (Cell k) z.0.fields (subst (λ (u : CellRec). IsIn (Cell k) u.fields) z.3 j) in
        let f = pointer_stored s.cells z.0 (Cell k) z.1
        (subst (λ (v : Value). IsIn v z.0.fields) (dangle_cell c k l.0 (sym l.2)) l.1) in
        through z.0.number f.0
        (subst (Reaches (map (value_in (roots_of e)) H.vars) (facts e)) (ap (λ (u : CellRec). u.number) z.3)
        (reach y.number w))
        (same_other c z.0.number f.0 (Cell k) z.2 (facts d) (facts e) same
        (in_rearranged (Points z.0.number f.0 (Cell k)) (back h.same_facts) f.1))

    -- No tree refers to the child, and no way back leads to it.

    below : AllBelow n (all_refs d0)
    below = all_below T F d0 (refers_well face F sound) of

    not_below : (x : Node) (j : ℕ) → node_at d0 j ≡ Some x → IsIn n (refs x) → ⊥
    not_below x j q i =
        let l : n < n = every_in (λ (k : ℕ). k < n) (all_refs d0) n below (refs_among d0 j n x q i) in omega (arith, l)

    no_ref : (j : ℕ) (x : Node) → node_at e j ≡ Some x → IsIn n (refs x) → ⊥
    no_ref j x q i = elim (same_or_other j r) [
      | inl w ↦
          let z : nulled ≡ x = same_Some nulled x
          (sym (node_set r d old nulled at_old) ∙ ap (λ (k : ℕ). node_at e k) (sym w) ∙ q) in
          let twice : nulled ≡ node c sh ds (set_end p (leaf Null) qs) =
          ap (node c sh ds) (set_twice p qs (leaf Null) (leaf (At n))) in
          not_below (node c sh ds qs) r is_above
          (nulled_refs n p (node c sh ds qs)
          (subst (λ (u : Node). IsIn n (refs u)) (sym z ∙ twice) i))
      | inr w ↦ elim (among_last ns m j x
          (ap (λ (u : Nodes). node_at u j) (sym is) ∙ sym (other_node r nulled d j w) ∙ q)) [
            | inl k ↦ not_below x j (sym (other_node r old d0 j w) ∙ k) i
            | inr k ↦ not_below (node c sh ds qs) r is_above
                (child_refs n p (node c sh ds qs) m is_child (subst (λ (u : Node). IsIn n (refs u)) k i))
          ]
    ]

    no_tree : (j : ℕ) (u : Tree) → slice_get (bares e) j ≡ Some u → RefersTo u n → ⊥
    no_tree j u q i =
        let k = tree_of e j u q in
        no_ref j k.0 k.1 (refers_refs k.0 n (subst (λ (z : Tree). RefersTo z n) (sym k.2) i))

    child_marks : Every (λ (z : RefMark). z.back ≡ false) (signature bs (bare m))
    child_marks =
        let cells = cells_count F r p ranked can in
        let k = tree_at T H.autos (length F.autos) d (omega (arith, cells)) h.of in
        let w : k.0 ≡ m = same_Some k.0 m (sym k.1 ∙ subst (λ (z : ℕ). node_at d z ≡ Some m) many at_child) in
        forward (bare m) (subst (λ (z : Node). InLanguage (component_at H.autos (length F.autos)) (bare z)) w k.2)

    no_way : (i : ℕ) (v : Way) → IsIn v (ways (bare m)) → v.root ≡ i
        → (leads_back bs v.steps ≡ true) → ⊥
    no_way i v j q w =
        let k = mark_in bs (bare m) i
        (subst (RefersTo (bare m)) q (in_map (λ (z : Way). z.root) v (ways (bare m)) j)) in
        true≢false
        (sym (back_any bs (to_root i (ways (bare m))) v (in_to_root i (ways (bare m)) v j q) w)
        ∙ every_in (λ (z : RefMark). z.back ≡ false) (signature bs (bare m)) (mark bs (ways (bare m)) i) child_marks k)

    never : RootReached bs H.vars (bares e) n → ⊥
    never (root_var i) = let l = (refers_well face F sound).vars n i in let k = many in omega (arith, l, k)
    never (by_tree i u w q k) = no_tree i u q k
    never (by_way i j w (u, q, (v, a, b, inl (k, l)))) =
        let x = tree_of e j u q in
        let y : x.0 ≡ m = same_Some x.0 m (sym x.1 ∙ subst (λ (z : ℕ). node_at e z ≡ Some m) k child_stays) in
        no_way i v (subst (λ (z : Tree). IsIn v (ways z)) (sym x.2 ∙ ap bare y) a) b l
    never (by_way i j w (u, q, (v, a, b, inr k))) =
        no_tree j u q (reach_refers bs u i n (reach_in_mark bs u i n (way_led bs u i n v a b k)))

    -- so the child's cell is not reached
    pub freed_leaks : Leaked (without_cell c s)
    freed_leaks =
        let i : IsIn (number m) (map cell_number s.cells) =
        in_rearranged (number m) (same_numbers face.shapes.structs T H d s h)
        (root_head (roots_of d) d n (number m) (node_root d n m at_child)) in
        let k = in_mapped cell_number (number m) s.cells i in
        record {
          cell = dangle_in c k.0;
          is_there = cell_left c s.cells k.0 k.1 (λ w. other (k.2 ∙ w));
          unreached = λ w. never
              (reached_met bs H.vars e edge_sound
              (subst IsDistinct (same_heads c (facts d) (facts e) same) all_apart) n (number m)
              (reach (number m) (subst (Reach (without_cell c s)) (sym k.2) w)) (node_root e n m child_stays));
        }
      where
        edge_sound : (x : Edge) → IsIn x (forest_edges bs (roots_of e) e) → EdgeSound x
        edge_sound x i = edges_sound t H d (record { table = table; filled = filled; of = h.of }) x
            (subst (λ (es : List Edge). IsIn x es) edges i)

    -- and the edge that frees the root's cell ends in a leak
    free_leaks : (g : GraphEdge) → IsFreeAt F g r → gstep face.shapes.structs g s ≡ Faulted Leak
    free_leaks g (b, instr, at) =
        let var : var_of s b ≡ Cell c =
        ap (λ (vs : List Value). get_value vs b) h.vars
        ∙ get_or-map (value_in (roots_of d)) H.vars b Uninit
        ∙ ap (value_in (roots_of d)) at
        ∙ node_root d r old at_old in
        ap (λ (i : Instr). leak_tested (raw_step face.shapes.structs i (choice_of g.choice) s)) instr
        ∙ ap (λ (v : Value). leak_tested (onto (freed s v) Passed)) var
        ∙ ap (λ (l : Bool). if l then Faulted Leak else Passed (without_cell c s))
        (leaked_leaks (without_cell c s) freed_leaks)
      where
        get_value : List Value → ℕ → Value
        get_value vs k = slice_index_or vs k UninitValue

-- Each member of the forest in which the child's cells are a root meets a leak where the cell above is freed.
pub cells_leak : (face : Face) (T : List BoxDef) → IsTableOf face T → (F : Forest) (r p : ℕ) → IsSound face F
    → Every IsRanked F.autos → CanSplit F r p → HasFieldsAlone F r → IsFilled face (split_cells F r p)
    → NeverLeadsBack face.boxes (split_cells F r p) (length F.autos) → (g : GraphEdge) → IsFreeAt F g r → (s : Store)
    → Stands face.shapes.structs T (split_cells F r p) s → gstep face.shapes.structs g s ≡ Faulted Leak
cells_leak face T table F r p sound ranked can fields filled forward g frees s (d, h) =
    let k = of_taken F r p ranked can T d h.of in
    here k.0 k.1 k.2.above k.2.is_above k.2.child k.2.is_child k.2.taken
  where
    here : (d0 : Nodes) → OfForest T F d0 → (x : Node) → node_at d0 r ≡ Some x → (m : Node)
        → end_at p (top_parts x) ≡ Some (under m)
        → d ≡ with_last (set_node r (with_end p (leaf (At (count d0))) x) d0) m
        → gstep face.shapes.structs g s ≡ Faulted Leak
    here d0 of (node c sh ds qs) at m e is =
        free_leaks face T table F r p sound ranked can fields filled forward d s h d0 of c sh ds qs m at e is g frees
