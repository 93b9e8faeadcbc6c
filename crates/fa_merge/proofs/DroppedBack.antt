-- A store of the forest without a root is a store of the forest without the root's cell.
use Rattle.std.proofs.Common.{◌≡◌, inl, inr, ℕ, zero, suc, ◌<◌, ◌+◌, Bool, true, false, true≢false, if◌then◌else◌}
use Rattle.std.proofs.Common.{nat_eq}
use Rattle.std.proofs.Common.{length, List, [], ◌∷◌, ◌++◌, map, flat_map, refl, sym, ap, ap₂, subst, ◌∙◌, Some}
use Rattle.std.proofs.Common.{arith}
use Rattle.std.proofs.lemmas.Bool.{eqb-true, eq-eqb}
use Rattle.std.proofs.lemmas.List.Sorted.{IsPermutation-refl}
use Rattle.std.proofs.lemmas.Option.{none-some, same_Some}
use Rattle.std.specs.List.Sorted.{IsPermutation}
use Rattle.fore_base.specs.Heap.{HasCell, NamesCell, AllDiffer, IsProper, IsAlike, value_renamed, cell_renamed}
use Rattle.fore_base.specs.Lists.{IsIn, Every}
use Rattle.fore_base.specs.Shapes.{targets_of}
use Rattle.fore_base.specs.Stores.{dangle, dangle_in, without}
use Rattle.fore_base.specs.declared.shape.Shape.{Shape}
use Rattle.fore_base.specs.declared.store.CellRec.{CellRec}
use Rattle.fore_base.specs.declared.store.Datum.{Datum}
use Rattle.fore_base.specs.declared.store.Store.{Store}
use Rattle.fore_base.specs.declared.store.Value.{Value}
use Rattle.fore_base.specs.declared.store.Value.TheVariants.{Null as NullValue, Uninit as UninitValue}
use Rattle.fore_base.specs.declared.store.Value.TheVariants.{Dangling as DanglingValue, Cell}
use Rattle.fore_base.proofs.ListLemmas.{in_right, every_weaker, every_map, every_mapped}
use Rattle.fa_core.specs.declared.boxes.BoxDef.{BoxDef}
use Rattle.fa_core.specs.declared.faces.BoxFace.{BoxFace}
use Rattle.fa_core.specs.declared.faces.Face.{Face}
use Rattle.fa_core.specs.declared.forest.Forest.{Forest}
use Rattle.fa_core.specs.declared.forest.Target.{Target}
use Rattle.fa_core.specs.declared.forest.Target.TheVariants.{Null, Uninit, Dangling, At}
use Rattle.fa_core.specs.Boxes.{IsTableOf, head_of, heads}
use Rattle.fa_core.specs.Dressed.{Node, Parts, Nodes, node, no_parts, field, link, hook, under, leaf, no_nodes, more}
use Rattle.fa_core.specs.Dressed.{Fact, Head, Points, facts, tree_facts, slot_facts, forest_facts, value_in, nth_value}
use Rattle.fa_core.specs.Dressed.{roots_of, number}
use Rattle.fa_core.specs.Filled.{IsFilled, covers, fields_of}
use Rattle.fa_core.specs.Member.{OfForest, StandsBy, HasItsFields, store_facts, cell_facts, points, slots_of}
use Rattle.fa_core.specs.Placed.{placed_all}
use Rattle.fa_core.specs.Rearranged.{Rearranged, keep, chain}
use Rattle.fa_core.proofs.Permuted.{in_rearranged}
use Rattle.fa_core.proofs.Given.{root_numbers}
use Rattle.fa_core.proofs.Rearranging.{back, both, flat_map-append, every_moved}
use Rattle.fa_merge.specs.Dropped.{drop_leaf, without_node, dropped, AreLeaves, IsFlatRoot, IsIdle, IsCut, Restores}
use Rattle.fa_back.specs.Reached.{node_at}
use Rattle.fa_merge.specs.Dropped.{without_cell}
use Rattle.fa_merge.proofs.DroppedClear.{bound_all, bound_same, above_all, own_once, all_clear}
use Rattle.fa_merge.proofs.DroppedFacts.{insides_in, insides_without, leaves_dropped, facts_dropped, root_first}
use Rattle.fa_merge.proofs.DroppedInsides.{dangle_fact, dangle_self, NoFact, HaveInputs, table_inputs}
use Rattle.fa_back.proofs.FactParts.{fact_cell, fact_value}
use Rattle.fa_merge.proofs.FieldFacts.{no_list, first_same, later_same, unmap, split_map, is_head, fact_field, IsOwn}
use Rattle.fa_merge.proofs.FieldFacts.{in_order, fact_count}
use Rattle.fa_back.proofs.StoreLaws.{has_cell, same_numbers as heads_numbered}

-- The cells of a store.

-- the cells of the facts, if their values are Dangling where they name c
module _ (c : ℕ) where
  points_lift : (n k : ℕ) (xs : List Fact) (us : List Value) → map (dangle_fact c) xs ≡ points n k us
      → (ws : List Value) × (points n k ws ≡ xs) × (map (dangle c) ws ≡ us)
  points_lift n k [] [] e = ([], refl, refl)
  points_lift n k [] (u ∷ us) e = absurd (no_list e)
  points_lift n k (x ∷ xs) [] e = absurd (no_list (sym e))
  points_lift n k (Head m s ds ∷ xs) (u ∷ us) e = absurd (true≢false (ap is_head (first_same e)))
  points_lift n k (Points m f w ∷ xs) (u ∷ us) e =
      let p = points_lift n (suc k) xs us (later_same e) in
      let h : Points m f (dangle c w) ≡ Points n k u = first_same e in (
        w ∷ p.0,
        ap₂ (λ (x : Fact) (ys : List Fact). x ∷ ys)
            (ap₂ (λ (y g : ℕ). Points y g w) (sym (ap fact_cell h)) (sym (ap fact_field h))) p.1,
        ap₂ (λ (y : Value) (ys : List Value). y ∷ ys) (ap fact_value h) p.2,
      )

  store_lift : (xs : List Fact) (cs : List CellRec) → map (dangle_fact c) xs ≡ store_facts cs → (ks : List CellRec)
      × (store_facts ks ≡ xs) × (map (dangle_in c) ks ≡ cs)
  store_lift [] [] e = ([], refl, refl)
  store_lift (x ∷ xs) [] e = absurd (no_list (sym e))
  store_lift [] (y ∷ cs) e = absurd (no_list e)
  store_lift (Points m f w ∷ xs) (y ∷ cs) e = absurd (true≢false (ap is_head (sym (first_same e))))
  store_lift (Head m s ds ∷ xs) (y ∷ cs) e =
      let k = split_map (dangle_fact c) xs (points y.number 0 y.fields) (store_facts cs) (later_same e) in
      let p = points_lift y.number 0 k.0 y.fields k.3 in
      let q = store_lift k.1 cs k.4 in (
        record y { fields = p.0 } ∷ q.0,
        ap₂ (λ (x : Fact) (ys : List Fact). x ∷ ys) (sym (first_same e))
            (ap₂ (λ (ys zs : List Fact). ys ++ zs) p.1 q.1 ∙ sym k.2),
        ap₂ (λ (fs : List Value) (ys : List CellRec). record y { fields = fs } ∷ ys) p.2 q.2,
      )

  -- Cells whose values are Dangling where they name c.

  was_there : (ks : List CellRec) (n : ℕ) → HasCell (map (dangle_in c) ks) n → HasCell ks n
  was_there [] n h = h
  was_there (x ∷ ks) n (inl e) = inl e
  was_there (x ∷ ks) n (inr h) = inr (was_there ks n h)

  is_there : (ks : List CellRec) (n : ℕ) → HasCell ks n → HasCell (map (dangle_in c) ks) n
  is_there [] n h = h
  is_there (x ∷ ks) n (inl e) = inl e
  is_there (x ∷ ks) n (inr h) = inr (is_there ks n h)

  did_differ : (ks : List CellRec) → AllDiffer (map (dangle_in c) ks) → AllDiffer ks
  did_differ [] h = tt
  did_differ (x ∷ ks) h = ((λ i. h.0 (is_there ks x.number i)), did_differ ks h.1)

  -- c is none of them
  none_left : (ks : List CellRec) → (HasCell ks c → ⊥) → without c ks ≡ map (dangle_in c) ks
  none_left [] h = refl
  none_left (x ∷ ks) h = here (nat_eq x.number c) refl (none_left ks (λ i. h (inr i)))
    where
      here : (b : Bool) → nat_eq x.number c ≡ b → without c ks ≡ map (dangle_in c) ks
          → (if b then without c ks else dangle_in c x ∷ without c ks) ≡ dangle_in c x ∷ map (dangle_in c) ks
      here true e k = absurd (h (inl (eqb-true x.number c e)))
      here false e k = ap (λ (z : List CellRec). dangle_in c x ∷ z) k

  -- values with c among the cells again
  name_back : (x : CellRec) (ks : List CellRec) → x.number ≡ c → (v : Value)
      → NamesCell (map (dangle_in c) ks) (dangle c v) → NamesCell (x ∷ ks) v
  name_back x ks e NullValue h = tt
  name_back x ks e UninitValue h = tt
  name_back x ks e DanglingValue h = tt
  name_back x ks e (Cell n) h = here (nat_eq n c) refl h
    where
      here : (b : Bool) → nat_eq n c ≡ b → NamesCell (map (dangle_in c) ks) (if b then DanglingValue else Cell n)
          → HasCell (x ∷ ks) n
      here true q k = inl (e ∙ sym (eqb-true n c q))
      here false q k = inr (was_there ks n k)

  names_back : (x : CellRec) (ks : List CellRec) → x.number ≡ c → (vs : List Value)
      → Every (NamesCell (map (dangle_in c) ks)) (map (dangle c) vs) → Every (NamesCell (x ∷ ks)) vs
  names_back x ks e [] h = tt
  names_back x ks e (v ∷ vs) h = (name_back x ks e v h.0, names_back x ks e vs h.1)

  as_many : (vs : List Value) → length (map (dangle c) vs) ≡ length vs
  as_many [] = refl
  as_many (v ∷ vs) = ap (λ (n : ℕ). suc n) (as_many vs)

-- The root's cell.

-- its slots are its fields
flat_fields : (bs : List BoxFace) (vs : List Value) (c : ℕ) (ps : Parts) → AreLeaves ps
    → map fact_field (slot_facts vs c ps) ≡ flat_map (covers bs) (slots_of ps)
flat_fields bs vs c no_parts h = refl
flat_fields bs vs c (field f (leaf t) ps) h = ap (λ (z : List ℕ). f ∷ z) (flat_fields bs vs c ps h)
flat_fields bs vs c (field f (under n) ps) h = absurd h
flat_fields bs vs c (link b i e ps) h = absurd h
flat_fields bs vs c (hook b i ps) h = absurd h

flat_own : (vs : List Value) (c : ℕ) (ps : Parts) → AreLeaves ps → Every (IsOwn c) (slot_facts vs c ps)
flat_own vs c no_parts h = tt
flat_own vs c (field f (leaf t) ps) h = (refl, flat_own vs c ps h)
flat_own vs c (field f (under n) ps) h = absurd h
flat_own vs c (link b i e ps) h = absurd h
flat_own vs c (hook b i ps) h = absurd h

-- the value at each of its slots is what a leaf is
leaf_values : (P : Value → Type 0) (vs : List Value) (c : ℕ) (ps : Parts) → AreLeaves ps
    → ((t : Target) → P (value_in vs t)) → Every (λ (x : Fact). P (fact_value x)) (slot_facts vs c ps)
leaf_values P vs c no_parts h f = tt
leaf_values P vs c (field g (leaf t) ps) h f = (f t, leaf_values P vs c ps h f)
leaf_values P vs c (field g (under n) ps) h f = absurd h
leaf_values P vs c (link b i e ps) h f = absurd h
leaf_values P vs c (hook b i ps) h f = absurd h

values_of : (P : Value → Type 0) (xs : List Fact) → Every (λ (x : Fact). P (fact_value x)) xs
    → Every P (map fact_value xs)
values_of P xs h = every_map fact_value P xs h

-- Values that name cells of the store.

-- only the cells of the roots count
root_named : (cs : List CellRec) (d : Nodes) → ((n : ℕ) → IsIn n (root_numbers d) → HasCell cs n) → (k : ℕ)
    → NamesCell cs (nth_value (roots_of d) k)
root_named cs no_nodes h k = tt
root_named cs (more n ns) h zero = h (number n) (inl refl)
root_named cs (more n ns) h (suc k) = root_named cs ns (λ m i. h m (inr i)) k

root_head : (vs : List Value) (ns : Nodes) (n : ℕ) → IsIn n (root_numbers ns) → IsIn n (heads (forest_facts vs [] ns))
root_head vs no_nodes n i = i
root_head vs (more (node c s ds ps) ns) n (inl e) = inl e
root_head vs (more m ns) n (inr i) =
    subst (λ (z : List ℕ). IsIn n z) (sym (flat_map-append head_of (tree_facts vs m) (forest_facts vs [] ns)))
    (in_right n (heads (tree_facts vs m)) (heads (forest_facts vs [] ns)) (root_head vs ns n i))

-- other leaves leave the numbers of the roots
roots_stay : (f : ℕ → Target) (d : Nodes) → root_numbers (placed_all f d) ≡ root_numbers d
roots_stay f no_nodes = refl
roots_stay f (more (node c s ds ps) ns) = ap (λ (z : List ℕ). c ∷ z) (roots_stay f ns)

every_below : (cs : List CellRec) (m n : ℕ) → Every (λ (x : CellRec). x.number < m) cs → HasCell cs n → n < m
every_below [] m n h i = absurd i
every_below (x ∷ cs) m n h (inl e) = subst (λ (k : ℕ). k < m) e h.0
every_below (x ∷ cs) m n h (inr i) = every_below cs m n h.1 i

-- Alike under the same numbers.

value_same : (v : Value) → value_renamed (λ n. n) v ≡ v
value_same NullValue = refl
value_same UninitValue = refl
value_same DanglingValue = refl
value_same (Cell n) = refl

values_same : (vs : List Value) → map (value_renamed (λ n. n)) vs ≡ vs
values_same [] = refl
values_same (v ∷ vs) = ap₂ (λ (x : Value) (ys : List Value). x ∷ ys) (value_same v) (values_same vs)

cells_same : (cs : List CellRec) → map (cell_renamed (λ n. n)) cs ≡ cs
cells_same [] = refl
cells_same (x ∷ cs) = ap₂ (λ (fs : List Value) (ys : List CellRec). record x { fields = fs } ∷ ys)
    (values_same x.fields) (cells_same cs)

abbrev alike_by : (s t : Store) → s.vars ≡ t.vars → s.data_vars ≡ t.data_vars → s.cells ≡ t.cells → IsAlike s t
alike_by s t v d c = record {
  to = λ n. n;
  one_to_one = λ m n i j e. e;
  vars = sym (values_same s.vars ∙ v);
  data_vars = sym d;
  cells = subst (λ (z : List CellRec). IsPermutation z t.cells) (sym (cells_same s.cells ∙ c))
      (IsPermutation-refl t.cells);
}

module _ (T : List BoxDef) (face : Face) (F G : Forest) (r : ℕ) (table : IsTableOf face T) (filled : IsFilled face F)
    (idle : IsIdle face.boxes F r) (cut : IsCut T F G r) (d : Nodes) (u : Store)
    (h : StandsBy face.shapes.structs T G d u) where
  abbrev hs : List Shape
  hs = face.shapes.structs

  -- a number that no cell has, those of insides among them
  abbrev c : ℕ
  c = suc (u.next + bound_all d)

  inputs : HaveInputs T
  inputs = table_inputs face.shapes T table.sound

  module _ (e : Nodes) (of : OfForest T F e) (is_cut : dropped r e ≡ d) (s : ℕ) (ds : List Datum) (ps : Parts)
      (is : node_at e r ≡ Some (node c s ds ps)) (flat : AreLeaves ps) where
    abbrev vs : List Value
    vs = roots_of e

    abbrev rest : Nodes
    rest = without_node r e

    there : (n : ℕ) → IsIn n (root_numbers rest) → HasCell u.cells n
    there n i =
        has_cell u.cells n
        (in_rearranged n (heads_numbered hs T G d u h)
        (root_head (roots_of d) d n
        (subst (λ (z : Nodes). IsIn n (root_numbers z)) is_cut
        (subst (λ (z : List ℕ). IsIn n z) (sym (roots_stay (drop_leaf r) rest)) i))))

    low : bound_all rest < c
    low = let a = bound_same (drop_leaf r) rest in
        let b : bound_all (dropped r e) ≡ bound_all d = ap bound_all is_cut in omega (arith, a, b)

    clear : NoFact c (forest_facts (roots_of e) [] (without_node r e))
    clear = all_clear face T F r table filled idle e of c s ds ps is flat (above_all vs rest c low)

    rest_facts : map (dangle_fact c) (forest_facts vs [] rest) ≡ facts d
    rest_facts = sym (facts_dropped T inputs c s ds ps r e is clear (insides_without T r e (insides_in T F.autos e of)))
        ∙ ap facts is_cut

    lifted : (xs : List Fact) × Rearranged (forest_facts vs [] rest) xs × (map (dangle_fact c) xs ≡ store_facts u.cells)
    lifted = unmap (dangle_fact c) h.same_facts (forest_facts vs [] rest) rest_facts

    cells_back : (ks : List CellRec) × (store_facts ks ≡ lifted.0) × (map (dangle_in c) ks ≡ u.cells)
    cells_back = store_lift c lifted.0 u.cells lifted.2

    abbrev ks : List CellRec
    ks = cells_back.0

    -- the fields of the root's cell, in order
    slots : Rearranged (map fact_field (slot_facts vs c ps)) (fields_of hs s)
    slots = subst (λ (z : List ℕ). Rearranged z (fields_of hs s)) (sym (flat_fields face.boxes vs c ps flat))
        (back (own_once face T F r table filled idle e of c s ds ps is flat))

    fields_back : (xs : List Fact) × Rearranged (slot_facts vs c ps) xs × (map fact_field xs ≡ fields_of hs s)
    fields_back = unmap fact_field slots (slot_facts vs c ps) refl

    ordered : (points c 0 (map fact_value fields_back.0) ≡ fields_back.0)
        × (length fields_back.0 ≡ length (targets_of hs s))
    ordered = in_order c 0 fields_back.0 (targets_of hs s) (every_moved (IsOwn c) fields_back.1 (flat_own vs c ps flat))
        fields_back.2

    abbrev root : CellRec
    root = record { number = c; shape = s; datums = ds; fields = map fact_value fields_back.0 }

    abbrev store : Store
    store = record { vars = map (value_in vs) F.vars; data_vars = F.data_vars; cells = root ∷ ks; next = suc c }

    not_there : HasCell ks c → ⊥
    not_there i =
        let l = every_below u.cells u.next c h.proper.below
        (subst (λ (z : List CellRec). HasCell z c) cells_back.2 (is_there c ks c i)) in
        absurd (omega (arith, l))

    target_named : (t : Target) → NamesCell (map (dangle_in c) ks) (dangle c (value_in vs t))
    target_named t = subst (λ (z : List CellRec). NamesCell z (dangle c (value_in vs t))) (sym cells_back.2) (value t)
      where
        apart_value : (v : Value) → NamesCell u.cells v → NamesCell u.cells (dangle c v)
        apart_value NullValue k = tt
        apart_value UninitValue k = tt
        apart_value DanglingValue k = tt
        apart_value (Cell n) k = here (nat_eq n c)
          where
            here : (b : Bool) → NamesCell u.cells (if b then DanglingValue else Cell n)
            here true = tt
            here false = k

        root_value : (x : Nodes) (j k : ℕ) → ((n : ℕ) → IsIn n (root_numbers (without_node j x)) → HasCell u.cells n)
            → nth_value (roots_of x) j ≡ Cell c → NamesCell u.cells (dangle c (nth_value (roots_of x) k))
        root_value no_nodes j k f q = tt
        root_value (more n ns) zero zero f q =
            subst (λ (z : Value). NamesCell u.cells z) (sym (ap (dangle c) q ∙ dangle_self c)) tt
        root_value (more n ns) zero (suc k) f q = apart_value (nth_value (roots_of ns) k) (root_named u.cells ns f k)
        root_value (more n ns) (suc j) zero f q = apart_value (Cell (number n)) (f (number n) (inl refl))
        root_value (more n ns) (suc j) (suc k) f q = root_value ns j k (λ m i. f m (inr i)) q

        own_value : (j : ℕ) (x : Nodes) → node_at x j ≡ Some (node c s ds ps) → nth_value (roots_of x) j ≡ Cell c
        own_value j no_nodes q = absurd (none-some (node c s ds ps) q)
        own_value zero (more n ns) q = ap (λ (z : Node). Cell (number z)) (same_Some n (node c s ds ps) q)
        own_value (suc j) (more n ns) q = own_value j ns q

        value : (t : Target) → NamesCell u.cells (dangle c (value_in vs t))
        value Null = tt
        value Uninit = tt
        value Dangling = tt
        value (At k) = root_value e r k there (own_value r e is)

    vars_back : map (dangle c) (map (value_in vs) F.vars) ≡ u.vars
    vars_back =
        sym (leaves_dropped T inputs c s ds ps r e is clear F.vars)
        ∙ sym (ap (map (value_in (roots_of (dropped r e)))) cut.vars)
        ∙ ap (λ (z : Nodes). map (value_in (roots_of z)) G.vars) is_cut
        ∙ sym h.vars

    by_target : (ts : List Target) → Every (NamesCell (root ∷ ks)) (map (value_in vs) ts)
    by_target [] = tt
    by_target (t ∷ ts) = (name_back c root ks refl (value_in vs t) (target_named t), by_target ts)

    own_fields : Every (NamesCell (root ∷ ks)) (map fact_value fields_back.0)
    own_fields = values_of (NamesCell (root ∷ ks)) fields_back.0
        (every_moved (λ (x : Fact). NamesCell (root ∷ ks) (fact_value x)) fields_back.1
        (leaf_values (NamesCell (root ∷ ks)) vs c ps flat
        (λ t. name_back c root ks refl (value_in vs t) (target_named t))))

    before : (P Q : CellRec → Type 0) → Every P u.cells → ((x : CellRec) → P (dangle_in c x) → Q x) → Every Q ks
    before P Q k f = every_weaker (λ (x : CellRec). P (dangle_in c x)) Q ks f
        (every_mapped (dangle_in c) P ks (subst (λ (z : List CellRec). Every P z) (sym cells_back.2) k))

    proper : IsProper store
    proper = record {
      differ = (not_there, did_differ c ks (subst AllDiffer (sym cells_back.2) h.proper.differ));
      below = (
        omega arith,
        before (λ x. x.number < u.next) (λ x. x.number < suc c) h.proper.below
            (λ x l. omega (arith, l)),
      );
      vars = by_target F.vars;
      fields = (
        own_fields,
        before (λ x. Every (NamesCell u.cells) x.fields) (λ x. Every (NamesCell (root ∷ ks)) x.fields) h.proper.fields
            (λ x k. names_back c root ks refl x.fields
            (subst (λ (z : List CellRec). Every (NamesCell z) (map (dangle c) x.fields)) (sym cells_back.2) k)),
      );
    }

    root_facts : Rearranged (tree_facts vs (node c s ds ps)) (cell_facts root)
    root_facts = keep (Head c s ds)
        (subst (λ (z : List Fact). Rearranged (slot_facts vs c ps) z) (sym ordered.0) fields_back.1)

    same_cells : Rearranged (facts e) (store_facts store.cells)
    same_cells = chain (root_first vs r e (node c s ds ps) is)
        (both root_facts
        (subst (λ (z : List Fact). Rearranged (forest_facts vs [] rest) z) (sym cells_back.1) lifted.1))

    stands : StandsBy hs T F e store
    stands = record {
      proper = proper;
      fields = (
        fact_count fields_back.0 ∙ ordered.1,
        before (HasItsFields hs) (HasItsFields hs) h.fields (λ x k. sym (as_many c x.fields) ∙ k),
      );
      of = of;
      same_facts = same_cells;
      vars = refl;
      data_vars = refl;
    }

    own_out : without c (root ∷ ks) ≡ u.cells
    own_out = let q : nat_eq c c ≡ true = eq-eqb c c refl in rw q (none_left c ks not_there ∙ cells_back.2)

    abbrev alike : IsAlike (without_cell c store) u
    alike = alike_by (without_cell c store) u vars_back (sym cut.data_vars ∙ sym h.data_vars) own_out

  -- the store, and what the dressed forest becomes; the cells keep their numbers
  pub store_again : (e : Nodes) × (s : Store) × (c : ℕ) × IsFlatRoot e r c × StandsBy face.shapes.structs T F e s
      × (dropped r e ≡ d) × ((a : IsAlike (without_cell c s) u) × ((n : ℕ) → a.to n ≡ n))
  store_again =
      let b = cut.back d h.of c in
      let x = b.3 in (
        b.0,
        store b.0 b.1 b.2 x.0 x.1 x.2 x.3 x.4,
        c,
        x,
        stands b.0 b.1 b.2 x.0 x.1 x.2 x.3 x.4,
        b.2,
        (alike b.0 b.1 b.2 x.0 x.1 x.2 x.3 x.4, λ n. refl),
      )

-- each store of the forest cut is one of the forest without the root's cell
pub store_restored : (T : List BoxDef) (face : Face) (F G : Forest) (r : ℕ) → IsTableOf face T → IsFilled face F
    → IsIdle face.boxes F r → IsCut T F G r → Restores face.shapes.structs T F G r
store_restored T face F G r table filled idle cut d u h =
    let k = store_again T face F G r table filled idle cut d u h in
    (k.0, k.1, k.2, k.3, k.4, k.6.0)
