-- `malloc` of a struct: the members of the forest with a new cell as its last root are what the members become.
use Rattle.std.proofs.Common.{◌≡◌, ◌⊎◌, inl, inr, ℕ, zero, suc, ◌+◌, ◌<◌, Bool, true, false, true≢false, nat_eq}
use Rattle.std.proofs.Common.{if◌then◌else◌, length, replicate, slice_set, List, [], ◌∷◌, ◌++◌, map, refl, sym, ap, ap₂}
use Rattle.std.proofs.Common.{subst, ◌∙◌, Some, append_assoc, lt_irrefl, arith}
use Rattle.std.proofs.lemmas.Bool.{eq-eqb, ne_eqb}
use Rattle.std.specs.List.Sorted.{IsPermutation}
use Rattle.fore_base.specs.Heap.{HasCell, NamesCell, AllDiffer, value_renamed, cell_renamed}
use Rattle.fore_base.specs.Lists.{IsIn, IsDistinct, Every}
use Rattle.fore_base.specs.Shapes.{targets_of, datums_of}
use Rattle.fore_base.specs.Stores.{grown, set_var, without, dangle_in}
use Rattle.fore_base.specs.declared.shape.Shape.{Shape}
use Rattle.fore_base.specs.declared.store.CellRec.{CellRec}
use Rattle.fore_base.specs.declared.store.Datum.{Datum}
use Rattle.fore_base.specs.declared.store.Datum.TheVariants.{Undefined}
use Rattle.fore_base.specs.declared.store.Store.{Store}
use Rattle.fore_base.specs.declared.store.Value.{Value}
use Rattle.fore_base.specs.declared.store.Value.TheVariants.{Null as NullValue, Uninit as UninitValue}
use Rattle.fore_base.specs.declared.store.Value.TheVariants.{Dangling as DanglingValue, Cell}
use Rattle.fore_base.proofs.ListLemmas.{every_in, every_append, every_weaker, every_copy}
use Rattle.fa_core.specs.Boxes.{IsTableOf, head_of, heads}
use Rattle.fa_core.specs.Choices.{count}
use Rattle.fa_core.specs.Dressed.{Node, Nodes, Fact, Head, Points, facts, forest_facts, roots_of, nth_value, value_in}
use Rattle.fa_core.specs.Dressed.{all_refs, cells}
use Rattle.fa_core.specs.Filled.{IsFilled, IsRoot}
use Rattle.fa_core.specs.Member.{OfForest, StandsBy, HasItsFields, cell_facts, store_facts}
use Rattle.fa_core.specs.Placed.{placed_leaf}
use Rattle.fa_core.specs.Rearranged.{Rearranged, chain}
use Rattle.fa_core.specs.declared.boxes.BoxDef.{BoxDef}
use Rattle.fa_core.specs.declared.faces.Face.{Face}
use Rattle.fa_core.specs.declared.forest.Forest.{Forest}
use Rattle.fa_core.specs.declared.forest.Target.{Target}
use Rattle.fa_core.specs.declared.forest.Target.TheVariants.{Null, Uninit, Dangling, At}
use Rattle.fa_core.proofs.Permuted.{in_rearranged, none_in_both}
use Rattle.fa_core.proofs.Rearranging.{equal, back, before, flat_map-append}
use Rattle.fa_merge.specs.Dropped.{drop_leaf, dropped, without_node, IsFlatRoot, IsCut, without_cell}
use Rattle.fa_back.specs.Reached.{node_at}
use Rattle.fa_merge.proofs.DroppedClear.{NoHead, none_clear}
use Rattle.fa_merge.proofs.DroppedFacts.{insides_in, insides_without}
use Rattle.fa_merge.proofs.DroppedInsides.{NoFact, table_inputs}
use Rattle.fa_merge.proofs.DroppedStores.{stands_without}
use Rattle.fa_merge.proofs.FieldFacts.{is_head}
use Rattle.fa_back.proofs.FactParts.{fact_cell}
use Rattle.fa_back.proofs.StoreLaws.{differ}
use Rattle.fa_split.specs.Split.{with_last}
use Rattle.fa_split.proofs.Places.{last_node}
use Rattle.fa_edit.specs.Cells.{IsNewed, blank_parts, new_node}
use Rattle.c_types.specs.Steps.{blank}
use Rattle.c_cfg.specs.declared.graph.Instr.TheVariants.{New}
use Rattle.sym_core.specs.Carried.{ComesRaw, Carries}
use Rattle.sym_core.specs.Kept.{HasBoxEdge}
use Rattle.sym_transfer.proofs.BoxEdges.{cell_headed, edges_grown}
use Rattle.sym_transfer.proofs.Facts.{fact_has}
use Rattle.sym_transfer.proofs.LastTrees.{nth_first, nth_last, last_roots, count_roots, old_facts, grown_facts}
use Rattle.sym_transfer.proofs.LastTrees.{blank_leaves, dropped_last, without_last}
use Rattle.sym_transfer.proofs.Places.{every_set, set_mapped}
use Rattle.sym_transfer.proofs.SameStores.{number_there, same_stores}
use Rattle.sym_transfer.proofs.Standing.{IsHeap, store_by, heap_of, stands_by, roots_named}

-- Cells with one more behind them.

store_both : (cs es : List CellRec) → store_facts (cs ++ es) ≡ store_facts cs ++ store_facts es
store_both [] es = refl
store_both (c ∷ cs) es = ap (λ (xs : List Fact). cell_facts c ++ xs) (store_both cs es)
    ∙ sym (append_assoc (cell_facts c) (store_facts cs) (store_facts es))

has_first : (cs es : List CellRec) (n : ℕ) → HasCell cs n → HasCell (cs ++ es) n
has_first [] es n h = absurd h
has_first (c ∷ cs) es n (inl e) = inl e
has_first (c ∷ cs) es n (inr h) = inr (has_first cs es n h)

last_there : (cs : List CellRec) (e : CellRec) → HasCell (cs ++ e ∷ []) e.number
last_there [] e = inl refl
last_there (c ∷ cs) e = inr (last_there cs e)

has_last : (cs : List CellRec) (e : CellRec) (n : ℕ) → HasCell (cs ++ e ∷ []) n → HasCell cs n ⊎ (e.number ≡ n)
has_last [] e n (inl p) = inr p
has_last [] e n (inr h) = absurd h
has_last (c ∷ cs) e n (inl p) = inl (inl p)
has_last (c ∷ cs) e n (inr h) = here (has_last cs e n h)
  where
    here : HasCell cs n ⊎ (e.number ≡ n) → HasCell (c ∷ cs) n ⊎ (e.number ≡ n)
    here (inl g) = inl (inr g)
    here (inr g) = inr g

differ_last : (cs : List CellRec) (e : CellRec) → AllDiffer cs → (HasCell cs e.number → ⊥) → AllDiffer (cs ++ e ∷ [])
differ_last [] e d h = ((λ x. x), tt)
differ_last (c ∷ cs) e d h = ((λ i. here (has_last cs e c.number i)), differ_last cs e d.1 (λ i. h (inr i)))
  where
    here : HasCell cs c.number ⊎ (e.number ≡ c.number) → ⊥
    here (inl i) = d.0 i
    here (inr p) = h (inl (sym p))

has_below : (next : ℕ) (cs : List CellRec) (n : ℕ) → Every (λ (c : CellRec). c.number < next) cs → HasCell cs n
    → n < next
has_below next [] n b h = absurd h
has_below next (c ∷ cs) n b (inl e) = subst (λ (m : ℕ). m < next) e b.0
has_below next (c ∷ cs) n b (inr h) = has_below next cs n b.1 h

names_more : (cs es : List CellRec) (v : Value) → NamesCell cs v → NamesCell (cs ++ es) v
names_more cs es NullValue h = tt
names_more cs es UninitValue h = tt
names_more cs es DanglingValue h = tt
names_more cs es (Cell n) h = has_first cs es n h

copies : {X : Type 0} (n : ℕ) (x : X) → length (replicate n x) ≡ n
copies zero x = refl
copies (suc n) x = ap (λ (k : ℕ). suc k) (copies n x)

-- the cell that was taken out is not there
never_left : (c : ℕ) (cs : List CellRec) → HasCell (without c cs) c → ⊥
never_left c [] h = h
never_left c (x ∷ cs) h = here (nat_eq x.number c) refl (never_left c cs) h
  where
    here : (b : Bool) → nat_eq x.number c ≡ b → (HasCell (without c cs) c → ⊥)
        → HasCell (if b then without c cs else dangle_in c x ∷ without c cs) c → ⊥
    here true q later k = later k
    here false q later (inl e) = true≢false (sym (eq-eqb x.number c e) ∙ q)
    here false q later (inr k) = later k

head_in : (c s : ℕ) (ds : List Datum) (fs : List Fact) → IsIn (Head c s ds) fs → IsIn c (heads fs)
head_in c s ds [] i = absurd i
head_in c s ds (Head m t es ∷ fs) (inl e) = inl (ap fact_cell e)
head_in c s ds (Head m t es ∷ fs) (inr i) = inr (head_in c s ds fs i)
head_in c s ds (Points m f v ∷ fs) (inl e) = absurd (true≢false (ap is_head e))
head_in c s ds (Points m f v ∷ fs) (inr i) = head_in c s ds fs i

-- Lists that are renamed.

map_same : {X : Type 0} (g : X → X) (xs : List X) → ((x : X) → IsIn x xs → g x ≡ x) → map g xs ≡ xs
map_same g [] h = refl
map_same g (x ∷ xs) h = ap₂ (λ y ys. y ∷ ys) (h x (inl refl)) (map_same g xs (λ y i. h y (inr i)))

map_last : {X Y : Type 0} (g : X → Y) (xs : List X) (x : X) → map g (xs ++ x ∷ []) ≡ map g xs ++ g x ∷ []
map_last g [] x = refl
map_last g (y ∷ xs) x = ap (λ ys. g y ∷ ys) (map_last g xs x)

module _ (face : Face) (T : List BoxDef) (F G : Forest) (to shape : ℕ) (p : IsNewed face.shapes.structs T F G to shape)
  where
    abbrev hs : List Shape
    hs = face.shapes.structs

    abbrev new : ℕ → Node
    new c = new_node hs shape c

    -- the store with a new cell
    abbrev after : Store → Store
    after s = set_var (grown s (blank hs s.next shape)) to (Cell s.next)

    low_refs : (d : Nodes) → OfForest T F d → Every (λ r. r < count d) (all_refs d)
    low_refs d h = subst (λ (k : ℕ). Every (λ r. r < k) (all_refs d)) (sym (p.counted d h)) (p.refs d h)

    many_roots : (d : Nodes) → OfForest T F d → length (roots_of d) ≡ p.roots
    many_roots d h = count_roots d ∙ p.counted d h

    -- Variables.

    value_kept : (d : Nodes) (c : ℕ) → OfForest T F d → (t : Target) → IsRoot p.roots t
        → value_in (roots_of (with_last d (new c))) t ≡ value_in (roots_of d) t
    value_kept d c h Null l = refl
    value_kept d c h Uninit l = refl
    value_kept d c h Dangling l = refl
    value_kept d c h (At k) l =
        ap (λ (vs : List Value). nth_value vs k) (last_roots d (new c))
        ∙ nth_first (roots_of d) (Cell c ∷ []) k (subst (λ (m : ℕ). k < m) (sym (many_roots d h)) (l k refl))

    values_kept : (d : Nodes) (c : ℕ) → OfForest T F d → (ts : List Target) → Every (IsRoot p.roots) ts
        → map (value_in (roots_of (with_last d (new c)))) ts ≡ map (value_in (roots_of d)) ts
    values_kept d c h [] l = refl
    values_kept d c h (t ∷ ts) l =
        ap₂ (λ (v : Value) (vs : List Value). v ∷ vs) (value_kept d c h t l.0) (values_kept d c h ts l.1)

    new_value : (d : Nodes) (c : ℕ) → OfForest T F d → value_in (roots_of (with_last d (new c))) (At p.roots) ≡ Cell c
    new_value d c h =
        ap₂ (λ (vs : List Value) (k : ℕ). nth_value vs k) (last_roots d (new c)) (sym (many_roots d h))
        ∙ nth_last (roots_of d) (Cell c)

    vars_grown : (d : Nodes) (c : ℕ) → OfForest T F d → slice_set (map (value_in (roots_of d)) F.vars) to (Cell c)
        ≡ map (value_in (roots_of (with_last d (new c)))) G.vars
    vars_grown d c h =
        let ws = roots_of (with_last d (new c)) in
        ap₂ (λ (vs : List Value) (v : Value). slice_set vs to v) (sym (values_kept d c h F.vars p.targets))
        (sym (new_value d c h))
        ∙ set_mapped (value_in ws) F.vars to (At p.roots)
        ∙ ap (map (value_in ws)) (sym p.vars)

    -- Forth.

    new_stands : (d : Nodes) (s : Store) → StandsBy hs T F d s → StandsBy hs T G (with_last d (new s.next)) (after s)
    new_stands d s h =
        let b : CellRec = blank hs s.next shape in
        let cs : List CellRec = s.cells ++ b ∷ [] in
        record {
          proper = record {
            differ = differ_last s.cells b h.proper.differ
                (λ i. lt_irrefl s.next (has_below s.next s.cells s.next h.proper.below i));
            below = every_append (λ (c : CellRec). c.number < s.next + 1) s.cells (b ∷ [])
                (every_weaker (λ (c : CellRec). c.number < s.next) (λ (c : CellRec). c.number < s.next + 1) s.cells
                (λ c l. omega (arith, l)) h.proper.below) (omega arith, tt);
            vars = every_set (NamesCell cs) s.vars to (Cell s.next)
                (every_weaker (NamesCell s.cells) (NamesCell cs) s.vars (names_more s.cells (b ∷ [])) h.proper.vars)
                (last_there s.cells b);
            fields = every_append (λ (c : CellRec). Every (NamesCell cs) c.fields) s.cells (b ∷ [])
                (every_weaker (λ (c : CellRec). Every (NamesCell s.cells) c.fields)
                (λ (c : CellRec). Every (NamesCell cs) c.fields) s.cells
                (λ c g. every_weaker (NamesCell s.cells) (NamesCell cs) c.fields (names_more s.cells (b ∷ [])) g)
                h.proper.fields)
                (every_copy (NamesCell cs) (length (targets_of hs shape)) UninitValue tt, tt);
          };
          fields = every_append (HasItsFields hs) s.cells (b ∷ []) h.fields
              (copies (length (targets_of hs shape)) UninitValue, tt);
          of = p.forth d h.of s.next;
          same_facts = chain (equal (grown_facts hs shape s.next d (low_refs d h.of)))
              (chain (before (cell_facts b ++ []) h.same_facts) (equal (sym (store_both s.cells (b ∷ [])))));
          vars = ap (λ (vs : List Value). slice_set vs to (Cell s.next)) h.vars ∙ vars_grown d s.next h.of;
          data_vars = h.data_vars ∙ sym p.data_vars;
        }

    -- Back: the new cell is dropped again.

    abbrev old_forest : Forest
    old_forest =
        record { autos = F.autos; vars = map (placed_leaf (drop_leaf p.roots)) G.vars; data_vars = F.data_vars }

    new_flat : (e : Nodes) (c : ℕ) → OfForest T F e → IsFlatRoot (with_last e (new c)) p.roots c
    new_flat e c h = (
      shape,
      replicate (datums_of hs shape) Undefined,
      blank_parts 0 (length (targets_of hs shape)),
      subst (λ (r : ℕ). node_at (with_last e (new c)) r ≡ Some (new c)) (p.counted e h) (last_node e (new c)),
      blank_leaves 0 (length (targets_of hs shape)),
    )

    new_dropped : (e : Nodes) (c : ℕ) → OfForest T F e → dropped p.roots (with_last e (new c)) ≡ e
    new_dropped e c h = subst (λ (r : ℕ). dropped r (with_last e (new c)) ≡ e) (p.counted e h)
        (dropped_last e (new c) (low_refs e h))

    new_cut : IsCut T G old_forest p.roots
    new_cut = record {
      vars = refl;
      data_vars = sym p.data_vars;
      top =
          λ d h.
          (let k = p.back d h in
          (k.1, subst (λ (z : Nodes). IsFlatRoot z p.roots k.1) (sym k.2) (new_flat k.0 k.1 k.3)));
      forth =
          λ d h.
          (let k = p.back d h in subst (λ (z : Nodes). OfForest T F z)
          (sym (ap (dropped p.roots) k.2 ∙ new_dropped k.0 k.1 k.3)) k.3);
      back = λ d h c. (with_last d (new c), p.forth d h c, new_dropped d c h, new_flat d c h);
    }

    -- by a table of boxes over the face
    module _ (table : IsTableOf face T) (filled : IsFilled face F) where
      module _ (e : Nodes) (c : ℕ) (u : Store) (of : OfForest T F e) (h : StandsBy hs T G (with_last e (new c)) u) where
        abbrev ks : List CellRec
        ks = without c u.cells

        abbrev was : Store
        was = store_by e F ks u.next

        -- the new cell has one head
        own_head : NoHead c (facts e)
        own_head s ds i =
            let grown = grown_facts hs shape c e (low_refs e of) in
            let apart : IsDistinct (heads (facts e) ++ heads (cell_facts (blank hs c shape) ++ [])) =
            subst (λ (z : List ℕ). IsDistinct z)
            (ap heads grown ∙ flat_map-append head_of (facts e) (cell_facts (blank hs c shape) ++ []))
            (differ hs T G (with_last e (new c)) u h) in
            none_in_both c (heads (facts e)) (heads (cell_facts (blank hs c shape) ++ [])) apart
            (head_in c s ds (facts e) i) (inl refl)

        -- and no fact of the other trees is of it
        clear : NoFact c (forest_facts (roots_of (with_last e (new c))) [] (without_node p.roots (with_last e (new c))))
        clear =
            subst (λ (z : List Fact). NoFact c z)
            (sym
            (ap₂ (λ (vs : List Value) (z : Nodes). forest_facts vs [] z) (last_roots e (new c))
            (subst (λ (r : ℕ). without_node r (with_last e (new c)) ≡ e) (p.counted e of) (without_last e (new c)))
            ∙ old_facts c e (low_refs e of)))
            (none_clear face T F table filled e of c own_head)

        left : StandsBy hs T old_forest e (without_cell c u)
        left =
            let flat = new_flat e c of in
            subst (λ (d : Nodes). StandsBy hs T old_forest d (without_cell c u)) (new_dropped e c of)
            (stands_without hs T G old_forest p.roots new_cut (with_last e (new c)) u h T
            (table_inputs face.shapes T table.sound)
            (insides_without T p.roots (with_last e (new c)) (insides_in T G.autos (with_last e (new c)) h.of)) c flat.0
            flat.1 flat.2 flat.3 flat.4 clear)

        heap : IsHeap hs e ks u.next
        heap = heap_of hs T old_forest e (without_cell c u) left

        was_stands : StandsBy hs T F e was
        was_stands = stands_by hs T F e ks u.next of heap

        -- the number that the new cell would get is sent to the one that it has
        abbrev back_to : ℕ → ℕ
        back_to m = if nat_eq m u.next then c else m

        old_number : (m : ℕ) → HasCell ks m → back_to m ≡ m
        old_number m i =
            let f : nat_eq m u.next ≡ false =
            ne_eqb m u.next
            (λ q. lt_irrefl u.next (subst (λ (w : ℕ). w < u.next) q (has_below u.next ks m left.proper.below i)))
            in
            rw f refl

        new_number : back_to u.next ≡ c
        new_number = let f : nat_eq u.next u.next ≡ true = eq-eqb u.next u.next refl in rw f refl

        one_to_one : (m n : ℕ) → HasCell ks m ⊎ (u.next ≡ m) → HasCell ks n ⊎ (u.next ≡ n) → back_to m ≡ back_to n
            → m ≡ n
        one_to_one m n (inl a) (inl b) q = sym (old_number m a) ∙ q ∙ old_number n b
        one_to_one m n (inl a) (inr b) q =
            absurd
            (never_left c u.cells
            (subst (λ (w : ℕ). HasCell ks w) (sym (old_number m a) ∙ q ∙ ap back_to (sym b) ∙ new_number) a))
        one_to_one m n (inr a) (inl b) q =
            absurd
            (never_left c u.cells
            (subst (λ (w : ℕ). HasCell ks w) (sym (old_number n b) ∙ sym q ∙ ap back_to (sym a) ∙ new_number) b))
        one_to_one m n (inr a) (inr b) q = sym a ∙ b

        old_value : (v : Value) → NamesCell ks v → value_renamed back_to v ≡ v
        old_value NullValue i = refl
        old_value UninitValue i = refl
        old_value DanglingValue i = refl
        old_value (Cell m) i = ap Cell (old_number m i)

        -- Variables.

        roots_old : Every (λ v. value_renamed back_to v ≡ v) (roots_of e)
        roots_old = every_weaker (NamesCell ks) (λ v. value_renamed back_to v ≡ v) (roots_of e) old_value
            (roots_named hs e ks u.next heap)

        root_renamed : (vs : List Value) (k : ℕ) → Every (λ v. value_renamed back_to v ≡ v) vs
            → nth_value (vs ++ Cell c ∷ []) k ≡ value_renamed back_to (nth_value (vs ++ Cell u.next ∷ []) k)
        root_renamed [] zero w = ap Cell (sym new_number)
        root_renamed [] (suc k) w = refl
        root_renamed (v ∷ vs) zero w = sym w.0
        root_renamed (v ∷ vs) (suc k) w = root_renamed vs k w.1

        target_renamed : (t : Target) → value_in (roots_of e ++ Cell c ∷ []) t
            ≡ value_renamed back_to (value_in (roots_of e ++ Cell u.next ∷ []) t)
        target_renamed Null = refl
        target_renamed Uninit = refl
        target_renamed Dangling = refl
        target_renamed (At k) = root_renamed (roots_of e) k roots_old

        targets_renamed : (ts : List Target) → map (value_in (roots_of e ++ Cell c ∷ [])) ts
            ≡ map (value_renamed back_to) (map (value_in (roots_of e ++ Cell u.next ∷ [])) ts)
        targets_renamed [] = refl
        targets_renamed (t ∷ ts) = ap₂ (λ (v : Value) (vs : List Value). v ∷ vs) (target_renamed t) (targets_renamed ts)

        vars_renamed : u.vars ≡ map (value_renamed back_to) (after was).vars
        vars_renamed =
            h.vars
            ∙ ap (λ (vs : List Value). map (value_in vs) G.vars) (last_roots e (new c))
            ∙ targets_renamed G.vars
            ∙ ap (λ (vs : List Value). map (value_renamed back_to) (map (value_in vs) G.vars))
            (sym (last_roots e (new u.next)))
            ∙ ap (map (value_renamed back_to)) (sym (new_stands e was was_stands).vars)

        -- Cells.

        uninit_renamed : (k : ℕ) → map (value_renamed back_to) (replicate k UninitValue) ≡ replicate k UninitValue
        uninit_renamed zero = refl
        uninit_renamed (suc k) = ap (λ (vs : List Value). UninitValue ∷ vs) (uninit_renamed k)

        blank_renamed : cell_renamed back_to (blank hs u.next shape) ≡ blank hs c shape
        blank_renamed =
            ap₂ (λ (n : ℕ) (fs : List Value).
            record { number = n; shape = shape; datums = replicate (datums_of hs shape) Undefined; fields = fs })
            new_number (uninit_renamed (length (targets_of hs shape)))

        cell_old : (x : CellRec) → IsIn x ks → cell_renamed back_to x ≡ x
        cell_old x i =
            ap₂ (λ (n : ℕ) (fs : List Value). record { number = n; shape = x.shape; datums = x.datums; fields = fs })
            (old_number x.number (number_there x ks i))
            (map_same (value_renamed back_to) x.fields
            (λ v j.
            old_value v
            (every_in (NamesCell ks) x.fields v
            (every_in (λ (y : CellRec). Every (NamesCell ks) y.fields) ks x left.proper.fields i) j)))

        cells_renamed : map (cell_renamed back_to) (ks ++ blank hs u.next shape ∷ []) ≡ ks ++ blank hs c shape ∷ []
        cells_renamed = map_last (cell_renamed back_to) ks (blank hs u.next shape)
            ∙ ap₂ (λ (xs : List CellRec) (x : CellRec). xs ++ x ∷ []) (map_same (cell_renamed back_to) ks cell_old)
            blank_renamed

        same_facts : Rearranged (store_facts (ks ++ blank hs c shape ∷ [])) (store_facts u.cells)
        same_facts =
            chain (equal (store_both ks (blank hs c shape ∷ [])))
            (chain (before (cell_facts (blank hs c shape) ++ []) (back left.same_facts))
            (chain (equal (sym (grown_facts hs shape c e (low_refs e of)))) h.same_facts))

        cells_moved : IsPermutation (map (cell_renamed back_to) (ks ++ blank hs u.next shape ∷ [])) u.cells
        cells_moved = subst (λ (xs : List CellRec). IsPermutation xs u.cells) (sym cells_renamed)
            (same_stores hs (ks ++ blank hs c shape ∷ []) u.cells h.proper.differ
            (every_append (HasItsFields hs) ks (blank hs c shape ∷ []) left.fields
            (copies (length (targets_of hs shape)) UninitValue, tt)) h.fields same_facts)

        came_from : (x : ℕ) → ComesRaw face T F G (New to shape) x (with_last e (new c)) u
        came_from x = record {
          dressed = e;
          was = was;
          goes_to = after was;
          stands = was_stands;
          goes = refl;
          into = (with_last e (new u.next), new_stands e was was_stands);
          alike = record {
            to = back_to;
            one_to_one = λ m n i j q.
                one_to_one m n (has_last ks (blank hs u.next shape) m i) (has_last ks (blank hs u.next shape) n j) q;
            vars = vars_renamed;
            data_vars = h.data_vars ∙ p.data_vars;
            cells = cells_moved;
          };
          edges = λ k i x j b l ex.
              let there : HasCell ks k.cell =
              fact_has (Head k.cell k.shape k.datums) ks
              (in_rearranged (Head k.cell k.shape k.datums) left.same_facts (cell_headed e k i)) in
              subst (λ (m : ℕ). HasBoxEdge (cells (with_last e (new c))) m b) (sym (old_number k.cell there))
              (edges_grown e (new c) k.cell b (k, i, refl, (x, j, l)));
        }

      pub created_carries : (x : ℕ) → Carries face T F G (New to shape) x
      created_carries x = record {
        forth =
            λ s m. record { next = after s; goes = refl; stands = (with_last m.0 (new s.next), new_stands m.0 s m.1) };
        back = λ d u m.
            let k = p.back d m.of in
            subst (λ (z : Nodes). ComesRaw face T F G (New to shape) x z u) (sym k.2)
            (came_from k.0 k.1 u k.3 (subst (λ (z : Nodes). StandsBy hs T G z u) k.2 m) x);
      }
