-- The cells that are written from a dressed forest of a sound forest are a store for which the forest stands.
use Rattle.std.proofs.Common.{◌≡◌, inl, inr, ℕ, zero, suc, ◌<◌, ◌≤◌, ◌+◌, Bool, true, false, cond, nat_le, nat_eq}
use Rattle.std.proofs.Common.{List, [], ◌∷◌, ◌++◌, map, length, flat_map, refl, sym, ap, ap₂, subst, ◌∙◌, arith}
use Rattle.std.proofs.Common.{append-nil}
use Rattle.std.proofs.lemmas.Bool.{le-leb, eqb-true, eq-eqb}
use Rattle.fore_base.specs.Heap.{HasCell, NamesCell, AllDiffer}
use Rattle.fore_base.specs.Lists.{IsIn, Every}
use Rattle.fore_base.specs.Shapes.{targets_of}
use Rattle.fore_base.specs.declared.shape.Shape.{Shape}
use Rattle.fore_base.specs.declared.store.CellRec.{CellRec}
use Rattle.fore_base.specs.declared.store.Value.{Value}
use Rattle.fore_base.specs.declared.store.Value.TheVariants.{Null as NullValue, Uninit as UninitValue}
use Rattle.fore_base.specs.declared.store.Value.TheVariants.{Dangling as DanglingValue, Cell as CellValue}
use Rattle.fore_base.proofs.ListLemmas.{every_parts}
use Rattle.fa_core.specs.declared.forest.Forest.{Forest}
use Rattle.fa_core.specs.declared.forest.Target.{Target}
use Rattle.fa_core.specs.declared.forest.Target.TheVariants.{Null, Uninit, Dangling, At}
use Rattle.fa_core.specs.Boxes.{Boxes, head_of, heads}
use Rattle.fa_core.specs.Dressed.{Nodes, Fact, Head, Points, facts, roots_of, nth_value, value_in}
use Rattle.fa_core.specs.Filled.{numbered, fields_of}
use Rattle.fa_core.specs.Member.{OfForest, points, store_facts, HasItsFields, StandsBy}
use Rattle.fa_core.specs.Rearranged.{Rearranged, chain, insert, in_order, IsRising, RisesFrom}
use Rattle.fa_core.proofs.Rearranging.{equal, back, flat_mapped, every_moved}
use Rattle.fa_core.proofs.Sorting.{order_same}
use Rattle.fa_core.proofs.Permuted.{in_rearranged}
use Rattle.fa_facts.specs.Fields.{fields_at, fields_owed, IsNamed, FactNamed}
use Rattle.fa_sample.specs.declared.drafts.Draft.{Draft}
use Rattle.fa_sample.specs.declared.drafts.FieldValue.{FieldValue}
use Rattle.fa_sample.specs.inner.Emitted.{forest_out}
use Rattle.fa_sample.specs.inner.Sampled.{store_made}
use Rattle.fa_sample.specs.inner.Written.{written, cells_done}
use Rattle.fa_sample.proofs.Emitting.{facts_out}
use Rattle.fa_sample.proofs.Numbering.{Counts}
use Rattle.fa_sample.proofs.Writing.{field_fact, draft_facts, written_facts, keys, IsSorted, written_sorted}

-- Facts in another order give a cell the same fields.

module _ (hs : List Shape) (c : ℕ) where
  abbrev field_part : Fact → List ℕ
  field_part (Head m s ds) = []
  field_part (Points m f v) = cond (nat_eq c m) (f ∷ []) []

  abbrev owed_part : Fact → List ℕ
  owed_part (Head m s ds) = cond (nat_eq c m) (fields_of hs s) []
  owed_part (Points m f v) = []

  at_parts : (fs : List Fact) → fields_at c fs ≡ flat_map field_part fs
  at_parts [] = refl
  at_parts (Head m s ds ∷ fs) = at_parts fs
  at_parts (Points m f v ∷ fs) = here (nat_eq c m) (at_parts fs)
    where
      here : (b : Bool) → fields_at c fs ≡ flat_map field_part fs
          → cond b (f ∷ fields_at c fs) (fields_at c fs) ≡ cond b (f ∷ []) [] ++ flat_map field_part fs
      here true e = ap (λ (z : List ℕ). f ∷ z) e
      here false e = e

  owed_parts : (fs : List Fact) → fields_owed hs c fs ≡ flat_map owed_part fs
  owed_parts [] = refl
  owed_parts (Points m f v ∷ fs) = owed_parts fs
  owed_parts (Head m s ds ∷ fs) = here (nat_eq c m) (owed_parts fs)
    where
      here : (b : Bool) → fields_owed hs c fs ≡ flat_map owed_part fs
          → cond b (fields_of hs s ++ fields_owed hs c fs) (fields_owed hs c fs)
          ≡ cond b (fields_of hs s) [] ++ flat_map owed_part fs
      here true e = ap (λ (z : List ℕ). fields_of hs s ++ z) e
      here false e = e

  -- both sides follow the facts
  parts_moved : {fs gs : List Fact} → Rearranged fs gs → Rearranged (fields_owed hs c fs) (fields_at c fs)
      → Rearranged (fields_owed hs c gs) (fields_at c gs)
  parts_moved {fs} {gs} r h =
      chain (equal (owed_parts gs))
      (chain (back (flat_mapped owed_part r))
      (chain (equal (sym (owed_parts fs)))
      (chain h
      (chain (equal (at_parts fs))
      (chain (flat_mapped field_part r) (equal (sym (at_parts gs))))))))

  -- the cells that come later have other numbers
  fields_over : (k : ℕ) (xs : List FieldValue) (fs : List Fact) → nat_eq c k ≡ false
      → fields_at c (map (field_fact k) xs ++ fs) ≡ fields_at c fs
  fields_over k [] fs e = refl
  fields_over k (x ∷ xs) fs e = rw e (fields_over k xs fs e)

  fields_here : (k : ℕ) (xs : List FieldValue) (fs : List Fact) → nat_eq c k ≡ true
      → fields_at c (map (field_fact k) xs ++ fs) ≡ keys xs ++ fields_at c fs
  fields_here k [] fs e = refl
  fields_here k (x ∷ xs) fs e = rw e (ap (λ (z : List ℕ). x.field ∷ z) (fields_here k xs fs e))

  owed_over : (k : ℕ) (xs : List FieldValue) (fs : List Fact)
      → fields_owed hs c (map (field_fact k) xs ++ fs) ≡ fields_owed hs c fs
  owed_over k [] fs = refl
  owed_over k (x ∷ xs) fs = owed_over k xs fs

  other : (k : ℕ) → c < k → nat_eq c k ≡ false
  other k l = here (nat_eq c k) refl
    where
      here : (b : Bool) → nat_eq c k ≡ b → b ≡ false
      here true e = let z = eqb-true c k e in absurd (omega (arith, z, l))
      here false e = refl

  later_fields : (k : ℕ) (cs : List Draft) → c < k → fields_at c (draft_facts k cs) ≡ []
  later_fields k [] l = refl
  later_fields k (d ∷ cs) l = fields_over k d.fields (draft_facts (suc k) cs) (other k l)
      ∙ later_fields (suc k) cs (omega (arith, l))

  later_owed : (k : ℕ) (cs : List Draft) → c < k → fields_owed hs c (draft_facts k cs) ≡ []
  later_owed k [] l = refl
  later_owed k (d ∷ cs) l = let e = other k l in
      rw e (owed_over k d.fields (draft_facts (suc k) cs) ∙ later_owed (suc k) cs (omega (arith, l)))

-- Fields in rising order that are those of the struct are 0, 1, ..

first_insert : (x : ℕ) (xs : List ℕ) → RisesFrom x xs → insert x xs ≡ x ∷ xs
first_insert x [] h = refl
first_insert x (y ∷ ys) h = let l = h.0 in let e : nat_le x y ≡ true = le-leb x y (omega (arith, l)) in rw e refl

rises_in_order : (x : ℕ) (xs : List ℕ) → RisesFrom x xs → in_order xs ≡ xs
rises_in_order x [] h = refl
rises_in_order x (y ∷ ys) h = ap (insert y) (rises_in_order y ys h.1) ∙ first_insert y ys h.1

rising_in_order : (xs : List ℕ) → IsRising xs → in_order xs ≡ xs
rising_in_order [] h = refl
rising_in_order (x ∷ xs) h = ap (insert x) (rises_in_order x xs h) ∙ first_insert x xs h

numbered_rises : (j k : ℕ) (xs : List ℕ) → j < k → RisesFrom j (numbered k xs)
numbered_rises j k [] l = tt
numbered_rises j k (x ∷ xs) l = (l, numbered_rises k (suc k) xs (omega arith))

pub numbered_rising : (k : ℕ) (xs : List ℕ) → IsRising (numbered k xs)
numbered_rising k [] = tt
numbered_rising k (x ∷ xs) = numbered_rises k (suc k) xs (omega arith)

module _ (hs : List Shape) where
  -- the fields of the cell are those of its struct, in order
  abbrev IsFull : Draft → Type 0
  IsFull c = keys c.fields ≡ fields_of hs c.shape

  own_fields : (k : ℕ) (c : Draft) (cs : List Draft) → IsSorted c
      → Rearranged (fields_owed hs k (draft_facts k (c ∷ cs))) (fields_at k (draft_facts k (c ∷ cs))) → IsFull c
  own_fields k c cs s h =
      let e : nat_eq k k ≡ true = eq-eqb k k refl in
      let a : fields_owed hs k (draft_facts k (c ∷ cs)) ≡ fields_of hs c.shape =
      (rw e (ap (λ (z : List ℕ). fields_of hs c.shape ++ z)
      (owed_over hs k k c.fields (draft_facts (suc k) cs) ∙ later_owed hs k (suc k) cs (omega arith))
      ∙ append-nil (fields_of hs c.shape))) in
      let b : fields_at k (draft_facts k (c ∷ cs)) ≡ keys c.fields =
      fields_here hs k k c.fields (draft_facts (suc k) cs) e
      ∙ ap (λ (z : List ℕ). keys c.fields ++ z) (later_fields hs k (suc k) cs (omega arith))
      ∙ append-nil (keys c.fields) in
      let r : Rearranged (fields_of hs c.shape) (keys c.fields) = chain (equal (sym a)) (chain h (equal b)) in
      sym s ∙ sym (order_same r) ∙ rising_in_order (fields_of hs c.shape) (numbered_rising 0 (targets_of hs c.shape))

  others_fields : (n k : ℕ) (c : Draft) (cs : List Draft)
      → Rearranged (fields_owed hs n (draft_facts k (c ∷ cs))) (fields_at n (draft_facts k (c ∷ cs)))
      → Rearranged (fields_owed hs n (draft_facts (suc k) cs)) (fields_at n (draft_facts (suc k) cs))
  others_fields n k c cs h = here (nat_eq n k) refl
    where
      here : (b : Bool) → nat_eq n k ≡ b
          → Rearranged (fields_owed hs n (draft_facts (suc k) cs)) (fields_at n (draft_facts (suc k) cs))
      here true e =
          let z = eqb-true n k e in
          let l : n < suc k = omega (arith, z) in
          chain (equal (later_owed hs n (suc k) cs l)) (equal (sym (later_fields hs n (suc k) cs l)))
      here false e =
          let a : fields_owed hs n (draft_facts k (c ∷ cs)) ≡ fields_owed hs n (draft_facts (suc k) cs) =
          rw e (owed_over hs n k c.fields (draft_facts (suc k) cs)) in
          let b : fields_at n (draft_facts k (c ∷ cs)) ≡ fields_at n (draft_facts (suc k) cs) =
          fields_over hs n k c.fields (draft_facts (suc k) cs) e in
          chain (equal (sym a)) (chain h (equal b))

  all_full : (k : ℕ) (cs : List Draft) → Every IsSorted cs
      → ((n : ℕ) → Rearranged (fields_owed hs n (draft_facts k cs)) (fields_at n (draft_facts k cs))) → Every IsFull cs
  all_full k [] s h = tt
  all_full k (c ∷ cs) s h =
      (own_fields k c cs s.0 (h k), all_full (suc k) cs s.1 (λ n. others_fields n k c cs (h n)))

  -- The facts of the store.

  field_points : (n j : ℕ) (xs : List FieldValue) (us : List ℕ) → keys xs ≡ numbered j us
      → points n j (map (λ x. x.value) xs) ≡ map (field_fact n) xs
  field_points n j [] us e = refl
  field_points n j (x ∷ xs) [] e =
      let z : suc (length (keys xs)) ≡ 0 = ap length e in absurd (omega (arith, z))
  field_points n j (x ∷ xs) (u ∷ us) e =
      let i : j ≡ x.field = sym (ap (first_or 0) e) in
      ap₂ (λ (m : ℕ) (z : List Fact). Points n m x.value ∷ z) i (field_points n (suc j) xs us (ap others e))
    where
      first_or : ℕ → List ℕ → ℕ
      first_or d [] = d
      first_or d (x ∷ xs) = x

      others : List ℕ → List ℕ
      others [] = []
      others (x ∷ xs) = xs

  done_facts : (k : ℕ) (cs : List Draft) → Every IsFull cs → store_facts (cells_done k cs) ≡ draft_facts k cs
  done_facts k [] h = refl
  done_facts k (c ∷ cs) h =
      ap₂ (λ (x y : List Fact). Head k c.shape c.datums ∷ (x ++ y))
      (field_points k 0 c.fields (targets_of hs c.shape) h.0) (done_facts (suc k) cs h.1)

  values_long : (xs : List FieldValue) → length (map (λ (x : FieldValue). x.value) xs) ≡ length (keys xs)
  values_long [] = refl
  values_long (x ∷ xs) = ap suc (values_long xs)

  numbered_long : (k : ℕ) (xs : List ℕ) → length (numbered k xs) ≡ length xs
  numbered_long k [] = refl
  numbered_long k (x ∷ xs) = ap suc (numbered_long (suc k) xs)

  done_fields : (k : ℕ) (cs : List Draft) → Every IsFull cs → Every (HasItsFields hs) (cells_done k cs)
  done_fields k [] h = tt
  done_fields k (c ∷ cs) h = (
    values_long c.fields ∙ ap length h.0 ∙ numbered_long 0 (targets_of hs c.shape),
    done_fields (suc k) cs h.1,
  )

-- Proper stores.

not_before : (k n : ℕ) (cs : List Draft) → n < k → HasCell (cells_done k cs) n → ⊥
not_before k n [] l h = h
not_before k n (c ∷ cs) l (inl e) = omega (arith, e, l)
not_before k n (c ∷ cs) l (inr h) = not_before (suc k) n cs (omega (arith, l)) h

done_differ : (k : ℕ) (cs : List Draft) → AllDiffer (cells_done k cs)
done_differ k [] = tt
done_differ k (c ∷ cs) = (not_before (suc k) k cs (omega arith), done_differ (suc k) cs)

done_below : (next k : ℕ) (cs : List Draft) → k + length cs ≤ next
    → Every (λ (c : CellRec). c.number < next) (cells_done k cs)
done_below next k [] l = tt
done_below next k (c ∷ cs) l =
    let z : k + suc (length cs) ≤ next = l in (omega (arith, z), done_below next (suc k) cs (omega (arith, z)))

heads_over : (k : ℕ) (xs : List FieldValue) (fs : List Fact) → heads (map (field_fact k) xs ++ fs) ≡ heads fs
heads_over k [] fs = refl
heads_over k (x ∷ xs) fs = heads_over k xs fs

head_done : (k n : ℕ) (cs : List Draft) → IsIn n (heads (draft_facts k cs)) → HasCell (cells_done k cs) n
head_done k n [] h = h
head_done k n (c ∷ cs) (inl e) = inl (sym e)
head_done k n (c ∷ cs) (inr h) = inr
    (head_done (suc k) n cs
    (subst (λ (z : List ℕ). IsIn n z) (heads_over k c.fields (draft_facts (suc k) cs)) h))

module _ (ns : List ℕ) (all : List CellRec) (there : (n : ℕ) → IsIn n ns → HasCell all n) where
  value_there : (v : Value) → IsNamed ns v → NamesCell all v
  value_there NullValue h = tt
  value_there UninitValue h = tt
  value_there DanglingValue h = tt
  value_there (CellValue n) h = there n h

  values_there : (k : ℕ) (xs : List FieldValue) → Every (FactNamed ns) (map (field_fact k) xs)
      → Every (NamesCell all) (map (λ (x : FieldValue). x.value) xs)
  values_there k [] h = tt
  values_there k (x ∷ xs) h = (value_there x.value h.0, values_there k xs h.1)

  done_there : (k : ℕ) (cs : List Draft) → Every (FactNamed ns) (draft_facts k cs)
      → Every (λ (c : CellRec). Every (NamesCell all) c.fields) (cells_done k cs)
  done_there k [] h = tt
  done_there k (c ∷ cs) h =
      let p = every_parts (FactNamed ns) (map (field_fact k) c.fields) (draft_facts (suc k) cs) h.1 in
      (values_there k c.fields p.0, done_there (suc k) cs p.1)

  nth_there : (vs : List Value) → Every (IsNamed ns) vs → (r : ℕ) → NamesCell all (nth_value vs r)
  nth_there [] h r = tt
  nth_there (v ∷ vs) h zero = value_there v h.0
  nth_there (v ∷ vs) h (suc r) = nth_there vs h.1 r

  target_there : (vs : List Value) → Every (IsNamed ns) vs → (t : Target) → NamesCell all (value_in vs t)
  target_there vs h Null = tt
  target_there vs h Uninit = tt
  target_there vs h Dangling = tt
  target_there vs h (At r) = nth_there vs h r

  targets_there : (vs : List Value) → Every (IsNamed ns) vs → (ts : List Target)
      → Every (NamesCell all) (map (value_in vs) ts)
  targets_there vs h [] = tt
  targets_there vs h (t ∷ ts) = (target_there vs h t, targets_there vs h ts)

-- The store.

module _ (t : Boxes) (F : Forest) (d : Nodes) (of : OfForest t.defs F d)
    (full : (c : ℕ) → Rearranged (fields_owed t.face.shapes.structs c (facts d)) (fields_at c (facts d)))
    (named : Every (FactNamed (heads (facts d))) (facts d)) (roots : Every (IsNamed (heads (facts d))) (roots_of d))
    (n : ℕ) (counts : Counts 1 (forest_out [] d) n) where
  abbrev drafts : List Draft
  drafts = written (forest_out [] d) []

  abbrev hs : List Shape
  hs = t.face.shapes.structs

  moved : Rearranged (facts d) (draft_facts 1 (written (forest_out [] d) []))
  moved = chain (facts_out d)
      (chain (equal (sym (append-nil (forest_out [] d)))) (back (written_facts (forest_out [] d) [] n counts)))

  full_drafts : Every (IsFull t.face.shapes.structs) (written (forest_out [] d) [])
  full_drafts = all_full t.face.shapes.structs 1 (written (forest_out [] d) [])
      (written_sorted (forest_out [] d) [] tt) (λ c. parts_moved t.face.shapes.structs c moved (full c))

  there : (m : ℕ) → IsIn m (heads (facts d)) → HasCell (cells_done 1 (written (forest_out [] d) [])) m
  there m i = head_done 1 m (written (forest_out [] d) []) (in_rearranged m (flat_mapped head_of moved) i)

  -- the forest stands for the store by the dressed forest
  pub stands : StandsBy t.face.shapes.structs t.defs F d (store_made F (roots_of d) (written (forest_out [] d) []))
  stands = record {
    proper = record {
      differ = done_differ 1 (written (forest_out [] d) []);
      below = done_below (suc (length (written (forest_out [] d) []))) 1 (written (forest_out [] d) []) (omega arith);
      vars = targets_there (heads (facts d)) (cells_done 1 (written (forest_out [] d) [])) there
          (roots_of d) roots F.vars;
      fields = done_there (heads (facts d)) (cells_done 1 (written (forest_out [] d) [])) there 1
          (written (forest_out [] d) []) (every_moved (FactNamed (heads (facts d))) moved named);
    };
    fields = done_fields t.face.shapes.structs 1 (written (forest_out [] d) []) full_drafts;
    of = of;
    same_facts = chain moved
        (equal (sym (done_facts t.face.shapes.structs 1 (written (forest_out [] d) []) full_drafts)));
    vars = refl;
    data_vars = refl;
  }
