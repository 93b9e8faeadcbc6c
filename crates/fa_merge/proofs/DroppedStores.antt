-- A store of a forest without the cell of a root that is dropped is a store of the forest without the root.
use Rattle.std.proofs.Common.{◌≡◌, ◌≢◌, inl, inr, ℕ, suc, ◌<◌, Bool, true, false, true≢false, if◌then◌else◌}
use Rattle.std.proofs.Common.{nat_eq, length, List, [], ◌∷◌, ◌++◌, map, refl, sym, ap, subst, ◌∙◌, Some}
use Rattle.std.proofs.lemmas.Bool.{eqb-true, eq-eqb}
use Rattle.fore_base.specs.Heap.{HasCell, NamesCell, AllDiffer, IsProper}
use Rattle.fore_base.specs.Lists.{IsIn, IsDistinct, Every}
use Rattle.fore_base.specs.Stores.{dangle, dangle_in, without}
use Rattle.fore_base.specs.declared.shape.Shape.{Shape}
use Rattle.fore_base.specs.declared.store.CellRec.{CellRec}
use Rattle.fore_base.specs.declared.store.Datum.{Datum}
use Rattle.fore_base.specs.declared.store.Store.{Store}
use Rattle.fore_base.specs.declared.store.Value.{Value}
use Rattle.fore_base.specs.declared.store.Value.TheVariants.{Null, Uninit, Dangling, Cell}
use Rattle.fore_base.proofs.ListLemmas.{in_right}
use Rattle.fa_core.specs.declared.faces.Face.{Face}
use Rattle.fa_core.specs.Boxes.{IsTableOf, head_of, heads}
use Rattle.fa_core.specs.Filled.{IsFilled}
use Rattle.fa_core.specs.declared.boxes.BoxDef.{BoxDef}
use Rattle.fa_core.specs.declared.forest.Forest.{Forest}
use Rattle.fa_core.specs.Dressed.{Node, Parts, Nodes, node, Fact, Head, Points, facts, tree_facts}
use Rattle.fa_core.specs.Dressed.{slot_facts, forest_facts, value_in, roots_of}
use Rattle.fa_core.specs.Member.{StandsBy, HasItsFields, store_facts}
use Rattle.fa_core.specs.Rearranged.{Rearranged}
use Rattle.fa_core.proofs.Permuted.{distinct_moved}
use Rattle.fa_core.proofs.Rearranging.{flat_map-append, flat_mapped, mapped}
use Rattle.fa_merge.specs.Dropped.{without_node, dropped, AreLeaves, IsIdle, IsCut, Removes, without_cell}
use Rattle.fa_back.specs.Reached.{node_at}
use Rattle.fa_merge.proofs.DroppedClear.{NoHead, all_clear}
use Rattle.fa_merge.proofs.DroppedFacts.{InsidesIn, insides_in, insides_without, leaves_dropped, facts_dropped}
use Rattle.fa_merge.proofs.DroppedFacts.{but_facts, but_moved, but_root, root_first, store_dropped}
use Rattle.fa_merge.proofs.DroppedInsides.{dangle_fact, NoFact, HaveInputs, table_inputs}
use Rattle.fa_back.proofs.FactParts.{fact_cell}
use Rattle.fa_back.proofs.StoreLaws.{differ as heads_differ}

module _ (c : ℕ) where
  -- Cells that are left.

  cell_stays : (cs : List CellRec) (n : ℕ) → n ≢ c → HasCell cs n → HasCell (without c cs) n
  cell_stays [] n d h = absurd h
  cell_stays (x ∷ cs) n d (inl e) = here (nat_eq x.number c) refl
    where
      here : (b : Bool) → nat_eq x.number c ≡ b → HasCell (if b then without c cs else dangle_in c x ∷ without c cs) n
      here true q = absurd (d (sym e ∙ eqb-true x.number c q))
      here false q = inl e
  cell_stays (x ∷ cs) n d (inr h) = here (nat_eq x.number c) (cell_stays cs n d h)
    where
      here : (b : Bool) → HasCell (without c cs) n
          → HasCell (if b then without c cs else dangle_in c x ∷ without c cs) n
      here true k = k
      here false k = inr k

  cell_was : (cs : List CellRec) (n : ℕ) → HasCell (without c cs) n → HasCell cs n
  cell_was [] n h = h
  cell_was (x ∷ cs) n h = here (nat_eq x.number c) (cell_was cs n) h
    where
      here : (b : Bool) → (HasCell (without c cs) n → HasCell cs n)
          → HasCell (if b then without c cs else dangle_in c x ∷ without c cs) n → HasCell (x ∷ cs) n
      here true was k = inr (was k)
      here false was (inl e) = inl e
      here false was (inr k) = inr (was k)

  still_differ : (cs : List CellRec) → AllDiffer cs → AllDiffer (without c cs)
  still_differ [] h = tt
  still_differ (x ∷ cs) h = here (nat_eq x.number c) (still_differ cs h.1)
    where
      here : (b : Bool) → AllDiffer (without c cs)
          → AllDiffer (if b then without c cs else dangle_in c x ∷ without c cs)
      here true k = k
      here false k = ((λ i. h.0 (cell_was cs x.number i)), k)

  -- what each cell is stays where its fields are Dangling
  every_left : (P Q : CellRec → Type 0) (cs : List CellRec) → ((x : CellRec) → P x → Q (dangle_in c x)) → Every P cs
      → Every Q (without c cs)
  every_left P Q [] f h = tt
  every_left P Q (x ∷ cs) f h = here (nat_eq x.number c) (every_left P Q cs f h.1)
    where
      here : (b : Bool) → Every Q (without c cs) → Every Q (if b then without c cs else dangle_in c x ∷ without c cs)
      here true k = k
      here false k = (f x h.0, k)

  value_named : (cs : List CellRec) (v : Value) → NamesCell cs v → NamesCell (without c cs) (dangle c v)
  value_named cs Null h = tt
  value_named cs Uninit h = tt
  value_named cs Dangling h = tt
  value_named cs (Cell n) h = here (nat_eq n c) refl
    where
      here : (b : Bool) → nat_eq n c ≡ b → NamesCell (without c cs) (if b then Dangling else Cell n)
      here true e = tt
      here false e = cell_stays cs n (λ q. true≢false (sym (eq-eqb n c q) ∙ e)) h

  values_named : (cs : List CellRec) (vs : List Value) → Every (NamesCell cs) vs
      → Every (NamesCell (without c cs)) (map (dangle c) vs)
  values_named cs [] h = tt
  values_named cs (v ∷ vs) h = (value_named cs v h.0, values_named cs vs h.1)

  as_many : (vs : List Value) → length (map (dangle c) vs) ≡ length vs
  as_many [] = refl
  as_many (v ∷ vs) = ap (λ (n : ℕ). suc n) (as_many vs)

  still_proper : (s : Store) → IsProper s → IsProper (without_cell c s)
  still_proper s h = record {
    differ = still_differ s.cells h.differ;
    below = every_left (λ x. x.number < s.next) (λ x. x.number < s.next) s.cells (λ x l. l) h.below;
    vars = values_named s.cells s.vars h.vars;
    fields = every_left (λ x. Every (NamesCell s.cells) x.fields) (λ x. Every (NamesCell (without c s.cells)) x.fields)
        s.cells (λ x k. values_named s.cells x.fields k) h.fields;
  }

  still_fields : (hs : List Shape) (cs : List CellRec) → Every (HasItsFields hs) cs
      → Every (HasItsFields hs) (without c cs)
  still_fields hs cs h = every_left (HasItsFields hs) (HasItsFields hs) cs (λ x e. as_many x.fields ∙ e) h

-- a store without the root's cell, where no fact of the other trees is of that cell
module _ (hs : List Shape) (T : List BoxDef) (F G : Forest) (r : ℕ) (cut : IsCut T F G r) (d : Nodes) (s : Store)
    (h : StandsBy hs T F d s) (U : List BoxDef) (inputs : HaveInputs U) (insides : InsidesIn U (without_node r d))
    (c sh : ℕ) (ds : List Datum) (ps : Parts) (is : node_at d r ≡ Some (node c sh ds ps)) (leaves : AreLeaves ps)
    (clear : NoFact c (forest_facts (roots_of d) [] (without_node r d))) where
  step : map (dangle_fact c) (but_facts c (facts d)) ≡ facts (dropped r d)
  step = ap (map (dangle_fact c)) (but_root (roots_of d) c sh ds ps r d is leaves clear)
      ∙ sym (facts_dropped U inputs c sh ds ps r d is clear insides)

  pub stands_without : StandsBy hs T G (dropped r d) (without_cell c s)
  stands_without =
      let moved : Rearranged (map (dangle_fact c) (but_facts c (facts d)))
      (map (dangle_fact c) (but_facts c (store_facts s.cells))) =
      mapped (dangle_fact c) (but_moved c h.same_facts) in
      let there : Rearranged (facts (dropped r d)) (store_facts (without c s.cells)) =
      subst (λ (z : List Fact). Rearranged z (store_facts (without c s.cells))) step
      (subst (λ (z : List Fact). Rearranged (map (dangle_fact c) (but_facts c (facts d))) z) (store_dropped c s.cells)
      moved) in
      let vars : map (dangle c) s.vars ≡ map (value_in (roots_of (dropped r d))) G.vars =
      ap (map (dangle c)) h.vars
      ∙ sym (leaves_dropped U inputs c sh ds ps r d is clear F.vars)
      ∙ sym (ap (map (value_in (roots_of (dropped r d)))) cut.vars) in
      record {
        proper = still_proper c s h.proper;
        fields = still_fields c hs s.cells h.fields;
        of = cut.forth d h.of;
        same_facts = there;
        vars = vars;
        data_vars = h.data_vars ∙ sym cut.data_vars;
      }

-- by a table of boxes over the face
module _ (face : Face) (T : List BoxDef) (F G : Forest) (r : ℕ) (table : IsTableOf face T) (filled : IsFilled face F)
    (idle : IsIdle face.boxes F r) (cut : IsCut T F G r) where
  abbrev hs : List Shape
  hs = face.shapes.structs

  -- the root's cell has one head
  one_head : (d : Nodes) (s : Store) → StandsBy face.shapes.structs T F d s → (c sh : ℕ) (ds : List Datum) (ps : Parts)
      → node_at d r ≡ Some (node c sh ds ps) → NoHead c (forest_facts (roots_of d) [] (without_node r d))
  one_head d s h c sh ds ps is q es i =
      let vs : List Value = roots_of d in
      let n : Node = node c sh ds ps in
      let rest : List Fact = forest_facts (roots_of d) [] (without_node r d) in
      let first : Rearranged (heads (facts d)) (heads (tree_facts (roots_of d) n ++ rest)) =
      flat_mapped head_of (root_first vs r d n is) in
      let apart : IsDistinct (heads (tree_facts (roots_of d) n ++ rest)) =
      distinct_moved first (heads_differ hs T F d s h) in
      apart.0
      (subst (λ (z : List ℕ). IsIn c z) (sym (flat_map-append head_of (slot_facts vs c ps) rest))
      (in_right c (heads (slot_facts vs c ps)) (heads rest) (head_in c q es rest i)))
    where
      head_in : (c q : ℕ) (es : List Datum) (fs : List Fact) → IsIn (Head c q es) fs → IsIn c (heads fs)
      head_in c q es [] i = absurd i
      head_in c q es (Head m t us ∷ fs) (inl e) = inl (ap fact_cell e)
      head_in c q es (Points m f v ∷ fs) (inl e) = absurd (subst is_head_fact e tt)
        where
          is_head_fact : Fact → Type 0
          is_head_fact (Head m t us) = Unit {0}
          is_head_fact (Points m g w) = ⊥
      head_in c q es (Head m t us ∷ fs) (inr i) = inr (head_in c q es fs i)
      head_in c q es (Points m f v ∷ fs) (inr i) = head_in c q es fs i

  pub store_removed : Removes face.shapes.structs T F G r
  store_removed d s h =
      let flat = cut.top d h.of in
      let c : ℕ = flat.0 in
      let clear = all_clear face T F r table filled idle d h.of c flat.1.0 flat.1.1 flat.1.2 flat.1.3 flat.1.4
      (one_head d s h c flat.1.0 flat.1.1 flat.1.2 flat.1.3) in (
        c,
        flat.1,
        stands_without hs T F G r cut d s h T (table_inputs face.shapes T table.sound)
            (insides_without T r d (insides_in T F.autos d h.of)) c flat.1.0 flat.1.1 flat.1.2 flat.1.3 flat.1.4
            clear,
      )
