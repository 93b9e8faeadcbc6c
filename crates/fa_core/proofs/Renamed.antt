-- A store that is alike to a member is a member.
use Rattle.std.proofs.Common.{◌≡◌, ◌⊎◌, inl, inr, ℕ, zero, suc, ◌<◌, List, [], ◌∷◌, ◌++◌, map, length, slice_set}
use Rattle.std.proofs.Common.{slice_index_or, swap, refl, sym, ap, ap₂, subst, ◌∙◌, IsPermutation, not-suc-le-zero}
use Rattle.std.proofs.Common.{le_of_suc-le-suc}
use Rattle.std.proofs.lemmas.Bool.{cases_eq}
use Rattle.std.proofs.lemmas.List.Sorted.{IsPermutation-keeps}
use Rattle.fore_base.specs.declared.store.Value.{Value}
use Rattle.fore_base.specs.declared.store.Value.TheVariants.{Null as NullValue, Uninit as UninitValue}
use Rattle.fore_base.specs.declared.store.Value.TheVariants.{Dangling as DanglingValue, Cell}
use Rattle.fore_base.specs.declared.store.CellRec.{CellRec}
use Rattle.fore_base.specs.declared.store.Store.{Store}
use Rattle.fore_base.specs.Heap.{IsProper, IsAlike, value_renamed, cell_renamed}
use Rattle.ta_core.specs.Auto.{Automaton}
use Rattle.ta_core.specs.Language.{InLanguage}
use Rattle.ta_core.specs.declared.symbol.Slot.{Slot}
use Rattle.ta_core.specs.declared.symbol.Slot.TheVariants.{Field, Link, Hook}
use Rattle.ta_core.specs.declared.symbol.Symbol.TheVariants.{Cell as CellSymbol}
use Rattle.ta_core.specs.declared.tree.Tree.{Tree, roll-Tree}
use Rattle.fa_core.specs.declared.forest.Target.{Target}
use Rattle.fa_core.specs.declared.forest.Target.TheVariants.{Null, Uninit, Dangling, At}
use Rattle.fa_core.specs.declared.forest.Forest.{Forest}
use Rattle.fa_core.specs.declared.boxes.BoxDef.{BoxDef}
use Rattle.fa_core.specs.Dressed.{Node, Parts, End, Nodes, node, no_parts, field, link, hook, under, leaf, no_nodes}
use Rattle.fa_core.specs.Dressed.{more, Fact, Head, Points, facts, tree_facts, slot_facts, end_facts, forest_facts}
use Rattle.fa_core.specs.Dressed.{port_facts, with_ports, end_value, number, roots_of, nth_value, value_in}
use Rattle.fa_core.specs.Member.{bare, bare_parts, bare_end, slots_of, InsidesOf, InsidesOfParts, InsidesOfEnd, TreesOf}
use Rattle.fa_core.specs.Member.{OfForest, points, cell_facts, store_facts, HasItsFields, StandsBy, Stands}
use Rattle.fore_base.specs.Lists.{Every}
use Rattle.fore_base.specs.declared.shape.Shape.{Shape}
use Rattle.fa_core.specs.Rearranged.{Rearranged, empty, keep, swap as exchanged, chain}
use Rattle.fa_core.proofs.Rearranging.{same, equal, back, both, exchange}
use Rattle.fa_core.proofs.Permuted.{cancel}

-- Exchanges rearrange

-- an item at a place, and the rest
placed : {X : Type 0} (xs : List X) (i : ℕ) (d : X) → i < length xs → (R : List X)
    × Rearranged xs (slice_index_or xs i d ∷ R) × ((y : X) → Rearranged (slice_set xs i y) (y ∷ R))
placed [] i d h = absurd (not-suc-le-zero h)
placed (x ∷ xs) zero d h = (xs, same (x ∷ xs), λ y. same (y ∷ xs))
placed (x ∷ xs) (suc i) d h =
    let k = placed xs i d (le_of_suc-le-suc h) in (
      x ∷ k.0,
      chain (keep x k.1) (exchanged x (slice_index_or xs i d) k.0),
      λ y. chain (keep x (k.2 y)) (exchanged x y k.0),
    )

get_other : {X : Type 0} (xs : List X) (i j : ℕ) (x d : X) → (i ≡ j → ⊥) → slice_index_or (slice_set xs i x) j d
    ≡ slice_index_or xs j d
get_other [] i j x d ne = refl
get_other (y ∷ xs) zero zero x d ne = absurd (ne refl)
get_other (y ∷ xs) zero (suc j) x d ne = refl
get_other (y ∷ xs) (suc i) zero x d ne = refl
get_other (y ∷ xs) (suc i) (suc j) x d ne = get_other xs i j x d (λ e. ne (ap suc e))

get_same : {X : Type 0} (xs : List X) (i : ℕ) (x d : X) → i < length xs → slice_index_or (slice_set xs i x) i d ≡ x
get_same [] i x d h = absurd (not-suc-le-zero h)
get_same (y ∷ xs) zero x d h = refl
get_same (y ∷ xs) (suc i) x d h = get_same xs i x d (le_of_suc-le-suc h)

length_set : {X : Type 0} (xs : List X) (i : ℕ) (x : X) → length (slice_set xs i x) ≡ length xs
length_set [] i x = refl
length_set (y ∷ xs) zero x = refl
length_set (y ∷ xs) (suc i) x = ap suc (length_set xs i x)

swapped : {X : Type 0} (xs : List X) (i j : ℕ) → i < length xs → j < length xs → Rearranged xs (swap xs i j)
swapped [] i j h k = absurd (not-suc-le-zero h)
swapped {X} (d ∷ ys) i j h k = here (cases_eq i j)
  where
    xs : List X
    xs = d ∷ ys

    here : (i ≡ j) ⊎ (i ≡ j → ⊥)
        → Rearranged (d ∷ ys)
        (slice_set (slice_set (d ∷ ys) i (slice_index_or (d ∷ ys) j d)) j (slice_index_or (d ∷ ys) i d))
    here (inl e) =
        let p = placed (d ∷ ys) i d h in
        let x = slice_index_or (d ∷ ys) i d in
        let m = slice_set (d ∷ ys) i (slice_index_or (d ∷ ys) j d) in
        let y = slice_index_or (d ∷ ys) j d in
        let q = placed m j d (subst (λ (n : ℕ). j < n) (sym (length_set (d ∷ ys) i y)) k) in
        let z : slice_index_or m j d ≡ y = ap (λ (n : ℕ). slice_index_or m n d) (sym e) ∙ get_same (d ∷ ys) i y d h in
        let r : Rearranged p.0 q.0 =
        cancel y p.0 q.0 (chain (back (p.2 y)) (chain q.1 (equal (ap (λ (w : X). w ∷ q.0) z)))) in
        chain p.1 (chain (keep x r) (back (q.2 x)))
    here (inr ne) =
        let p = placed (d ∷ ys) i d h in
        let x = slice_index_or (d ∷ ys) i d in
        let y = slice_index_or (d ∷ ys) j d in
        let m = slice_set (d ∷ ys) i y in
        let q = placed m j d (subst (λ (n : ℕ). j < n) (sym (length_set (d ∷ ys) i y)) k) in
        let z : slice_index_or m j d ≡ y = get_other (d ∷ ys) i j y d ne in
        let r : Rearranged p.0 q.0 =
        cancel y p.0 q.0 (chain (back (p.2 y)) (chain q.1 (equal (ap (λ (w : X). w ∷ q.0) z)))) in
        chain p.1 (chain (keep x r) (back (q.2 x)))

pub moved : {X : Type 0} (xs ys : List X) → IsPermutation xs ys → Rearranged xs ys
moved {X} xs ys p = IsPermutation-keeps xs (λ l. Rearranged xs l) (same xs) (λ l i j h k r. chain r (swapped l i j h k))
    ys p

-- Dressed forests with other numbers

module _ (f : ℕ → ℕ) where
  abbrev mutual
    pub rename : Node → Node
    rename (node c s ds ps) = node (f c) s ds (rename_parts ps)

    pub rename_parts : Parts → Parts
    rename_parts no_parts = no_parts
    rename_parts (field g e ps) = field g (rename_end e) (rename_parts ps)
    rename_parts (link b inside e ps) = link b (rename_all inside) (rename_end e) (rename_parts ps)
    rename_parts (hook b inside ps) = hook b (rename_all inside) (rename_parts ps)

    pub rename_end : End → End
    rename_end (under n) = under (rename n)
    rename_end (leaf t) = leaf t

    pub rename_all : Nodes → Nodes
    rename_all no_nodes = no_nodes
    rename_all (more n ns) = more (rename n) (rename_all ns)

  -- numbers are no part of the bare trees

  slots_same : (ps : Parts) → slots_of (rename_parts ps) ≡ slots_of ps
  slots_same no_parts = refl
  slots_same (field g e ps) = ap (λ (xs : List Slot). Field g ∷ xs) (slots_same ps)
  slots_same (link b inside e ps) = ap (λ (xs : List Slot). Link b ∷ xs) (slots_same ps)
  slots_same (hook b inside ps) = ap (λ (xs : List Slot). Hook b ∷ xs) (slots_same ps)

  mutual
    bare_same : (n : Node) → bare (rename n) ≡ bare n
    bare_same (node c s ds ps) =
        ap₂ (λ (xs : List Slot) (ts : List Tree). roll-Tree (record { symbol = CellSymbol s ds xs; children = ts }))
        (slots_same ps) (parts_same ps)

    parts_same : (ps : Parts) → bare_parts (rename_parts ps) ≡ bare_parts ps
    parts_same no_parts = refl
    parts_same (field g e ps) = ap₂ (λ (t : Tree) (ts : List Tree). t ∷ ts) (end_same e) (parts_same ps)
    parts_same (link b inside e ps) = ap₂ (λ (t : Tree) (ts : List Tree). t ∷ ts) (end_same e) (parts_same ps)
    parts_same (hook b inside ps) = parts_same ps

    end_same : (e : End) → bare_end (rename_end e) ≡ bare_end e
    end_same (under n) = bare_same n
    end_same (leaf t) = refl

  module _ (T : List BoxDef) where
    mutual
      insides_same : (n : Node) → InsidesOf T n → InsidesOf T (rename n)
      insides_same (node c s ds ps) h = insides_parts ps h

      insides_parts : (ps : Parts) → InsidesOfParts T ps → InsidesOfParts T (rename_parts ps)
      insides_parts no_parts h = tt
      insides_parts (field g e ps) h = (insides_end e h.0, insides_parts ps h.1)
      insides_parts (link b inside e ps) h =
          ((h.0.0, h.0.1, trees_same h.0.0 inside h.0.2), insides_end e h.1, insides_parts ps h.2)
      insides_parts (hook b inside ps) h = ((h.0.0, h.0.1, trees_same h.0.0 inside h.0.2), insides_parts ps h.1)

      insides_end : (e : End) → InsidesOfEnd T e → InsidesOfEnd T (rename_end e)
      insides_end (under n) h = insides_same n h
      insides_end (leaf t) h = tt

      trees_same : (autos : List Automaton) (d : Nodes) → TreesOf T autos d → TreesOf T autos (rename_all d)
      trees_same [] no_nodes h = tt
      trees_same [] (more n ns) h = absurd h
      trees_same (a ∷ autos) no_nodes h = absurd h
      trees_same (a ∷ autos) (more n ns) h =
          (subst (InLanguage a) (sym (bare_same n)) h.0, insides_same n h.1, trees_same autos ns h.2)

    pub of_renamed : (F : Forest) (d : Nodes) → OfForest T F d → OfForest T F (rename_all d)
    of_renamed F d h = trees_same F.autos d h

  -- facts with other numbers

  abbrev pub fact_renamed : Fact → Fact
  fact_renamed (Head c s ds) = Head (f c) s ds
  fact_renamed (Points c g v) = Points (f c) g (value_renamed f v)

  values : List Value → List Value
  values vs = map (value_renamed f) vs

  number_same : (n : Node) → number (rename n) ≡ f (number n)
  number_same (node c s ds ps) = refl

  roots_renamed : (d : Nodes) → roots_of (rename_all d) ≡ map (value_renamed f) (roots_of d)
  roots_renamed no_nodes = refl
  roots_renamed (more n ns) = ap₂ (λ (k : ℕ) (vs : List Value). Cell k ∷ vs) (number_same n) (roots_renamed ns)

  ports_renamed : (vs : List Value) (d : Nodes) → with_ports (map (value_renamed f) vs) (rename_all d)
      ≡ map (value_renamed f) (with_ports vs d)
  ports_renamed [] no_nodes = refl
  ports_renamed [] (more n ns) = roots_renamed (more n ns)
  ports_renamed (v ∷ vs) no_nodes = refl
  ports_renamed (v ∷ vs) (more n ns) = ap (λ (ws : List Value). value_renamed f v ∷ ws) (ports_renamed vs ns)

  nth_renamed : (vs : List Value) (k : ℕ) → nth_value (map (value_renamed f) vs) k ≡ value_renamed f (nth_value vs k)
  nth_renamed [] k = refl
  nth_renamed (v ∷ vs) zero = refl
  nth_renamed (v ∷ vs) (suc k) = nth_renamed vs k

  target_renamed : (vs : List Value) (t : Target) → value_in (map (value_renamed f) vs) t
      ≡ value_renamed f (value_in vs t)
  target_renamed vs Null = refl
  target_renamed vs Uninit = refl
  target_renamed vs Dangling = refl
  target_renamed vs (At k) = nth_renamed vs k

  end_renamed : (vs : List Value) (e : End) → end_value (map (value_renamed f) vs) (rename_end e)
      ≡ value_renamed f (end_value vs e)
  end_renamed vs (under n) = ap Cell (number_same n)
  end_renamed vs (leaf t) = target_renamed vs t

  map_both : (xs ys : List Fact) → map fact_renamed (xs ++ ys) ≡ map fact_renamed xs ++ map fact_renamed ys
  map_both [] ys = refl
  map_both (x ∷ xs) ys = ap (λ (zs : List Fact). fact_renamed x ∷ zs) (map_both xs ys)

  mutual
    tree_renamed : (vs : List Value) (n : Node) → tree_facts (map (value_renamed f) vs) (rename n)
        ≡ map fact_renamed (tree_facts vs n)
    tree_renamed vs (node c s ds ps) = ap (λ (xs : List Fact). Head (f c) s ds ∷ xs) (slots_renamed vs c ps)

    slots_renamed : (vs : List Value) (c : ℕ) (ps : Parts)
        → slot_facts (map (value_renamed f) vs) (f c) (rename_parts ps) ≡ map fact_renamed (slot_facts vs c ps)
    slots_renamed vs c no_parts = refl
    slots_renamed vs c (field g e ps) =
        ap₂ (λ (v : Value) (xs : List Fact). Points (f c) g v ∷ xs) (end_renamed vs e)
        (ap₂ (λ (xs ys : List Fact). xs ++ ys) (ends_renamed vs e) (slots_renamed vs c ps)
        ∙ sym (map_both (end_facts vs e) (slot_facts vs c ps)))
    slots_renamed vs c (link b inside e ps) =
        let ports = Cell c ∷ (end_value vs e ∷ []) in
        ap₂ (λ (xs ys : List Fact). xs ++ ys)
        (ap
        (λ (v : Value). forest_facts (with_ports (Cell (f c) ∷ (v ∷ [])) (rename_all inside))
        (Cell (f c) ∷ (v ∷ [])) (rename_all inside)) (end_renamed vs e)
        ∙ (ap (λ (ws : List Value). forest_facts ws (map (value_renamed f) ports) (rename_all inside))
        (ports_renamed ports inside) ∙ forest_renamed (with_ports ports inside) ports inside))
        (ap₂ (λ (xs ys : List Fact). xs ++ ys) (ends_renamed vs e) (slots_renamed vs c ps)
        ∙ sym (map_both (end_facts vs e) (slot_facts vs c ps)))
        ∙ sym (map_both (forest_facts (with_ports ports inside) ports inside) (end_facts vs e ++ slot_facts vs c ps))
    slots_renamed vs c (hook b inside ps) =
        let ports = Cell c ∷ [] in
        ap₂ (λ (xs ys : List Fact). xs ++ ys)
        (ap (λ (ws : List Value). forest_facts ws (map (value_renamed f) ports) (rename_all inside))
        (ports_renamed ports inside) ∙ forest_renamed (with_ports ports inside) ports inside)
        (slots_renamed vs c ps)
        ∙ sym (map_both (forest_facts (with_ports ports inside) ports inside) (slot_facts vs c ps))

    ends_renamed : (vs : List Value) (e : End) → end_facts (map (value_renamed f) vs) (rename_end e)
        ≡ map fact_renamed (end_facts vs e)
    ends_renamed vs (under n) = tree_renamed vs n
    ends_renamed vs (leaf t) = refl

    forest_renamed : (vs ports : List Value) (d : Nodes)
        → forest_facts (map (value_renamed f) vs) (map (value_renamed f) ports) (rename_all d)
        ≡ map fact_renamed (forest_facts vs ports d)
    forest_renamed vs ports no_nodes = refl
    forest_renamed vs [] (more n ns) =
        ap₂ (λ (xs ys : List Fact). xs ++ ys) (tree_renamed vs n) (forest_renamed vs [] ns)
        ∙ sym (map_both (tree_facts vs n) (forest_facts vs [] ns))
    forest_renamed vs (v ∷ ports) (more n ns) =
        ap₂ (λ (xs ys : List Fact). xs ++ ys) (port_renamed vs v n) (forest_renamed vs ports ns)
        ∙ sym (map_both (port_facts vs v n) (forest_facts vs ports ns))

    port_renamed : (vs : List Value) (v : Value) (n : Node)
        → port_facts (map (value_renamed f) vs) (value_renamed f v) (rename n) ≡ map fact_renamed (port_facts vs v n)
    port_renamed vs (Cell m) (node c s ds ps) = slots_renamed vs m ps
    port_renamed vs NullValue (node c s ds ps) = refl
    port_renamed vs UninitValue (node c s ds ps) = refl
    port_renamed vs DanglingValue (node c s ds ps) = refl

  pub facts_renamed : (d : Nodes) → facts (rename_all d) ≡ map fact_renamed (facts d)
  facts_renamed d = ap (λ (vs : List Value). forest_facts vs [] (rename_all d)) (roots_renamed d)
      ∙ forest_renamed (roots_of d) [] d

  points_renamed : (c k : ℕ) (vs : List Value) → points (f c) k (map (value_renamed f) vs)
      ≡ map fact_renamed (points c k vs)
  points_renamed c k [] = refl
  points_renamed c k (v ∷ vs) =
      ap (λ (xs : List Fact). Points (f c) k (value_renamed f v) ∷ xs) (points_renamed c (suc k) vs)

  store_renamed : (cs : List CellRec) → store_facts (map (cell_renamed f) cs) ≡ map fact_renamed (store_facts cs)
  store_renamed [] = refl
  store_renamed (c ∷ cs) =
      ap₂ (λ (xs ys : List Fact). Head (f c.number) c.shape c.datums ∷ (xs ++ ys)) (points_renamed c.number 0 c.fields)
      (store_renamed cs) ∙ sym
      (ap (λ (xs : List Fact). Head (f c.number) c.shape c.datums ∷ xs)
      (map_both (points c.number 0 c.fields) (store_facts cs)))

  values_renamed : (vs : List Value) (ts : List Target) → map (value_in (map (value_renamed f) vs)) ts
      ≡ map (value_renamed f) (map (value_in vs) ts)
  values_renamed vs [] = refl
  values_renamed vs (t ∷ ts) =
      ap₂ (λ (w : Value) (ws : List Value). w ∷ ws) (target_renamed vs t) (values_renamed vs ts)

rearranged_map : {X Y : Type 0} (g : X → Y) {xs ys : List X} → Rearranged xs ys → Rearranged (map g xs) (map g ys)
rearranged_map g empty = empty
rearranged_map g (keep x r) = keep (g x) (rearranged_map g r)
rearranged_map g (exchanged x y xs) = exchanged (g x) (g y) (map g xs)
rearranged_map g (chain p q) = chain (rearranged_map g p) (rearranged_map g q)

store_moved : {xs ys : List CellRec} → Rearranged xs ys → Rearranged (store_facts xs) (store_facts ys)
store_moved empty = empty
store_moved (keep x r) = both (same (cell_facts x)) (store_moved r)
store_moved (exchanged x y xs) = exchange (cell_facts x) (cell_facts y) (store_facts xs)
store_moved (chain p q) = chain (store_moved p) (store_moved q)

every_moved : {X : Type 0} (P : X → Type 0) {xs ys : List X} → Rearranged xs ys → Every P xs → Every P ys
every_moved P empty h = h
every_moved P (keep x r) h = (h.0, every_moved P r h.1)
every_moved P (exchanged x y xs) h = (h.1.0, (h.0, h.1.1))
every_moved P (chain p q) h = every_moved P q (every_moved P p h)

length_map : {X Y : Type 0} (g : X → Y) (xs : List X) → length (map g xs) ≡ length xs
length_map g [] = refl
length_map g (x ∷ xs) = ap suc (length_map g xs)

fields_renamed : (hs : List Shape) (f : ℕ → ℕ) (cs : List CellRec) → Every (HasItsFields hs) cs
    → Every (HasItsFields hs) (map (cell_renamed f) cs)
fields_renamed hs f [] h = tt
fields_renamed hs f (c ∷ cs) h = (length_map (value_renamed f) c.fields ∙ h.0, fields_renamed hs f cs h.1)

module _ (hs : List Shape) (T : List BoxDef) (F : Forest) where
  -- a proper store that is alike to a member is a member
  pub stands_alike : (d : Nodes) (s t : Store) → StandsBy hs T F d s → (a : IsAlike s t) → IsProper t
      → StandsBy hs T F (rename_all a.to d) t
  stands_alike d s t h a p =
      let m = moved (map (cell_renamed a.to) s.cells) t.cells a.cells in
      record {
        proper = p;
        fields = every_moved (HasItsFields hs) m (fields_renamed hs a.to s.cells h.fields);
        of = of_renamed a.to T F d h.of;
        same_facts = chain (equal (facts_renamed a.to d))
            (chain (rearranged_map (fact_renamed a.to) h.same_facts)
            (chain (equal (sym (store_renamed a.to s.cells))) (store_moved m)));
        vars =
            a.vars
            ∙ (ap (λ (vs : List Value). map (value_renamed a.to) vs) h.vars
            ∙ (sym (values_renamed a.to (roots_of d) F.vars)
            ∙ ap (λ (vs : List Value). map (value_in vs) F.vars) (sym (roots_renamed a.to d))));
        data_vars = a.data_vars ∙ h.data_vars;
      }

  pub alike_member : (s t : Store) → Stands hs T F s → IsAlike s t → IsProper t → Stands hs T F t
  alike_member s t h a p = (rename_all a.to h.0, stands_alike h.0 s t h.1 a p)
