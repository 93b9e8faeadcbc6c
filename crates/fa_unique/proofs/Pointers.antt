-- The cells that the pointers of the facts name: without box edges each inner cell once, and what the references name.
use Rattle.std.proofs.Common.{◌≡◌, inl, inr, ℕ, ◌+◌, Bool, true, false, cond, nat_eq, List, [], ◌∷◌}
use Rattle.std.proofs.Common.{◌++◌, flat_map, refl, sym, ap, subst, ◌∙◌, append_assoc}
use Rattle.std.proofs.lemmas.Bool.{eqb-true, eq-eqb}
use Rattle.fore_base.specs.Lists.{IsIn}
use Rattle.fore_base.specs.declared.store.Value.{Value}
use Rattle.fore_base.specs.declared.store.Value.TheVariants.{Null as NullValue, Uninit as UninitValue}
use Rattle.fore_base.specs.declared.store.Value.TheVariants.{Dangling as DanglingValue, Cell}
use Rattle.fore_base.proofs.ListLemmas.{in_append, in_left, in_right}
use Rattle.fa_core.specs.declared.forest.Target.TheVariants.{Null, Uninit, Dangling, At}
use Rattle.fa_core.specs.Choices.{numbers_of, end_numbers, all_numbers}
use Rattle.fa_core.specs.Dressed.{Node, Parts, End, Nodes, node, no_parts, field, link, hook, under, leaf, no_nodes}
use Rattle.fa_core.specs.Dressed.{more}
use Rattle.fa_core.specs.Dressed.{Fact, Head, Points, tree_facts, slot_facts, end_facts, forest_facts, end_value}
use Rattle.fa_core.specs.Dressed.{nth_value, refs, refs_of, end_refs, all_refs}
use Rattle.fa_core.specs.Rearranged.{Rearranged, empty, keep, swap, chain, often}
use Rattle.fa_core.proofs.PlainNodes.{NoEdges, NoEdgesOf, NoEdgesAt, NoEdgesIn}
use Rattle.fa_core.proofs.Rearranging.{same, after, both, exchange, flat_map-append}

-- the cell that a value names, if any
abbrev pub cell_of : Value → List ℕ
cell_of NullValue = []
cell_of UninitValue = []
cell_of DanglingValue = []
cell_of (Cell n) = n ∷ []

-- the cells that the pointers of the facts name, one for each pointer
abbrev pub pointed : List Fact → List ℕ
pointed [] = []
pointed (Head c s ds ∷ fs) = pointed fs
pointed (Points c f v ∷ fs) = cell_of v ++ pointed fs

pointed_append : (xs ys : List Fact) → pointed (xs ++ ys) ≡ pointed xs ++ pointed ys
pointed_append [] ys = refl
pointed_append (Head c s ds ∷ xs) ys = pointed_append xs ys
pointed_append (Points c f v ∷ xs) ys =
    rw (pointed_append xs ys) (sym (append_assoc (cell_of v) (pointed xs) (pointed ys)))

pointed_two : (x y : Fact) (fs : List Fact) → Rearranged (pointed (x ∷ (y ∷ fs))) (pointed (y ∷ (x ∷ fs)))
pointed_two (Head c s ds) (Head c' s' ds') fs = same (pointed fs)
pointed_two (Head c s ds) (Points c' f' v') fs = same (cell_of v' ++ pointed fs)
pointed_two (Points c f v) (Head c' s' ds') fs = same (cell_of v ++ pointed fs)
pointed_two (Points c f v) (Points c' f' v') fs = exchange (cell_of v) (cell_of v') (pointed fs)

pointed_one : (x : Fact) (fs gs : List Fact) → Rearranged (pointed fs) (pointed gs)
    → Rearranged (pointed (x ∷ fs)) (pointed (x ∷ gs))
pointed_one (Head c s ds) fs gs r = r
pointed_one (Points c f v) fs gs r = after (cell_of v) r

-- facts in another order name the same cells as often
pub pointed_same : {fs gs : List Fact} → Rearranged fs gs → Rearranged (pointed fs) (pointed gs)
pointed_same empty = empty
pointed_same (keep x {xs = xs} {ys = ys} r) = pointed_one x xs ys (pointed_same r)
pointed_same (swap x y xs) = pointed_two x y xs
pointed_same (chain a b) = chain (pointed_same a) (pointed_same b)

-- what references name
abbrev pub named_by : List Value → List ℕ → List ℕ
named_by vs ks = flat_map (λ k. cell_of (nth_value vs k)) ks

-- the cells below the top
abbrev pub inner : Node → List ℕ
inner (node c s ds ps) = numbers_of ps

-- the cells below the tops
abbrev pub all_inner : Nodes → List ℕ
all_inner no_nodes = []
all_inner (more n ns) = inner n ++ all_inner ns

-- the second part and the third change places
shuffled : (a b c d : List ℕ) → Rearranged ((a ++ c) ++ (b ++ d)) ((a ++ b) ++ (c ++ d))
shuffled a b c d = rw (append_assoc a c (b ++ d), append_assoc a b (c ++ d)) (after a (exchange c b d))

module _ (vs : List Value) where
  two : (e' s' e s : List ℕ) (xs ys : List ℕ) → Rearranged e' (e ++ named_by vs xs)
      → Rearranged s' (s ++ named_by vs ys) → Rearranged (e' ++ s') ((e ++ s) ++ named_by vs (xs ++ ys))
  two e' s' e s xs ys p q =
      rw (flat_map-append (λ k. cell_of (nth_value vs k)) xs ys)
      (chain (both p q) (shuffled e s (named_by vs xs) (named_by vs ys)))

  mutual
    tree_pointed : (n : Node) → NoEdges n → Rearranged (pointed (tree_facts vs n)) (inner n ++ named_by vs (refs n))
    tree_pointed (node c s ds ps) b = parts_pointed c ps b

    parts_pointed : (c : ℕ) (ps : Parts) → NoEdgesOf ps
        → Rearranged (pointed (slot_facts vs c ps)) (numbers_of ps ++ named_by vs (refs_of ps))
    parts_pointed c no_parts b = empty
    parts_pointed c (field f e ps) b =
        rw (
          pointed_append (end_facts vs e) (slot_facts vs c ps),
          sym (append_assoc (cell_of (end_value vs e)) (pointed (end_facts vs e)) (pointed (slot_facts vs c ps))),
        )
        (two _ _ (end_numbers e) (numbers_of ps) (end_refs e) (refs_of ps) (end_pointed e b.0)
        (parts_pointed c ps b.1))
    parts_pointed c (link b inside e ps) x = absurd x
    parts_pointed c (hook b inside ps) x = absurd x

    -- an end: the pointer to it, and the pointers below it
    end_pointed : (e : End) → NoEdgesAt e
        → Rearranged (cell_of (end_value vs e) ++ pointed (end_facts vs e))
        (end_numbers e ++ named_by vs (end_refs e))
    end_pointed (under (node c s ds ps)) b = keep c (parts_pointed c ps b)
    end_pointed (leaf Null) b = empty
    end_pointed (leaf Uninit) b = empty
    end_pointed (leaf Dangling) b = empty
    end_pointed (leaf (At k)) b = same (cell_of (nth_value vs k) ++ [])

  -- the pointers of a forest name the inner cells, each once, and what the references name
  pub forest_pointed : (d : Nodes) → NoEdgesIn d
      → Rearranged (pointed (forest_facts vs [] d)) (all_inner d ++ named_by vs (all_refs d))
  forest_pointed no_nodes b = empty
  forest_pointed (more n ns) b =
      rw (pointed_append (tree_facts vs n) (forest_facts vs [] ns))
      (two _ _ (inner n) (all_inner ns) (refs n) (all_refs ns) (tree_pointed n b.0) (forest_pointed ns b.1))

-- an inner cell is a cell
pub in_inner : (d : Nodes) (n : ℕ) → IsIn n (all_inner d) → IsIn n (all_numbers d)
in_inner no_nodes n h = h
in_inner (more (node c s ds ps) ns) n h = elim (in_append n (numbers_of ps) (all_inner ns) h) [
  | inl i ↦ inr (in_left n (numbers_of ps) (all_numbers ns) i)
  | inr i ↦ inr (in_right n (numbers_of ps) (all_numbers ns) (in_inner ns n i))
]

-- what references name is what one of them names
pub named_root : (vs : List Value) (ks : List ℕ) (n : ℕ) → IsIn n (named_by vs ks)
    → (k : ℕ) × IsIn k ks × (nth_value vs k ≡ Cell n)
named_root vs [] n h = absurd h
named_root vs (k ∷ ks) n h = elim (in_append n (cell_of (nth_value vs k)) (named_by vs ks) h) [
  | inl i ↦ (k, inl refl, of_cell (nth_value vs k) i)
  | inr i ↦ (let m = named_root vs ks n i in (m.0, inr m.1, m.2))
]
  where
    of_cell : (v : Value) → IsIn n (cell_of v) → v ≡ Cell n
    of_cell NullValue i = absurd i
    of_cell UninitValue i = absurd i
    of_cell DanglingValue i = absurd i
    of_cell (Cell m) (inl e) = ap Cell (sym e)
    of_cell (Cell m) (inr i) = absurd i

-- where the root alone is the cell, the references name the cell as often as they name the root
pub named_often : (vs : List Value) (r n : ℕ) → nth_value vs r ≡ Cell n
    → ((k : ℕ) → nth_value vs k ≡ Cell n → k ≡ r) → (ks : List ℕ) → often n (named_by vs ks) ≡ often r ks
named_often vs r n e one [] = refl
named_often vs r n e one (k ∷ ks) = here (nat_eq r k) refl (nth_value vs k) refl (named_often vs r n e one ks)
  where
    of_value : (v : Value) → nth_value vs k ≡ v → (nat_eq r k ≡ false) → often n (named_by vs ks) ≡ often r ks
        → often n (cell_of v ++ named_by vs ks) ≡ often r ks
    of_value NullValue x b rec = rec
    of_value UninitValue x b rec = rec
    of_value DanglingValue x b rec = rec
    of_value (Cell m) x b rec = by (nat_eq n m) refl
      where
        by : (c : Bool) → nat_eq n m ≡ c
            → cond c (often n (named_by vs ks) + 1) (often n (named_by vs ks)) ≡ often r ks
        by true y =
            let z : k ≡ r = one k (x ∙ ap Cell (sym (eqb-true n m y))) in
            let w : nat_eq r k ≡ true = eq-eqb r k (sym z) in
            absurd (true_false (sym w ∙ b))
          where
            true_false : true ≡ false → ⊥
            true_false q = subst (λ (u : Bool). cond u (Unit {0}) ⊥) q tt
        by false y = rec

    here : (b : Bool) → nat_eq r k ≡ b → (v : Value) → nth_value vs k ≡ v → often n (named_by vs ks) ≡ often r ks
        → often n (cell_of v ++ named_by vs ks) ≡ cond b (often r ks + 1) (often r ks)
    here true b v x rec =
        let q : v ≡ Cell n = sym x ∙ ap (nth_value vs) (sym (eqb-true r k b)) ∙ e in
        let w : nat_eq n n ≡ true = eq-eqb n n refl in
        rw q (rw w (ap (λ (j : ℕ). j + 1) rec))
    here false b v x rec = of_value v x b rec
