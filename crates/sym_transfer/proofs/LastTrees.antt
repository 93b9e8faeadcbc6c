-- A new cell as the last tree of a dressed forest.
use Rattle.std.proofs.Common.{◌≡◌, ℕ, zero, suc, ◌<◌, length, replicate, List, [], ◌∷◌, ◌++◌, refl, sym, ap, ap₂, subst}
use Rattle.std.proofs.Common.{◌∙◌, append_assoc, arith, false, nat_eq, not-suc-le-zero, le_of_suc-le-suc, lt_irrefl}
use Rattle.std.proofs.lemmas.Bool.{ne_eqb}
use Rattle.fore_base.specs.Lists.{Every}
use Rattle.fore_base.specs.Shapes.{targets_of, datums_of}
use Rattle.fore_base.specs.declared.shape.Shape.{Shape}
use Rattle.fore_base.specs.declared.store.Datum.TheVariants.{Undefined}
use Rattle.fore_base.specs.declared.store.Value.{Value}
use Rattle.fore_base.specs.declared.store.Value.TheVariants.{Uninit as UninitValue, Cell}
use Rattle.fore_base.proofs.ListLemmas.{every_parts, every_weaker}
use Rattle.fa_core.specs.Choices.{count}
use Rattle.fa_core.specs.Dressed.{Node, Parts, End, Nodes, node, no_parts, field, link, hook, under, leaf, no_nodes}
use Rattle.fa_core.specs.Dressed.{more, Fact, Head, Points, facts, tree_facts, slot_facts, end_facts, forest_facts}
use Rattle.fa_core.specs.Dressed.{with_ports, end_value, number, roots_of, nth_value, value_in, refs, refs_of, end_refs}
use Rattle.fa_core.specs.Dressed.{all_refs, leaf_refs}
use Rattle.fa_core.specs.Member.{points, cell_facts}
use Rattle.fa_core.specs.Placed.{placed, placed_parts, placed_end, placed_leaf, placed_all}
use Rattle.fa_core.specs.declared.forest.Target.{Target}
use Rattle.fa_core.specs.declared.forest.Target.TheVariants.{Null, Uninit, Dangling, At}
use Rattle.fa_merge.specs.Dropped.{without_node, AreLeaves, drop_leaf, dropped}
use Rattle.fa_merge.proofs.Lowered.{lowered_below}
use Rattle.fa_split.specs.Split.{with_last}
use Rattle.fa_edit.specs.Cells.{blank_parts, new_node}
use Rattle.c_types.specs.Steps.{blank}

-- What the roots are.

pub nth_first : (vs ws : List Value) (k : ℕ) → k < length vs → nth_value (vs ++ ws) k ≡ nth_value vs k
nth_first [] ws k h = absurd (not-suc-le-zero h)
nth_first (v ∷ vs) ws zero h = refl
nth_first (v ∷ vs) ws (suc k) h = nth_first vs ws k (le_of_suc-le-suc h)

pub nth_last : (vs : List Value) (w : Value) → nth_value (vs ++ w ∷ []) (length vs) ≡ w
nth_last [] w = refl
nth_last (v ∷ vs) w = nth_last vs w

pub last_roots : (d : Nodes) (n : Node) → roots_of (with_last d n) ≡ roots_of d ++ Cell (number n) ∷ []
last_roots no_nodes n = refl
last_roots (more m ns) n = ap (λ (vs : List Value). Cell (number m) ∷ vs) (last_roots ns n)

pub count_roots : (d : Nodes) → length (roots_of d) ≡ count d
count_roots no_nodes = refl
count_roots (more n ns) = ap (λ (k : ℕ). suc k) (count_roots ns)

-- Facts stay where roots are given other values, and those to which leaves refer keep theirs.

module _ (vs ws : List Value) where
  abbrev pub Agrees : ℕ → Type 0
  Agrees k = nth_value vs k ≡ nth_value ws k

  target_agrees : (t : Target) → Every Agrees (leaf_refs t) → value_in vs t ≡ value_in ws t
  target_agrees Null h = refl
  target_agrees Uninit h = refl
  target_agrees Dangling h = refl
  target_agrees (At k) h = h.0

  end_agrees : (e : End) → Every Agrees (end_refs e) → end_value vs e ≡ end_value ws e
  end_agrees (under n) h = refl
  end_agrees (leaf t) h = target_agrees t h

  mutual
    tree_agrees : (n : Node) → Every Agrees (refs n) → tree_facts vs n ≡ tree_facts ws n
    tree_agrees (node c s ds ps) h = ap (λ (xs : List Fact). Head c s ds ∷ xs) (slots_agree c ps h)

    slots_agree : (c : ℕ) (ps : Parts) → Every Agrees (refs_of ps) → slot_facts vs c ps ≡ slot_facts ws c ps
    slots_agree c no_parts h = refl
    slots_agree c (field f e ps) h =
        let k = every_parts Agrees (end_refs e) (refs_of ps) h in
        ap₂ (λ (v : Value) (xs : List Fact). Points c f v ∷ xs) (end_agrees e k.0)
        (ap₂ (λ (xs ys : List Fact). xs ++ ys) (ends_agree e k.0) (slots_agree c ps k.1))
    slots_agree c (link b inside e ps) h =
        let k = every_parts Agrees (end_refs e) (refs_of ps) h in
        ap₂ (λ (v : Value) (xs : List Fact).
        forest_facts (with_ports (Cell c ∷ (v ∷ [])) inside) (Cell c ∷ (v ∷ [])) inside ++ xs) (end_agrees e k.0)
        (ap₂ (λ (xs ys : List Fact). xs ++ ys) (ends_agree e k.0) (slots_agree c ps k.1))
    slots_agree c (hook b inside ps) h =
        ap (λ (xs : List Fact). forest_facts (with_ports (Cell c ∷ []) inside) (Cell c ∷ []) inside ++ xs)
        (slots_agree c ps h)

    ends_agree : (e : End) → Every Agrees (end_refs e) → end_facts vs e ≡ end_facts ws e
    ends_agree (under n) h = tree_agrees n h
    ends_agree (leaf t) h = refl

  pub forest_agrees : (d : Nodes) → Every Agrees (all_refs d) → forest_facts vs [] d ≡ forest_facts ws [] d
  forest_agrees no_nodes h = refl
  forest_agrees (more n ns) h =
      let k = every_parts Agrees (refs n) (all_refs ns) h in
      ap₂ (λ (xs ys : List Fact). xs ++ ys) (tree_agrees n k.0) (forest_agrees ns k.1)

-- The new cell.

blank_facts : (vs : List Value) (c k j : ℕ) → slot_facts vs c (blank_parts k j) ≡ points c k (replicate j UninitValue)
blank_facts vs c k zero = refl
blank_facts vs c k (suc j) = ap (λ (xs : List Fact). Points c k UninitValue ∷ xs) (blank_facts vs c (suc k) j)

new_facts : (hs : List Shape) (vs : List Value) (shape c : ℕ) → tree_facts vs (new_node hs shape c)
    ≡ cell_facts (blank hs c shape)
new_facts hs vs shape c =
    ap (λ (xs : List Fact). Head c shape (replicate (datums_of hs shape) Undefined) ∷ xs)
    (blank_facts vs c 0 (length (targets_of hs shape)))

last_facts : (vs : List Value) (d : Nodes) (n : Node) → forest_facts vs [] (with_last d n) ≡ forest_facts vs [] d
    ++ (tree_facts vs n ++ [])
last_facts vs no_nodes n = refl
last_facts vs (more m ns) n = ap (λ (xs : List Fact). tree_facts vs m ++ xs) (last_facts vs ns n)
    ∙ sym (append_assoc (tree_facts vs m) (forest_facts vs [] ns) (tree_facts vs n ++ []))

-- the facts of a dressed forest stay where one more root is a cell
pub old_facts : (c : ℕ) (d : Nodes) → Every (λ r. r < count d) (all_refs d)
    → forest_facts (roots_of d ++ Cell c ∷ []) [] d ≡ facts d
old_facts c d low =
    forest_agrees (roots_of d ++ Cell c ∷ []) (roots_of d) d
    (every_weaker (λ r. r < count d) (Agrees (roots_of d ++ Cell c ∷ []) (roots_of d)) (all_refs d)
    (λ r l. nth_first (roots_of d) (Cell c ∷ []) r (subst (λ (m : ℕ). r < m) (sym (count_roots d)) l)) low)

-- the facts of a dressed forest with a new cell are its own, and those of a blank cell
pub grown_facts : (hs : List Shape) (shape c : ℕ) (d : Nodes) → Every (λ r. r < count d) (all_refs d)
    → facts (with_last d (new_node hs shape c)) ≡ facts d ++ (cell_facts (blank hs c shape) ++ [])
grown_facts hs shape c d low =
    let vs = roots_of d ++ Cell c ∷ [] in
    ap (λ (ws : List Value). forest_facts ws [] (with_last d (new_node hs shape c)))
    (last_roots d (new_node hs shape c))
    ∙ last_facts vs d (new_node hs shape c)
    ∙ ap₂ (λ (xs ys : List Fact). xs ++ (ys ++ [])) (old_facts c d low) (new_facts hs vs shape c)

pub blank_leaves : (k j : ℕ) → AreLeaves (blank_parts k j)
blank_leaves k zero = tt
blank_leaves k (suc j) = blank_leaves (suc k) j

-- The last tree dropped again.

pub without_last : (d : Nodes) (n : Node) → without_node (count d) (with_last d n) ≡ d
without_last no_nodes n = refl
without_last (more m ns) n = ap (more m) (without_last ns n)

-- leaves that refer to the other roots stay
module _ (f : ℕ → Target) where
  abbrev Stays : ℕ → Type 0
  Stays k = f k ≡ At k

  leaf_stays : (t : Target) → Every Stays (leaf_refs t) → placed_leaf f t ≡ t
  leaf_stays Null h = refl
  leaf_stays Uninit h = refl
  leaf_stays Dangling h = refl
  leaf_stays (At k) h = h.0

  mutual
    tree_stays : (n : Node) → Every Stays (refs n) → placed f n ≡ n
    tree_stays (node c s ds ps) h = ap (node c s ds) (parts_stay ps h)

    parts_stay : (ps : Parts) → Every Stays (refs_of ps) → placed_parts f ps ≡ ps
    parts_stay no_parts h = refl
    parts_stay (field g e ps) h = let k = every_parts Stays (end_refs e) (refs_of ps) h in
        ap₂ (field g) (end_stays e k.0) (parts_stay ps k.1)
    parts_stay (link b inside e ps) h = let k = every_parts Stays (end_refs e) (refs_of ps) h in
        ap₂ (link b inside) (end_stays e k.0) (parts_stay ps k.1)
    parts_stay (hook b inside ps) h = ap (hook b inside) (parts_stay ps h)

    end_stays : (e : End) → Every Stays (end_refs e) → placed_end f e ≡ e
    end_stays (under n) h = ap under (tree_stays n h)
    end_stays (leaf t) h = ap leaf (leaf_stays t h)

  all_stay : (d : Nodes) → Every Stays (all_refs d) → placed_all f d ≡ d
  all_stay no_nodes h = refl
  all_stay (more n ns) h = let k = every_parts Stays (refs n) (all_refs ns) h in
      ap₂ more (tree_stays n k.0) (all_stay ns k.1)

-- leaves that are what they were
pub every_stays : (d : Nodes) → placed_all (λ k. At k) d ≡ d
every_stays d = all_stay (λ k. At k) d (all_so (all_refs d))
  where
    all_so : (ks : List ℕ) → Every (Stays (λ k. At k)) ks
    all_so [] = tt
    all_so (k ∷ ks) = (refl, all_so ks)

low_stays : (r k : ℕ) → k < r → drop_leaf r k ≡ At k
low_stays r k l =
    let other : nat_eq r k ≡ false = ne_eqb r k (λ e. (let z = subst (λ (m : ℕ). k < m) e l in lt_irrefl k z)) in
    let w = lowered_below r k (omega (arith, l)) in
    rw other (ap At w)

-- with the last root dropped, the dressed forest is as before
pub dropped_last : (d : Nodes) (n : Node) → Every (λ r. r < count d) (all_refs d) → dropped (count d) (with_last d n)
    ≡ d
dropped_last d n low =
    ap (placed_all (drop_leaf (count d))) (without_last d n)
    ∙ all_stay (drop_leaf (count d)) d
    (every_weaker (λ r. r < count d) (Stays (drop_leaf (count d))) (all_refs d) (low_stays (count d)) low)
