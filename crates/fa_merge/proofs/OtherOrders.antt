-- A forest whose roots stand in another order has the same cells, both ways.
use Rattle.std.proofs.Common.{◌≡◌, ◌⊎◌, inl, inr, ℕ, zero, suc, ◌<◌, ◌≤◌, ◌+◌, length, List, [], ◌∷◌, ◌++◌, map}
use Rattle.std.proofs.Common.{flat_map, refl, sym, ap, ap₂, subst, ◌∙◌, slice_get, Some, not-suc-le-zero}
use Rattle.std.proofs.Common.{le_of_suc-le-suc, arith}
use Rattle.std.proofs.lemmas.Option.{none-some, same_Some, slice_get_within}
use Rattle.fore_base.specs.Lists.{IsIn, Every, IsDistinct}
use Rattle.fore_base.specs.declared.store.Value.{Value}
use Rattle.fore_base.specs.declared.store.Value.TheVariants.{Dangling as DanglingValue, Cell}
use Rattle.fore_base.proofs.ListLemmas.{in_every, every_in, in_from_place}
use Rattle.ta_core.specs.Auto.{Automaton}
use Rattle.ta_core.specs.Language.{InLanguage}
use Rattle.ta_core.specs.declared.auto.Rule.{Rule}
use Rattle.ta_core.specs.declared.symbol.Symbol.{Symbol}
use Rattle.ta_core.specs.declared.symbol.Symbol.TheVariants.{Null as NullSymbol, Uninit as UninitSymbol}
use Rattle.ta_core.specs.declared.symbol.Symbol.TheVariants.{Dangling as DanglingSymbol, Ref, Cell as CellSymbol}
use Rattle.fa_core.specs.declared.boxes.BoxDef.{BoxDef}
use Rattle.fa_core.specs.declared.forest.Forest.{Forest}
use Rattle.fa_core.specs.declared.forest.Target.{Target}
use Rattle.fa_core.specs.declared.forest.Target.TheVariants.{Null, Uninit, Dangling, At}
use Rattle.fa_core.specs.Choices.{count}
use Rattle.fa_core.specs.Dressed.{Node, Nodes, node, no_parts, no_nodes, more, value_in, nth_value, number, SeenCell}
use Rattle.fa_core.specs.Dressed.{tree_cells, forest_cells, cells, roots_of, refs}
use Rattle.fa_core.specs.Member.{TreesOf, OfForest, InsidesOf, Regroups, bare}
use Rattle.fa_core.specs.Placed.{placed, placed_leaf, placed_symbol, placed_rule, placed_auto}
use Rattle.fa_core.specs.Rearranged.{Rearranged}
use Rattle.fa_core.proofs.Permuted.{distinct_moved}
use Rattle.fa_core.proofs.Placing.{Agrees, cells_placed, in_placed, insides_placed, number_placed}
use Rattle.fa_core.proofs.Rearranging.{back, flat_mapped, long_same, every_moved, mapped}
use Rattle.fa_merge.specs.Reordered.{renumber, counted, reordered_by}
use Rattle.fa_sound.specs.Components.{component_at}
use Rattle.fa_merge.specs.inner.Orders.{IsOrder, nth_or}

pub counted_length : (k n : ℕ) → length (counted k n) ≡ n
counted_length k zero = refl
counted_length k (suc n) = ap (λ m. suc m) (counted_length (suc k) n)

pub counted_below : (k n m : ℕ) → k + n ≤ m → Every (λ j. j < m) (counted k n)
counted_below k zero m h = tt
counted_below k (suc n) m h = (omega (arith, h), counted_below (suc k) n m (omega (arith, h)))

pub counted_later : {X : Type 0} (h : ℕ → X) (k n : ℕ) → map h (counted (suc k) n) ≡ map (λ j. h (suc j)) (counted k n)
counted_later h k zero = refl
counted_later {X} h k (suc n) = ap (λ (z : List X). h (suc k) ∷ z) (counted_later h (suc k) n)

pub flat_later : {X : Type 0} (h : ℕ → List X) (k n : ℕ) → flat_map h (counted (suc k) n)
    ≡ flat_map (λ j. h (suc j)) (counted k n)
flat_later h k zero = refl
flat_later {X} h k (suc n) = ap (λ (z : List X). h (suc k) ++ z) (flat_later h (suc k) n)

-- The trees of the roots in another order

-- the k-th tree
abbrev pub node_or : Nodes → ℕ → Node
node_or no_nodes k = node 0 0 [] no_parts
node_or (more n ns) zero = n
node_or (more n ns) (suc k) = node_or ns k

abbrev pub picked : (ℕ → ℕ) → List ℕ → Nodes → Nodes
picked f [] d = no_nodes
picked f (k ∷ ks) d = more (placed (renumber f) (node_or d k)) (picked f ks d)

pub tree_at : (T : List BoxDef) (autos : List Automaton) (d : Nodes) (k : ℕ) → TreesOf T autos d → k < length autos
    → InLanguage (component_at autos k) (bare (node_or d k)) × InsidesOf T (node_or d k)
tree_at T [] d k h l = absurd (not-suc-le-zero l)
tree_at T (a ∷ autos) no_nodes k h l = absurd h
tree_at T (a ∷ autos) (more n ns) zero h l = (h.0, h.1)
tree_at T (a ∷ autos) (more n ns) (suc k) h l = tree_at T autos ns k h.2 (le_of_suc-le-suc l)

pub picked_trees : (T : List BoxDef) (f : ℕ → ℕ) (autos : List Automaton) (d : Nodes) (order : List ℕ)
    → TreesOf T autos d → Every (λ k. k < length autos) order
    → TreesOf T (map (λ k. placed_auto (renumber f) (component_at autos k)) order) (picked f order d)
picked_trees T f autos d [] h l = tt
picked_trees T f autos d (k ∷ ks) h l =
    let t = tree_at T autos d k h l.0 in (
      in_placed (renumber f) (component_at autos k) (node_or d k) t.0,
      insides_placed (renumber f) T (node_or d k) t.1,
      picked_trees T f autos d ks h l.1,
    )

pub count_trees : (T : List BoxDef) (autos : List Automaton) (d : Nodes) → TreesOf T autos d → count d ≡ length autos
count_trees T [] no_nodes h = refl
count_trees T [] (more n ns) h = absurd h
count_trees T (a ∷ autos) no_nodes h = absurd h
count_trees T (a ∷ autos) (more n ns) h = ap (λ k. suc k) (count_trees T autos ns h.2)

abbrev cell_of : Nodes → ℕ → Value
cell_of d k = Cell (number (node_or d k))

picked_roots : (f : ℕ → ℕ) (d : Nodes) (order : List ℕ) → roots_of (picked f order d) ≡ map (cell_of d) order
picked_roots f d [] = refl
picked_roots f d (k ∷ ks) =
    ap₂ (λ (x : ℕ) (y : List Value). Cell x ∷ y) (number_placed (renumber f) (node_or d k)) (picked_roots f d ks)

root_or : (d : Nodes) (k : ℕ) → k < count d → nth_value (roots_of d) k ≡ cell_of d k
root_or no_nodes k l = absurd (not-suc-le-zero l)
root_or (more n ns) zero l = refl
root_or (more n ns) (suc k) l = root_or ns k (le_of_suc-le-suc l)

root_beyond : (vs : List Value) (k : ℕ) → length vs ≤ k → nth_value vs k ≡ DanglingValue
root_beyond [] k l = refl
root_beyond (v ∷ vs) zero l = absurd (not-suc-le-zero l)
root_beyond (v ∷ vs) (suc k) l = root_beyond vs k (le_of_suc-le-suc l)

roots_length : (d : Nodes) → length (roots_of d) ≡ count d
roots_length no_nodes = refl
roots_length (more n ns) = ap (λ k. suc k) (roots_length ns)

nth_mapped : (h : ℕ → Value) (order : List ℕ) (j k : ℕ) → slice_get order j ≡ Some k → nth_value (map h order) j ≡ h k
nth_mapped h [] j k e = absurd (none-some k e)
nth_mapped h (i ∷ order) zero k e = ap h (same_Some i k e)
nth_mapped h (i ∷ order) (suc j) k e = nth_mapped h order j k e

pub mapped_length : {X Y : Type 0} (h : X → Y) (xs : List X) → length (map h xs) ≡ length xs
mapped_length h [] = refl
mapped_length h (x ∷ xs) = ap (λ k. suc k) (mapped_length h xs)

whole_cells : (vs : List Value) (d : Nodes) → flat_map (λ k. tree_cells vs (node_or d k)) (counted 0 (count d))
    ≡ forest_cells vs d
whole_cells vs no_nodes = refl
whole_cells vs (more n ns) =
    ap (λ (z : List SeenCell). tree_cells vs n ++ z)
    (flat_later (λ k. tree_cells vs (node_or (more n ns) k)) 0 (count ns) ∙ whole_cells vs ns)

module _ (f : ℕ → ℕ) (order : List ℕ) (d : Nodes) (is : IsOrder (count d) f order) where
  -- each root is the same cell under its new number
  picked_agree : (k : ℕ) → nth_value (roots_of (picked f order d)) (f k) ≡ nth_value (roots_of d) k
  picked_agree k = rw (picked_roots f d order) (here (is.finds k))
    where
      here : ((k < count d) × (slice_get order (f k) ≡ Some k)) ⊎ ((count d ≤ k) × (f k ≡ k))
          → nth_value (map (cell_of d) order) (f k) ≡ nth_value (roots_of d) k
      here (inl h) = nth_mapped (cell_of d) order (f k) k h.1 ∙ sym (root_or d k h.0)
      here (inr h) =
          let n : length (map (cell_of d) order) ≡ count d = mapped_length (cell_of d) order ∙ long_same is.all
          ∙ counted_length 0 (count d) in
          rw h.1 (root_beyond (map (cell_of d) order) k (rw n h.0)
          ∙ sym (root_beyond (roots_of d) k (rw (roots_length d) h.0)))

  cells_picked : (ks : List ℕ) → forest_cells (roots_of (picked f order d)) (picked f ks d)
      ≡ flat_map (λ k. tree_cells (roots_of d) (node_or d k)) ks
  cells_picked [] = refl
  cells_picked (k ∷ ks) = ap₂ (λ (x y : List SeenCell). x ++ y)
      (cells_placed (renumber f) (roots_of d) (roots_of (picked f order d)) (node_or d k)
      (in_every (Agrees (renumber f) (roots_of d) (roots_of (picked f order d))) (refs (node_or d k))
      (λ j i. picked_agree j))) (cells_picked ks)

  -- the law of other orders, on dressed forests: the same cells
  pub picked_cells : Rearranged (cells d) (cells (picked f order d))
  picked_cells =
      let g : ℕ → List SeenCell = (λ k. tree_cells (roots_of d) (node_or d k)) in
      rw (cells_picked order)
      (subst (λ (x : List SeenCell). Rearranged x (flat_map g order)) (whole_cells (roots_of d) d)
      (flat_mapped g (back is.all)))

  value_same : (t : Target) → value_in (roots_of (picked f order d)) (placed_leaf (renumber f) t)
      ≡ value_in (roots_of d) t
  value_same Null = refl
  value_same Uninit = refl
  value_same Dangling = refl
  value_same (At k) = picked_agree k

  -- and the same targets
  pub picked_vars : (us : List Target) → map (value_in (roots_of d)) us
      ≡ map (value_in (roots_of (picked f order d))) (map (placed_leaf (renumber f)) us)
  picked_vars [] = refl
  picked_vars (u ∷ us) = ap₂ (λ (x : Value) (y : List Value). x ∷ y) (sym (value_same u)) (picked_vars us)

pub order_below : (n : ℕ) (f : ℕ → ℕ) (order : List ℕ) → IsOrder n f order → Every (λ k. k < n) order
order_below n f order is = every_moved (λ k. k < n) (back is.all) (counted_below 0 n n (omega arith))

-- the trees in the new order are a dressed forest of the reordered forest
pub picked_of : (T : List BoxDef) (F : Forest) (f : ℕ → ℕ) (order : List ℕ) → IsOrder (length F.autos) f order
    → (d : Nodes) → OfForest T F d → OfForest T (reordered_by f order F) (picked f order d)
picked_of T F f order is d h = picked_trees T f F.autos d order h (order_below (length F.autos) f order is)

-- each dressed forest has one with its trees in the new order
pub reorder_onto : (T : List BoxDef) (F : Forest) (f : ℕ → ℕ) (order : List ℕ) → IsOrder (length F.autos) f order
    → Regroups T (reordered_by f order F) F
reorder_onto T F f order is d h =
    let c = count_trees T F.autos d h in
    let js : IsOrder (count d) f order = rw c is in (
      picked f order d,
      record {
        of = picked_trees T f F.autos d order h (order_below (length F.autos) f order is);
        same_cells = picked_cells f order d js;
        vars = picked_vars f order d js F.vars;
        data_vars = refl;
      },
    )

-- The order turned round

counted_from : (k n x : ℕ) → IsIn x (counted k n) → k ≤ x
counted_from k zero x h = absurd h
counted_from k (suc n) x (inl e) = omega (arith, e)
counted_from k (suc n) x (inr h) = let l = counted_from (suc k) n x h in omega (arith, l)

pub counted_differ : (k n : ℕ) → IsDistinct (counted k n)
counted_differ k zero = tt
counted_differ k (suc n) = ((λ i. let l = counted_from (suc k) n k i in omega (arith, l)), counted_differ (suc k) n)

pub one_place : (xs : List ℕ) (i j k : ℕ) → IsDistinct xs → slice_get xs i ≡ Some k → slice_get xs j ≡ Some k → i ≡ j
one_place [] i j k a e g = absurd (none-some k e)
one_place (x ∷ xs) zero zero k a e g = refl
one_place (x ∷ xs) zero (suc j) k a e g = absurd (a.0 (rw (sym (same_Some x k e)) at (in_from_place xs j k g)))
one_place (x ∷ xs) (suc i) zero k a e g = absurd (a.0 (rw (sym (same_Some x k g)) at (in_from_place xs i k e)))
one_place (x ∷ xs) (suc i) (suc j) k a e g = ap (λ m. suc m) (one_place xs i j k a.1 e g)

pub place_cases : {X : Type 0} (xs : List X) (j : ℕ) → ((x : X) × (slice_get xs j ≡ Some x)) ⊎ (length xs ≤ j)
place_cases [] j = inr (omega arith)
place_cases (x ∷ xs) zero = inl (x, refl)
place_cases (x ∷ xs) (suc j) = elim (place_cases xs j) [ inl h ↦ inl h | inr l ↦ inr (omega (arith, l)) ]

nth_got : (xs : List ℕ) (j d k : ℕ) → slice_get xs j ≡ Some k → nth_or xs j d ≡ k
nth_got [] j d k e = absurd (none-some k e)
nth_got (x ∷ xs) zero d k e = same_Some x k e
nth_got (x ∷ xs) (suc j) d k e = nth_got xs j d k e

nth_beyond : (xs : List ℕ) (j d : ℕ) → length xs ≤ j → nth_or xs j d ≡ d
nth_beyond [] j d l = refl
nth_beyond (x ∷ xs) zero d l = absurd (not-suc-le-zero l)
nth_beyond (x ∷ xs) (suc j) d l = nth_beyond xs j d (le_of_suc-le-suc l)

pub get_mapped : {X Y : Type 0} (h : X → Y) (xs : List X) (j : ℕ) (x : X) → slice_get xs j ≡ Some x
    → slice_get (map h xs) j ≡ Some (h x)
get_mapped h [] j x e = absurd (none-some x e)
get_mapped {X} {Y} h (y ∷ xs) zero x e = ap (λ (z : X). Some (h z)) (same_Some y x e)
get_mapped h (y ∷ xs) (suc j) x e = get_mapped h xs j x e

pub get_counted : (k n j : ℕ) → j < n → slice_get (counted k n) j ≡ Some (k + j)
get_counted k zero j l = absurd (not-suc-le-zero l)
get_counted k (suc n) zero l = ap (λ (z : ℕ). Some z) (let e : k ≡ k + 0 = omega arith in e)
get_counted k (suc n) (suc j) l = get_counted (suc k) n j (le_of_suc-le-suc l)
    ∙ ap (λ (z : ℕ). Some z) (let e : suc k + j ≡ k + suc j = omega arith in e)

mapped_counted : (f : ℕ → ℕ) (xs : List ℕ) (i : ℕ) → ((j k : ℕ) → slice_get xs j ≡ Some k → f k ≡ i + j)
    → map f xs ≡ counted i (length xs)
mapped_counted f [] i h = refl
mapped_counted f (x ∷ xs) i h =
    let e : f x ≡ i + 0 = h 0 x refl in
    let z : f x ≡ i = omega (arith, e) in
    ap₂ (λ (a : ℕ) (b : List ℕ). a ∷ b) z
    (mapped_counted f xs (suc i) (λ j k g. let w : f k ≡ i + suc j = h (suc j) k g in omega (arith, w)))

module _ (n : ℕ) (f : ℕ → ℕ) (order : List ℕ) (is : IsOrder n f order) where
  -- the root that stands at place j
  abbrev pub root_at : ℕ → ℕ
  root_at j = nth_or order j j

  pub order_length : length order ≡ n
  order_length = long_same is.all ∙ counted_length 0 n

  pub root_place : (k : ℕ) → root_at (f k) ≡ k
  root_place k = here (is.finds k)
    where
      here : ((k < n) × (slice_get order (f k) ≡ Some k)) ⊎ ((n ≤ k) × (f k ≡ k)) → root_at (f k) ≡ k
      here (inl h) = nth_got order (f k) (f k) k h.1
      here (inr h) = rw h.1 (nth_beyond order k k (rw order_length h.0))

  pub place_root : (j k : ℕ) → slice_get order j ≡ Some k → f k ≡ j
  place_root j k e = here (is.finds k)
    where
      here : ((k < n) × (slice_get order (f k) ≡ Some k)) ⊎ ((n ≤ k) × (f k ≡ k)) → f k ≡ j
      here (inl h) = one_place order (f k) j k (distinct_moved (back is.all) (counted_differ 0 n)) h.1 e
      here (inr h) =
          let l : k < n = every_in (λ k. k < n) order k (order_below n f order is) (in_from_place order j k e) in
          let m = h.0 in
          absurd (omega (arith, l, m))

  -- the other way round: the place of the root at a place
  pub place_turned : (j : ℕ) → f (root_at j) ≡ j
  place_turned j = elim (place_cases order j) [
    | inl h ↦ ap f (nth_got order j j h.0 h.1) ∙ place_root j h.0 h.1
    | inr l ↦ ap f (nth_beyond order j j l) ∙ here l (is.finds j)
  ]
    where
      here : length order ≤ j → ((j < n) × (slice_get order (f j) ≡ Some j)) ⊎ ((n ≤ j) × (f j ≡ j)) → f j ≡ j
      here l (inl h) = let a = h.0 in let b = order_length in absurd (omega (arith, a, b, l))
      here l (inr h) = h.1

  pub place_below : (k : ℕ) → k < n → f k < n
  place_below k l = here (is.finds k)
    where
      here : ((k < n) × (slice_get order (f k) ≡ Some k)) ⊎ ((n ≤ k) × (f k ≡ k)) → f k < n
      here (inl h) = let a : f k < length order = slice_get_within order (f k) k h.1 in rw order_length at a
      here (inr h) = let a = h.0 in absurd (omega (arith, a, l))

  abbrev pub back_order : List ℕ
  back_order = map f (counted 0 n)

  pub order_back : IsOrder n root_at back_order
  order_back = record { all = back_all; finds = back_finds }
    where
      places : map f order ≡ counted 0 n
      places = mapped_counted f order 0 (λ j k e. let w = place_root j k e in omega (arith, w))
          ∙ ap (counted 0) order_length

      back_all : Rearranged back_order (counted 0 n)
      back_all = back (subst (λ (x : List ℕ). Rearranged x back_order) places (mapped f is.all))

      back_finds : (j : ℕ) → ((j < n) × (slice_get back_order (root_at j) ≡ Some j)) ⊎ ((n ≤ j) × (root_at j ≡ j))
      back_finds j = elim (place_cases order j) [
        | inl h ↦ (
            let g : root_at j ≡ h.0 = nth_got order j j h.0 h.1 in
            let l : h.0 < n =
            every_in (λ k. k < n) order h.0 (order_below n f order is) (in_from_place order j h.0 h.1) in
            let lj : j < length order = slice_get_within order j h.0 h.1 in
            let w : slice_get back_order h.0 ≡ Some j =
            get_mapped f (counted 0 n) h.0 h.0
            (get_counted 0 n h.0 l ∙ ap (λ (z : ℕ). Some z) (let u : 0 + h.0 ≡ h.0 = omega arith in u))
            ∙ ap (λ (z : ℕ). Some z) (place_root j h.0 h.1) in
            inl (rw order_length at lj, rw g w))
        | inr l ↦ inr (rw order_length at l, nth_beyond order j j l)
      ]

pub component_at_mapped : (h : ℕ → Automaton) (order : List ℕ) (j k : ℕ) → slice_get order j ≡ Some k
    → component_at (map h order) j ≡ h k
component_at_mapped h [] j k e = absurd (none-some k e)
component_at_mapped h (i ∷ order) zero k e = ap h (same_Some i k e)
component_at_mapped h (i ∷ order) (suc j) k e = component_at_mapped h order j k e

all_autos : (autos : List Automaton) → map (component_at autos) (counted 0 (length autos)) ≡ autos
all_autos [] = refl
all_autos (a ∷ autos) = ap (λ (z : List Automaton). a ∷ z)
    (counted_later (component_at (a ∷ autos)) 0 (length autos) ∙ all_autos autos)

module _ (f g : ℕ → ℕ) (inverse : (k : ℕ) → g (f k) ≡ k) where
  symbol_again : (y : Symbol) → placed_symbol (renumber g) (placed_symbol (renumber f) y) ≡ y
  symbol_again NullSymbol = refl
  symbol_again UninitSymbol = refl
  symbol_again DanglingSymbol = refl
  symbol_again (Ref k) = ap Ref (inverse k)
  symbol_again (CellSymbol s ds ss) = refl

  pub rules_again : (rules : List Rule) → map (placed_rule (renumber g)) (map (placed_rule (renumber f)) rules) ≡ rules
  rules_again [] = refl
  rules_again (x ∷ rules) =
      ap₂ (λ (y : Symbol) (z : List Rule). record { state = x.state; symbol = y; children = x.children } ∷ z)
      (symbol_again x.symbol) (rules_again rules)

  pub auto_again : (a : Automaton) → placed_auto (renumber g) (placed_auto (renumber f) a) ≡ a
  auto_again a = ap (λ (z : List Rule). record { states = a.states; roots = a.roots; rules = z }) (rules_again a.rules)

  pub targets_again : (us : List Target) → map (placed_leaf (renumber g)) (map (placed_leaf (renumber f)) us) ≡ us
  targets_again [] = refl
  targets_again (Null ∷ us) = ap (λ (z : List Target). Null ∷ z) (targets_again us)
  targets_again (Uninit ∷ us) = ap (λ (z : List Target). Uninit ∷ z) (targets_again us)
  targets_again (Dangling ∷ us) = ap (λ (z : List Target). Dangling ∷ z) (targets_again us)
  targets_again (At k ∷ us) = ap₂ (λ (y : ℕ) (z : List Target). At y ∷ z) (inverse k) (targets_again us)

module _ (F : Forest) (f : ℕ → ℕ) (order : List ℕ) (is : IsOrder (length F.autos) f order) where
  abbrev n_of : ℕ
  n_of = length F.autos

  abbrev new_auto : ℕ → Automaton
  new_auto k = placed_auto (renumber f) (component_at F.autos k)

  auto_there : (k : ℕ) → k < n_of → component_at (map new_auto order) (f k) ≡ new_auto k
  auto_there k l = here (is.finds k)
    where
      here : ((k < n_of) × (slice_get order (f k) ≡ Some k)) ⊎ ((n_of ≤ k) × (f k ≡ k))
          → component_at (map new_auto order) (f k) ≡ new_auto k
      here (inl h) = component_at_mapped new_auto order (f k) k h.1
      here (inr h) = let m = h.0 in absurd (omega (arith, l, m))

  abbrev turn : ℕ → ℕ
  turn = root_at n_of f order is

  autos_back : (ks : List ℕ) → Every (λ k. k < n_of) ks
      → map (λ j. placed_auto (renumber turn) (component_at (map new_auto order) j)) (map f ks)
      ≡ map (component_at F.autos) ks
  autos_back [] h = refl
  autos_back (k ∷ ks) h = ap₂ (λ (x : Automaton) (y : List Automaton). x ∷ y)
      (ap (placed_auto (renumber turn)) (auto_there k h.0)
      ∙ auto_again f turn (root_place n_of f order is) (component_at F.autos k)) (autos_back ks h.1)

  -- turned round, the forest is as before
  pub reordered_back : reordered_by turn (back_order n_of f order is) (reordered_by f order F) ≡ F
  reordered_back =
      ap₂ (λ (x : List Automaton) (y : List Target). record { autos = x; vars = y; data_vars = F.data_vars })
      (autos_back (counted 0 n_of) (counted_below 0 n_of n_of (omega arith)) ∙ all_autos F.autos)
      (targets_again f turn (root_place n_of f order is) F.vars)

  pub reordered_length : length (reordered_by f order F).autos ≡ n_of
  reordered_length = mapped_length new_auto order ∙ order_length n_of f order is

  -- the law of other orders: both ways each dressed forest can be regrouped
  pub reorder_back : (T : List BoxDef) → Regroups T F (reordered_by f order F)
  reorder_back T =
      let G = reordered_by f order F in
      let js : IsOrder (length G.autos) turn (back_order n_of f order is) =
      subst (λ (m : ℕ). IsOrder m turn (back_order n_of f order is)) (sym reordered_length)
      (order_back n_of f order is) in
      subst (λ (x : Forest). Regroups T x G) reordered_back (reorder_onto T G turn (back_order n_of f order is) js)
