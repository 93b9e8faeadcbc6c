-- Where the roots stand in another order, the trees of the reordered forest follow those of the forest, under the new
-- numbers.
use Rattle.std.proofs.Common.{◌≡◌, ◌↔◌, ℕ, zero, suc, ◌<◌, ◌+◌, Bool, true, false, ◌||◌, true≢false, cond, nat_eq}
use Rattle.std.proofs.Common.{length, List, [], ◌∷◌, ◌++◌, map, flat_map, refl, sym, ap, ap₂, subst, ◌∙◌, slice_get}
use Rattle.std.proofs.Common.{Some, not-suc-le-zero, le_of_suc-le-suc, arith}
use Rattle.std.proofs.lemmas.Bool.{eqb-true, eq-eqb}
use Rattle.std.proofs.lemmas.Option.{none-some, same_Some}
use Rattle.fore_base.specs.Lists.{IsIn, Paired}
use Rattle.fore_base.proofs.ListLemmas.{in_map, in_mapped}
use Rattle.ta_core.specs.declared.symbol.Symbol.TheVariants.{Ref, Cell as CellSymbol}
use Rattle.ta_core.specs.declared.tree.Tree.{Tree, out-Tree, out-roll-Tree}
use Rattle.fa_core.specs.Canonical.{at_fields, field_trees, refs_at, var_roots}
use Rattle.fa_core.specs.Choices.{bares, count}
use Rattle.fa_core.specs.Dressed.{Node, Parts, End, Nodes, node, no_parts, field, link, hook, under, leaf, no_nodes}
use Rattle.fa_core.specs.Dressed.{more, refs, end_refs, all_refs}
use Rattle.fa_core.specs.Member.{OfForest, bare, bare_parts, bare_end, slots_of, leaf_symbol}
use Rattle.fa_core.specs.Placed.{placed, placed_parts, placed_end, placed_leaf}
use Rattle.fa_core.specs.Rearranged.{Rearranged, often}
use Rattle.fa_core.specs.References.{to_two}
use Rattle.fa_core.specs.Ways.{has, once, once_from, ways}
use Rattle.fa_core.specs.declared.boxes.BoxDef.{BoxDef}
use Rattle.fa_core.specs.declared.forest.Forest.{Forest}
use Rattle.fa_core.specs.declared.forest.Target.{Target}
use Rattle.fa_core.specs.declared.forest.Target.TheVariants.{Null, Uninit, Dangling, At}
use Rattle.fa_core.proofs.Counts.{often_same}
use Rattle.fa_core.proofs.Dressing.{leaf_top, cell_top}
use Rattle.fa_core.proofs.Placing.{refs_placed_end}
use Rattle.fa_core.proofs.Rearranging.{flat_mapped}
use Rattle.fa_core.proofs.RootCounts.{references_are}
use Rattle.fa_core.proofs.WaysOf.{map-append, tree_roots, end_roots}
use Rattle.fa_back.specs.Reached.{node_at}
use Rattle.fa_merge.specs.Reordered.{renumber, counted, reordered_by}
use Rattle.fa_merge.specs.inner.Orders.{IsOrder}
use Rattle.fa_merge.proofs.MergedAnywhere.{numbers_mapped, refs_renumbered}
use Rattle.fa_merge.proofs.MergedTrees.{IsRefSymbol, ref_number}
use Rattle.fa_merge.proofs.OtherOrders.{flat_later, get_counted, get_mapped, node_or, picked, picked_of, count_trees}
use Rattle.fa_merge.proofs.OtherOrders.{root_at, root_place, place_turned, place_below, back_order, order_back}
use Rattle.fa_merge.proofs.OtherOrders.{reordered_back, reordered_length}
use Rattle.fa_merge.proofs.RootTrees.{bare_at, at_bare}
use Rattle.fa_order.specs.inner.Following.{RefersAs, EndFollows, TreeFollows, Follows}
use Rattle.fa_order.proofs.MovedBacks.{AreMoved, moved_way, renumbered_ways, ways_again}

-- Numbers that are mapped one to one.

module _ (f g : ℕ → ℕ) (fg : (j : ℕ) → f (g j) ≡ j) (gf : (k : ℕ) → g (f k) ≡ k) where
  one_number : (x y : ℕ) → nat_eq (g x) (g y) ≡ nat_eq x y
  one_number x y = here (nat_eq x y) refl (nat_eq (g x) (g y)) refl
    where
      here : (a : Bool) → nat_eq x y ≡ a → (b : Bool) → nat_eq (g x) (g y) ≡ b → b ≡ a
      here true p true q = refl
      here false p false q = refl
      here true p false q = absurd (true≢false (sym (eq-eqb (g x) (g y) (ap g (eqb-true x y p))) ∙ q))
      here false p true q = absurd
          (true≢false (sym (eq-eqb x y (sym (fg x) ∙ ap f (eqb-true (g x) (g y) q) ∙ fg y)) ∙ p))

  often_mapped : (j : ℕ) (xs : List ℕ) → often (g j) (map g xs) ≡ often j xs
  often_mapped j [] = refl
  often_mapped j (x ∷ xs) = rw (one_number j x) (ap (λ (z : ℕ). cond (nat_eq j x) (z + 1) z) (often_mapped j xs))

  has_mapped : (n : ℕ) (seen : List ℕ) → has (g n) (map g seen) ≡ has n seen
  has_mapped n [] = refl
  has_mapped n (m ∷ seen) = ap₂ (λ (x y : Bool). x || y) (one_number n m) (has_mapped n seen)

  once_mapped : (seen xs : List ℕ) → once_from (map g seen) (map g xs) ≡ map g (once_from seen xs)
  once_mapped seen [] = refl
  once_mapped seen (x ∷ xs) =
      rw (has_mapped x seen) (here (has x seen) (once_mapped seen xs) (once_mapped (x ∷ seen) xs))
    where
      here : (b : Bool) → once_from (map g seen) (map g xs) ≡ map g (once_from seen xs)
          → once_from (map g (x ∷ seen)) (map g xs) ≡ map g (once_from (x ∷ seen) xs)
          → cond b (once_from (map g seen) (map g xs)) (g x ∷ once_from (g x ∷ map g seen) (map g xs))
          ≡ map g (cond b (once_from seen xs) (x ∷ once_from (x ∷ seen) xs))
      here true p q = p
      here false p q = ap (λ (z : List ℕ). g x ∷ z) q

  mapped_back : (xs : List ℕ) → map f (map g xs) ≡ xs
  mapped_back [] = refl
  mapped_back (x ∷ xs) = ap₂ (λ (y : ℕ) (z : List ℕ). y ∷ z) (fg x) (mapped_back xs)

  -- the first visits under the new numbers
  once_back : (xs : List ℕ) → map f (once (map g xs)) ≡ once xs
  once_back xs = ap (map f) (once_mapped [] xs) ∙ mapped_back (once xs)

  in_mapped_back : (k : ℕ) (xs : List ℕ) → IsIn k (map g xs) ↔ IsIn (f k) xs
  in_mapped_back k xs = (
    (λ i. let m = in_mapped g k xs i in subst (λ (z : ℕ). IsIn z xs) (sym (fg m.0) ∙ ap f (sym m.2)) m.1),
    (λ i. subst (λ (z : ℕ). IsIn z (map g xs)) (gf k) (in_map g (f k) xs i)),
  )

  -- Trees.

  tree_refers : (m : Node) → RefersAs f (bare (placed (renumber g) m)) (bare m)
  tree_refers m k =
      let b = in_mapped_back k (refs m) in (
        (λ i. subst (λ (ks : List ℕ). IsIn (f k) ks) (sym (tree_roots m))
            (b.0 (subst (λ (ks : List ℕ). IsIn k ks) (tree_roots (placed (renumber g) m) ∙ refs_renumbered g m) i))),
        (λ i. subst (λ (ks : List ℕ). IsIn k ks) (sym (tree_roots (placed (renumber g) m) ∙ refs_renumbered g m))
            (b.1 (subst (λ (ks : List ℕ). IsIn (f k) ks) (tree_roots m) i))),
      )

  end_renumbered : (e : End) → end_refs (placed_end (renumber g) e) ≡ map g (end_refs e)
  end_renumbered e = refs_placed_end (renumber g) e ∙ numbers_mapped g (end_refs e)

  end_refers : (e : End) → RefersAs f (bare_end (placed_end (renumber g) e)) (bare_end e)
  end_refers e k =
      let b = in_mapped_back k (end_refs e) in (
        (λ i. subst (λ (ks : List ℕ). IsIn (f k) ks) (sym (end_roots e))
            (b.0 (subst (λ (ks : List ℕ). IsIn k ks) (end_roots (placed_end (renumber g) e) ∙ end_renumbered e) i))),
        (λ i. subst (λ (ks : List ℕ). IsIn k ks) (sym (end_roots (placed_end (renumber g) e) ∙ end_renumbered e))
            (b.1 (subst (λ (ks : List ℕ). IsIn (f k) ks) (end_roots e) i))),
      )

  leaf_named : (t : Target) (k : ℕ) → leaf_symbol (placed_leaf (renumber g) t) ≡ Ref k → leaf_symbol t ≡ Ref (f k)
  leaf_named Null k e = absurd (subst IsRefSymbol (sym e) tt)
  leaf_named Uninit k e = absurd (subst IsRefSymbol (sym e) tt)
  leaf_named Dangling k e = absurd (subst IsRefSymbol (sym e) tt)
  leaf_named (At i) k e = ap Ref (sym (fg i) ∙ ap f (ap ref_number e))

  end_named : (e : End) (k : ℕ) → (out-Tree (bare_end (placed_end (renumber g) e))).symbol ≡ Ref k
      → (out-Tree (bare_end e)).symbol ≡ Ref (f k)
  end_named (under (node c s ds ps)) k h =
      absurd (subst IsRefSymbol (sym (sym (cell_top c s ds (placed_parts (renumber g) ps)) ∙ h)) tt)
  end_named (leaf t) k h = leaf_top t ∙ leaf_named t k (sym (leaf_top (placed_leaf (renumber g) t)) ∙ h)

  fields_follow : (ps : Parts)
      → Paired (EndFollows f)
      (at_fields (slots_of (placed_parts (renumber g) ps)) (bare_parts (placed_parts (renumber g) ps)))
      (at_fields (slots_of ps) (bare_parts ps))
  fields_follow no_parts = tt
  fields_follow (field n e ps) = ((end_refers e, end_named e), fields_follow ps)
  fields_follow (link b inside e ps) = fields_follow ps
  fields_follow (hook b inside ps) = fields_follow ps

  fields_out : (c s : ℕ) (ds : List _) (ps : Parts) → field_trees (bare (node c s ds ps))
      ≡ at_fields (slots_of ps) (bare_parts ps)
  fields_out c s ds ps = rw
      (out-roll-Tree (record { symbol = CellSymbol s ds (slots_of ps); children = bare_parts ps })) refl

  node_follows : (m : Node) → TreeFollows f (bare (placed (renumber g) m)) (bare m)
  node_follows (node c s ds ps) = (
    tree_refers (node c s ds ps),
    rw (fields_out c s ds (placed_parts (renumber g) ps), fields_out c s ds ps) (fields_follow ps),
  )

-- Targets.

abbrev IsAt : Target → Type 0
IsAt Null = ⊥
IsAt Uninit = ⊥
IsAt Dangling = ⊥
IsAt (At k) = Unit {0}

abbrev at_of : Target → ℕ
at_of Null = 0
at_of Uninit = 0
at_of Dangling = 0
at_of (At k) = k

at_renumbered : (f : ℕ → ℕ) (t : Target) (k : ℕ) → At k ≡ placed_leaf (renumber f) t → (i : ℕ) × (t ≡ At i) × (k ≡ f i)
at_renumbered f Null k e = absurd (subst IsAt e tt)
at_renumbered f Uninit k e = absurd (subst IsAt e tt)
at_renumbered f Dangling k e = absurd (subst IsAt e tt)
at_renumbered f (At i) k e = (i, refl, ap at_of e)

vars_turned : (f g : ℕ → ℕ) → ((j : ℕ) → f (g j) ≡ j) → ((k : ℕ) → g (f k) ≡ k) → (vs : List Target) (j : ℕ)
    → IsIn (At j) (map (placed_leaf (renumber f)) vs) ↔ IsIn (At (g j)) vs
vars_turned f g fg gf vs j = (
  (λ i.
      let m = in_mapped (placed_leaf (renumber f)) (At j) vs i in
      let k = at_renumbered f m.0 j m.2 in
      subst (λ (z : ℕ). IsIn (At z) vs) (sym (gf k.0) ∙ ap g (sym k.2)) (subst (λ (t : Target). IsIn t vs) k.1 m.1)),
  (λ i. subst (λ (z : ℕ). IsIn (At z) (map (placed_leaf (renumber f)) vs)) (fg j)
      (in_map (placed_leaf (renumber f)) (At (g j)) vs i)),
)

pub var_roots_renumbered : (f : ℕ → ℕ) (vs : List Target) → var_roots (map (placed_leaf (renumber f)) vs)
    ≡ map f (var_roots vs)
var_roots_renumbered f [] = refl
var_roots_renumbered f (Null ∷ vs) = var_roots_renumbered f vs
var_roots_renumbered f (Uninit ∷ vs) = var_roots_renumbered f vs
var_roots_renumbered f (Dangling ∷ vs) = var_roots_renumbered f vs
var_roots_renumbered f (At k ∷ vs) = ap (λ (z : List ℕ). f k ∷ z) (var_roots_renumbered f vs)

-- Trees by place.

node_picked : (g : ℕ → ℕ) (e : Nodes) (ks : List ℕ) (j k : ℕ) → slice_get ks j ≡ Some k → node_at (picked g ks e) j
    ≡ Some (placed (renumber g) (node_or e k))
node_picked g e [] j k h = absurd (none-some k h)
node_picked g e (x ∷ ks) zero k h = ap (λ (z : ℕ). Some (placed (renumber g) (node_or e z))) (same_Some x k h)
node_picked g e (x ∷ ks) (suc j) k h = node_picked g e ks j k h

node_there : (e : Nodes) (k : ℕ) → k < count e → node_at e k ≡ Some (node_or e k)
node_there no_nodes k l = absurd (not-suc-le-zero l)
node_there (more n ns) zero l = refl
node_there (more n ns) (suc k) l = node_there ns k (le_of_suc-le-suc l)

node_below : (e : Nodes) (k : ℕ) (n : Node) → node_at e k ≡ Some n → k < count e
node_below no_nodes k n h = absurd (none-some n h)
node_below (more m ns) zero n h = omega arith
node_below (more m ns) (suc k) n h = let l = node_below ns k n h in omega (arith, l)

refs_bare : (e : Nodes) (j : ℕ) (m : Node) → node_at e j ≡ Some m → refs_at (bares e) j ≡ once (refs m)
refs_bare no_nodes j m h = absurd (none-some m h)
refs_bare (more n ns) zero m h = ap once (tree_roots n) ∙ ap (λ (z : Node). once (refs z)) (same_Some n m h)
refs_bare (more n ns) (suc j) m h = refs_bare ns j m h

picked_refs : (g : ℕ → ℕ) (e : Nodes) (ks : List ℕ) → all_refs (picked g ks e)
    ≡ flat_map (λ i. map g (refs (node_or e i))) ks
picked_refs g e [] = refl
picked_refs g e (k ∷ ks) = ap₂ (λ (x y : List ℕ). x ++ y) (refs_renumbered g (node_or e k)) (picked_refs g e ks)

whole_refs : (g : ℕ → ℕ) (e : Nodes) → flat_map (λ i. map g (refs (node_or e i))) (counted 0 (count e))
    ≡ map g (all_refs e)
whole_refs g no_nodes = refl
whole_refs g (more n ns) =
    ap (λ (z : List ℕ). map g (refs n) ++ z)
    (flat_later (λ i. map g (refs (node_or (more n ns) i))) 0 (count ns) ∙ whole_refs g ns)
    ∙ sym (map-append g (refs n) (all_refs ns))

-- a dressed forest in the new order, and the one of the first forest from which it comes
module _ (F : Forest) (f : ℕ → ℕ) (order : List ℕ) (is : IsOrder (length F.autos) f order) (e : Nodes)
    (T : List BoxDef) (o : OfForest T (reordered_by f order F) e) where
  abbrev size : ℕ
  size = length F.autos

  abbrev pub g_of : ℕ → ℕ
  g_of = root_at size f order is

  pub fg : (j : ℕ) → f (g_of j) ≡ j
  fg = place_turned size f order is

  pub gf : (k : ℕ) → g_of (f k) ≡ k
  gf = root_place size f order is

  abbrev pub before : Nodes
  before = picked g_of (back_order size f order is) e

  count_new : count e ≡ size
  count_new = count_trees T (reordered_by f order F).autos e o ∙ reordered_length F f order is

  pub of_before : OfForest T F before
  of_before =
      let G = reordered_by f order F in
      let js : IsOrder (length G.autos) g_of (back_order size f order is) =
      subst (λ (m : ℕ). IsOrder m g_of (back_order size f order is)) (sym (reordered_length F f order is))
      (order_back size f order is) in
      subst (λ (x : Forest). OfForest T x before) (reordered_back F f order is)
      (picked_of T G g_of (back_order size f order is) js e o)

  back_place : (k : ℕ) → k < size → slice_get (back_order size f order is) k ≡ Some (f k)
  back_place k l = get_mapped f (counted 0 size) k k
      (get_counted 0 size k l ∙ ap (λ (z : ℕ). Some z) (let u : 0 + k ≡ k = omega arith in u))

  node_before : (k : ℕ) → k < size → node_at before k ≡ Some (placed (renumber g_of) (node_or e (f k)))
  node_before k l = node_picked g_of e (back_order size f order is) k (f k) (back_place k l)

  node_after : (k : ℕ) → k < size → node_at e (f k) ≡ Some (node_or e (f k))
  node_after k l = node_there e (f k) (subst (λ (n : ℕ). f k < n) (sym count_new) (place_below size f order is k l))

  all_before : Rearranged (all_refs before) (map g_of (all_refs e))
  all_before =
      let h : ℕ → List ℕ = (λ i. map g_of (refs (node_or e i))) in
      let a : Rearranged (flat_map h (back_order size f order is)) (flat_map h (counted 0 size)) =
      flat_mapped h (order_back size f order is).all in
      let w : flat_map h (counted 0 size) ≡ map g_of (all_refs e) =
      ap (λ (z : ℕ). flat_map h (counted 0 z)) (sym count_new) ∙ whole_refs g_of e in
      rw (picked_refs g_of e (back_order size f order is))
      (subst (λ (z : List ℕ). Rearranged (flat_map h (back_order size f order is)) z) w a)

  -- what relates each tree to its renumbered one relates the trees of the two forests in their places
  module _ (R : Tree → Tree → Type 0)
      (turned : (n : Node) → R (bare (placed (renumber g_of) n)) (bare n)) where
    down_turned : (k : ℕ) (t : Tree) → slice_get (bares before) k ≡ Some t → (u : Tree)
        × (slice_get (bares e) (f k) ≡ Some u) × R t u
    down_turned k t h =
        let n = at_bare before k t h in
        let c : count before ≡ size = count_trees T F.autos before of_before in
        let l : k < size = subst (λ (z : ℕ). k < z) c (node_below before k n.0 n.1) in
        let s : n.0 ≡ placed (renumber g_of) (node_or e (f k)) =
        same_Some n.0 (placed (renumber g_of) (node_or e (f k))) (sym n.1 ∙ node_before k l) in (
          bare (node_or e (f k)),
          bare_at e (f k) (node_or e (f k)) (node_after k l),
          subst (λ (z : Tree). R z (bare (node_or e (f k)))) (sym (ap bare s) ∙ n.2) (turned (node_or e (f k))),
        )

    up_turned : (j : ℕ) (u : Tree) → slice_get (bares e) j ≡ Some u → (t : Tree)
        × (slice_get (bares before) (g_of j) ≡ Some t) × R t u
    up_turned j u h =
        let m = at_bare e j u h in
        let l : j < size = subst (λ (z : ℕ). j < z) count_new (node_below e j m.0 m.1) in
        let b : g_of j < size = place_below size g_of (back_order size f order is) (order_back size f order is) j l in
        let same : node_or e (f (g_of j)) ≡ m.0 = ap (node_or e) (fg j)
        ∙ same_Some (node_or e j) m.0 (sym (node_there e j (subst (λ (z : ℕ). j < z) (sym count_new) l)) ∙ m.1) in
        let t : Tree = bare (placed (renumber g_of) (node_or e (f (g_of j)))) in (
          t,
          bare_at before (g_of j) (placed (renumber g_of) (node_or e (f (g_of j)))) (node_before (g_of j) b),
          subst (λ (z : Tree). R t z) (ap bare same ∙ m.2) (turned (node_or e (f (g_of j)))),
        )

  -- the ways of the trees under the new numbers
  pub moved : AreMoved f g_of gf (bares before) (bares e)
  moved = record {
    again = fg;
    down = down_turned (λ t u. ways u ≡ map (moved_way f) (ways t)) ways_turned;
    up = up_turned (λ t u. ways u ≡ map (moved_way f) (ways t)) ways_turned;
  }
    where
      ways_turned : (n : Node) → ways (bare n) ≡ map (moved_way f) (ways (bare (placed (renumber g_of) n)))
      ways_turned n = sym (ap (map (moved_way f)) (renumbered_ways g_of n) ∙ ways_again f g_of fg (ways (bare n)))

  pub follows : Follows f g_of F.vars (reordered_by f order F).vars (bares before) (bares e)
  follows = record {
    there = gf;
    again = fg;
    var = vars_turned f g_of fg gf F.vars;
    times =
        λ j.
        ap to_two (references_are e j ∙ sym (often_mapped f g_of fg gf j (all_refs e))
        ∙ sym (often_same (g_of j) all_before) ∙ sym (references_are before (g_of j)));
    down = down_turned (TreeFollows f) (node_follows f g_of fg gf);
    up = up_turned (TreeFollows f) (node_follows f g_of fg gf);
  }

  -- the references of a root under the new numbers
  pub refs_turned : (k : ℕ) → k < size → refs_at (bares e) (f k) ≡ map f (refs_at (bares before) k)
  refs_turned k l =
      refs_bare e (f k) (node_or e (f k)) (node_after k l)
      ∙ sym (once_back f g_of fg gf (refs (node_or e (f k))))
      ∙ ap (λ (ks : List ℕ). map f (once ks)) (sym (refs_renumbered g_of (node_or e (f k))))
      ∙ ap (map f) (sym (refs_bare before k (placed (renumber g_of) (node_or e (f k))) (node_before k l)))
