-- A cell at the end of a field cut off below a shared root: the roots keep their kinds, the new one is a knot, and
-- loose children stay loose.
use Rattle.std.proofs.Common.{◌≡◌, ◌≢◌, ◌⊎◌, inl, inr, ℕ, suc, ◌<◌, ◌≤◌, ◌+◌, true, nat_eq, length, List, [], ◌∷◌, ◌++◌}
use Rattle.std.proofs.Common.{refl, sym, ap, subst, ◌∙◌, slice_get, slice_set, Some, arith}
use Rattle.std.proofs.lemmas.Bool.{eq-eqb}
use Rattle.std.proofs.lemmas.List.{length-set}
use Rattle.std.proofs.lemmas.Option.{same_Some}
use Rattle.fore_base.specs.Lists.{IsIn}
use Rattle.ta_core.specs.declared.symbol.Symbol.{Symbol}
use Rattle.ta_core.specs.declared.symbol.Symbol.TheVariants.{Ref}
use Rattle.ta_core.specs.declared.tree.Tree.{Tree, out-Tree}
use Rattle.fa_core.specs.declared.forest.Target.{Target}
use Rattle.fa_core.specs.Canonical.{IsKnot, IsShared, RefersTo, field_trees, references}
use Rattle.fa_core.specs.Rearranged.{often}
use Rattle.fa_core.specs.References.{tree_refs}
use Rattle.fa_core.proofs.Counts.{often_out}
use Rattle.fa_canon.specs.inner.Cutting.{AreCut, IsBefore, IsCutOff, IsLoose, IsRankedCell, child_at, has_field_at}
use Rattle.fa_canon.specs.inner.Cutting.{ref_leaf, with_child}
use Rattle.fa_canon.specs.inner.Merges.{IsAlone, IsSettled}
use Rattle.fa_canon.proofs.ListPlaces.{place_less, push_first, push_last, push_long, set_here, set_other}
use Rattle.fa_canon.proofs.RootCounts.{count_push, count_set, none_to_count, refer_count, refer_or_not}
use Rattle.fa_canon.proofs.Settled.{same_or_not}
use Rattle.fa_canon.proofs.TopCells.{at_field, field_place, leaf_ref, leaf_symbol, put_children, put_counts, put_symbol}

module _ (r p : ℕ) (ts us : List Tree) (k : IsCutOff r p ts us) (cell : IsRankedCell k.above)
    (in_field : has_field_at (out-Tree k.above).symbol p ≡ true)
    (below : (i j : ℕ) (t : Tree) → slice_get ts i ≡ Some t → RefersTo t j → j < length ts) where
  abbrev N : ℕ
  N = length ts

  abbrev top : Tree
  top = with_child k.above p (ref_leaf N)

  abbrev others : List Tree
  others = slice_set ts r top

  root_less : r < N
  root_less = place_less ts r k.above k.is_above

  others_long : length others ≡ N
  others_long = length-set ts r top

  pub cut_long : length us ≡ suc N
  cut_long = ap length k.cut ∙ push_long others k.child ∙ ap (λ (n : ℕ). suc n) others_long

  -- the trees
  pub other_tree : (j : ℕ) → j < N → j ≢ r → slice_get us j ≡ slice_get ts j
  other_tree j l d = ap (λ (z : List Tree). slice_get z j) k.cut
      ∙ push_first others k.child j (omega (arith, l, others_long)) ∙ set_other ts r j top d

  pub cut_tree : slice_get us r ≡ Some top
  cut_tree = ap (λ (z : List Tree). slice_get z r) k.cut
      ∙ push_first others k.child r (let l = root_less in omega (arith, l, others_long))
      ∙ set_here ts r k.above top k.is_above

  pub last_tree : slice_get us N ≡ Some k.child
  last_tree = ap (λ (z : List Tree). slice_get z N) k.cut
      ∙ subst (λ (n : ℕ). slice_get (others ++ k.child ∷ []) n ≡ Some k.child) others_long (push_last others k.child)

  -- each root is referred to as often as before, and the new one once
  counts : (j : ℕ) → references us j ≡ references ts j + often j (N ∷ [])
  counts j =
      let a : references us j ≡ references others j + often j (tree_refs k.child) =
      ap (λ (z : List Tree). references z j) k.cut ∙ count_push j others k.child in
      let b = count_set j ts r k.above top k.is_above in
      let c = put_counts j k.above p k.child (ref_leaf N) cell k.is_child in
      let d : often j (tree_refs (ref_leaf N)) ≡ often j (N ∷ []) = ap (often j) (leaf_ref N) in
      omega (arith, a, b, c, d)

  pub other_counts : (j : ℕ) → j ≢ N → references us j ≡ references ts j
  other_counts j d =
      let a = counts j in
      let z : often j (N ∷ []) ≡ 0 = often_out j (N ∷ []) (λ h. elim h [ inl e ↦ d e | inr e ↦ e ]) in
      omega (arith, a, z)

  pub last_count : references us N ≡ 1
  last_count =
      let a = counts N in
      let one : often N (N ∷ []) ≡ 1 = once N in
      let none : references ts N ≡ 0 = none_to_count N ts (λ i t e h. (let l = below i N t e h in omega (arith, l))) in
      omega (arith, a, one, none)
    where
      once : (n : ℕ) → often n (n ∷ []) ≡ 1
      once n = let e : nat_eq n n ≡ true = eq-eqb n n refl in rw e refl

  shared_cut : (vars : List Target) (j : ℕ) → j ≢ N → IsShared vars ts j → IsShared vars us j
  shared_cut vars j d (inl v) = inl v
  shared_cut vars j d (inr l) = inr (let e = other_counts j d in omega (arith, e, l))

  -- children below the root that was cut
  other_child : (q : ℕ) → q ≢ p → child_at top q ≡ child_at k.above q
  other_child q d = ap (λ (z : List Tree). slice_get z q) (put_children k.above p (ref_leaf N))
      ∙ set_other (out-Tree k.above).children p q (ref_leaf N) d

  this_child : child_at top p ≡ Some (ref_leaf N)
  this_child = ap (λ (z : List Tree). slice_get z p) (put_children k.above p (ref_leaf N))
      ∙ set_here (out-Tree k.above).children p k.child (ref_leaf N) k.is_child

  same_symbol : (out-Tree top).symbol ≡ (out-Tree k.above).symbol
  same_symbol = put_symbol k.above p (ref_leaf N)

  in_top : (q : ℕ) (u : Tree) → has_field_at (out-Tree k.above).symbol q ≡ true → child_at top q ≡ Some u
      → IsIn u (field_trees top)
  in_top q u h e = at_field (out-Tree top).symbol (out-Tree top).children q u
      (ap (λ (y : Symbol). has_field_at y q) same_symbol ∙ h) e

  -- a knot stays one
  knot_stays : (vars : List Target) (j : ℕ) → j ≢ r → ((i : ℕ) → (out-Tree k.child).symbol ≢ Ref i) → IsKnot vars ts j
      → IsKnot vars us j
  knot_stays vars j d no_leaf h = here (same_or_not h.from r)
    where
      less : j < N
      less = place_less ts j h.own h.is_own

      from_less : h.from < N
      from_less = place_less ts h.from h.above h.is_above

      not_last : (i : ℕ) → i < N → i ≢ N
      not_last i l e = omega (arith, l, e)

      here : (h.from ≡ r) ⊎ (h.from ≢ r) → IsKnot vars us j
      here (inr apart) = record {
        one = other_counts j (not_last j less) ∙ h.one;
        from = h.from;
        shared = shared_cut vars h.from (not_last h.from from_less) h.shared;
        above = h.above;
        is_above = other_tree h.from from_less apart ∙ h.is_above;
        leaf = h.leaf;
        in_field = h.in_field;
        refers = h.refers;
        own = h.own;
        is_own = other_tree j less d ∙ h.is_own;
        ties = h.ties;
      }
      here (inl e) = record {
        one = other_counts j (not_last j less) ∙ h.one;
        from = r;
        shared = shared_cut vars r (not_last r root_less) (subst (λ (n : ℕ). IsShared vars ts n) e h.shared);
        above = top;
        is_above = cut_tree;
        leaf = h.leaf;
        in_field = still_there;
        refers = h.refers;
        own = h.own;
        is_own = other_tree j less d ∙ h.is_own;
        ties = subst (λ (n : ℕ). RefersTo h.own n) e h.ties;
      }
        where
          still_there : IsIn h.leaf (field_trees top)
          still_there =
              let same : h.above ≡ k.above =
              same_Some h.above k.above (sym h.is_above ∙ ap (λ (n : ℕ). slice_get ts n) e ∙ k.is_above) in
              let q = field_place (out-Tree k.above).symbol (out-Tree k.above).children h.leaf
              (subst (λ (z : Tree). IsIn h.leaf (field_trees z)) same h.in_field) in
              in_top q.0 h.leaf q.1
              (other_child q.0
              (λ z.
              no_leaf j
              (ap (λ (t : Tree). (out-Tree t).symbol)
              (same_Some k.child h.leaf (sym k.is_child ∙ ap (λ (n : ℕ). child_at k.above n) (sym z) ∙ q.2))
              ∙ h.refers)) ∙ q.2)

  -- the new root is a knot, where the child refers to the shared root above it
  knot_made : (vars : List Target) → IsShared vars ts r → RefersTo k.child r → IsKnot vars us N
  knot_made vars s h = record {
    one = last_count;
    from = r;
    shared = shared_cut vars r (λ e. (let l = root_less in omega (arith, l, e))) s;
    above = top;
    is_above = cut_tree;
    leaf = ref_leaf N;
    in_field = in_top p (ref_leaf N) in_field this_child;
    refers = leaf_symbol N;
    own = k.child;
    is_own = last_tree;
    ties = h;
  }

  -- loose children stay loose, and the reference is loose
  loose_stays : (j q : ℕ) → j < N → ((j ≢ r) ⊎ ((j ≡ r) × (q ≢ p))) → IsLoose ts j q → IsLoose us j q
  loose_stays j q l (inl d) h t u e y f = h t u (sym (other_tree j l d) ∙ e) y f
  loose_stays j q l (inr (z, d)) h t u e y f =
      let same : top ≡ t = same_Some top t (sym cut_tree ∙ ap (λ (n : ℕ). slice_get us n) (sym z) ∙ e) in
      h k.above u (ap (λ (n : ℕ). slice_get ts n) z ∙ k.is_above)
      (ap (λ (x : Symbol). has_field_at x q) (sym same_symbol ∙ ap (λ (x : Tree). (out-Tree x).symbol) same) ∙ y)
      (sym (other_child q d) ∙ ap (λ (x : Tree). child_at x q) same ∙ f)

  loose_cut : IsLoose us r p
  loose_cut t u e y f n h =
      let same : top ≡ t = same_Some top t (sym cut_tree ∙ e) in
      let is : ref_leaf N ≡ u = same_Some (ref_leaf N) u (sym this_child ∙ ap (λ (x : Tree). child_at x p) same ∙ f) in
      let i : IsIn r (N ∷ []) =
      subst (λ (ks : List ℕ). IsIn r ks) (leaf_ref N) (subst (λ (x : Tree). RefersTo x r) (sym is) h) in
      elim i [ inl z ↦ (let l = root_less in omega (arith, l, z)) | inr z ↦ z ]

  -- the tree that was cut refers to what the new trees refer to, but for the new root
  above_refers : (j : ℕ) → j ≢ N → 1 ≤ often j (tree_refs top) + often j (tree_refs k.child) → RefersTo k.above j
  above_refers j d l = elim (refer_or_not k.above j) [
    | inl h ↦ h
    | inr o ↦ absurd
        (let c = put_counts j k.above p k.child (ref_leaf N) cell k.is_child in
        let e : often j (tree_refs (ref_leaf N)) ≡ often j (N ∷ []) = ap (often j) (leaf_ref N) in
        let z : often j (N ∷ []) ≡ 0 = often_out j (N ∷ []) (λ h. elim h [ inl w ↦ d w | inr w ↦ w ]) in
        let y : often j (tree_refs k.above) ≡ 0 = often_out j (tree_refs k.above) o in
        omega (arith, l, c, e, z, y))
  ]

  -- a root to which no other tree refers, and that is not cut, stays one
  alone_cut : (vars : List Target) (j : ℕ) → j < N → j ≢ r → IsAlone vars ts j → IsAlone vars us j
  alone_cut vars j l d a = record {
    no_var = a.no_var;
    none = λ i u e o h. here i u e o h (same_or_not i N) (same_or_not i r);
  }
    where
      not_last : j ≢ N
      not_last e = omega (arith, l, e)

      above_not : RefersTo k.above j → ⊥
      above_not h = a.none r k.above k.is_above (λ e. d (sym e)) h

      here : (i : ℕ) (u : Tree) → slice_get us i ≡ Some u → i ≢ j → RefersTo u j → (i ≡ N) ⊎ (i ≢ N)
          → (i ≡ r) ⊎ (i ≢ r) → ⊥
      here i u e o h (inl z) w =
          let same : k.child ≡ u =
          same_Some k.child u (sym last_tree ∙ ap (λ (n : ℕ). slice_get us n) (sym z) ∙ e) in
          let c = refer_count k.child j (subst (λ (x : Tree). RefersTo x j) (sym same) h) in
          above_not (above_refers j not_last (omega (arith, c)))
      here i u e o h (inr z) (inl w) =
          let same : top ≡ u = same_Some top u (sym cut_tree ∙ ap (λ (n : ℕ). slice_get us n) (sym w) ∙ e) in
          let c = refer_count top j (subst (λ (x : Tree). RefersTo x j) (sym same) h) in
          above_not (above_refers j not_last (omega (arith, c)))
      here i u e o h (inr z) (inr w) =
          let m = place_less us i u e in
          let n = cut_long in
          a.none i u (sym (other_tree i (omega (arith, m, n, z)) w) ∙ e) o h

  shared_back : (vars : List Target) (j : ℕ) → j ≢ N → IsShared vars us j → IsShared vars ts j
  shared_back vars j d (inl v) = inl v
  shared_back vars j d (inr l) = inr (let e = other_counts j d in omega (arith, e, l))

  settled_cut : (vars : List Target) (j : ℕ) → j < N → IsShared vars ts r → IsSettled vars ts j → IsSettled vars us j
  settled_cut vars j l s (inl h) = inl (shared_cut vars j (λ e. omega (arith, e, l)) h)
  settled_cut vars j l s (inr a) = elim (same_or_not j r) [
    | inl e ↦ inl (shared_cut vars j (λ z. omega (arith, z, l)) (subst (λ (n : ℕ). IsShared vars ts n) (sym e) s))
    | inr d ↦ inr (alone_cut vars j l d a)
  ]

  -- the root stays shared
  pub root_shared : (vars : List Target) → IsShared vars ts r → IsShared vars us r
  root_shared vars s = shared_cut vars r (λ e. (let l = root_less in omega (arith, l, e))) s

  -- what holds before the cut holds after it, one place further
  pub cut_step : (vars : List Target) (n : ℕ) → n ≤ N → r < n → ((i : ℕ) → (out-Tree k.child).symbol ≢ Ref i)
      → RefersTo k.child r → IsShared vars ts r → AreCut vars n r p ts → AreCut vars n r (p + 1) us
  cut_step vars n few l no_leaf ties shared c = record {
    settled = λ j i. settled_cut vars j (omega (arith, i, few)) shared (c.settled j i);
    knots = λ j i b. by_place j i b (same_or_not j N);
    loose = by_order;
  }
    where
      by_place : (j : ℕ) → n ≤ j → j < length us → (j ≡ N) ⊎ (j ≢ N) → IsKnot vars us j
      by_place j i b (inl e) = subst (λ (z : ℕ). IsKnot vars us z) (sym e) (knot_made vars shared ties)
      by_place j i b (inr d) =
          knot_stays vars j (λ e. omega (arith, e, l, i)) no_leaf
          (c.knots j i (let m = cut_long in omega (arith, b, m, d)))

      by_order : (j q : ℕ) → IsBefore j q r (p + 1) → IsShared vars us j → IsLoose us j q
      by_order j q (inl i) s = loose_stays j q (omega (arith, i, l, few)) (inl (λ e. omega (arith, e, i)))
          (c.loose j q (inl i) (shared_back vars j (λ e. omega (arith, e, i, l, few)) s))
      by_order j q (inr (e, i)) s = elim (same_or_not q p) [
        | inl z ↦ subst (λ (m : ℕ). IsLoose us m q) (sym e) (subst (λ (m : ℕ). IsLoose us r m) (sym z) loose_cut)
        | inr d ↦ loose_stays j q (omega (arith, e, l, few)) (inr (e, d))
            (c.loose j q (inr (e, omega (arith, i, d))) (shared_back vars j (λ w. omega (arith, w, e, l, few)) s))
      ]
