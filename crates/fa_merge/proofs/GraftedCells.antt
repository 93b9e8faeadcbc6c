-- The cells of a grafted forest are those of the forest before.
use Rattle.std.proofs.Common.{◌≡◌, ◌≢◌, inl, inr, ℕ, zero, suc, ◌<◌, Bool, true, false, true≢false, if◌then◌else◌}
use Rattle.std.proofs.Common.{nat_eq, List, [], ◌∷◌, ◌++◌, refl, sym, ap, ap₂, ◌∙◌, append_assoc, append-nil, flat_map}
use Rattle.std.proofs.Common.{not-suc-le-zero, le_of_suc-le-suc, arith}
use Rattle.std.proofs.lemmas.Bool.{eqb-true, eq-eqb}
use Rattle.fore_base.specs.declared.store.Value.{Value}
use Rattle.fore_base.specs.declared.store.Value.TheVariants.{Cell}
use Rattle.fa_core.specs.declared.forest.Target.TheVariants.{Null, Uninit, Dangling, At}
use Rattle.fa_core.specs.Choices.{count}
use Rattle.fa_core.specs.Dressed.{Node, Parts, End, Nodes, node, no_parts, field, link, hook, under, leaf, no_nodes}
use Rattle.fa_core.specs.Dressed.{more, end_value, nth_value, number, seen, Seen, SeenCell, tree_cells, below}
use Rattle.fa_core.specs.Dressed.{end_cells, forest_cells, cells, roots_of, refs, refs_of, end_refs, all_refs}
use Rattle.fa_core.specs.Rearranged.{Rearranged, empty, keep, chain}
use Rattle.fa_core.specs.References.{AllBelow, IsOnce, IsNever}
use Rattle.fa_core.proofs.Counts.{below_left, below_right, below_both}
use Rattle.fa_core.proofs.Rearranging.{equal, back, after, both, exchange, flat_map-append}
use Rattle.fa_merge.specs.inner.Grafting.{plug, plug_parts, plug_end, plug_all, with_last}

-- where two lists of values agree on the roots to which a tree refers, its cells are the same
abbrev Agree : List Value → List Value → List ℕ → Type 0
Agree vs ws [] = Unit {0}
Agree vs ws (k ∷ ks) = (nth_value vs k ≡ nth_value ws k) × Agree vs ws ks

agree_left : (vs ws : List Value) (xs ys : List ℕ) → Agree vs ws (xs ++ ys) → Agree vs ws xs
agree_left vs ws [] ys h = tt
agree_left vs ws (x ∷ xs) ys h = (h.0, agree_left vs ws xs ys h.1)

agree_right : (vs ws : List Value) (xs ys : List ℕ) → Agree vs ws (xs ++ ys) → Agree vs ws ys
agree_right vs ws [] ys h = h
agree_right vs ws (x ∷ xs) ys h = agree_right vs ws xs ys h.1

module _ (vs ws : List Value) where
  agree_end : (e : End) → Agree vs ws (end_refs e) → end_value vs e ≡ end_value ws e
  agree_end (under n) h = refl
  agree_end (leaf Null) h = refl
  agree_end (leaf Uninit) h = refl
  agree_end (leaf Dangling) h = refl
  agree_end (leaf (At k)) h = h.0

  agree_seen : (ps : Parts) → Agree vs ws (refs_of ps) → seen vs ps ≡ seen ws ps
  agree_seen no_parts h = refl
  agree_seen (field f e ps) h =
      rw (
        agree_end e (agree_left vs ws (end_refs e) (refs_of ps) h),
        agree_seen ps (agree_right vs ws (end_refs e) (refs_of ps) h),
      ) refl
  agree_seen (link b inside e ps) h =
      rw (
        agree_end e (agree_left vs ws (end_refs e) (refs_of ps) h),
        agree_seen ps (agree_right vs ws (end_refs e) (refs_of ps) h),
      ) refl
  agree_seen (hook b inside ps) h = rw (agree_seen ps h) refl

  mutual
    agree_tree : (n : Node) → Agree vs ws (refs n) → tree_cells vs n ≡ tree_cells ws n
    agree_tree (node c s ds ps) h =
        ap₂ (λ (x : List Seen) (y : List SeenCell). record { cell = c; shape = s; datums = ds; slots = x } ∷ y)
        (agree_seen ps h) (agree_below ps h)

    agree_below : (ps : Parts) → Agree vs ws (refs_of ps) → below vs ps ≡ below ws ps
    agree_below no_parts h = refl
    agree_below (field f e ps) h =
        ap₂ (λ (x y : List SeenCell). x ++ y) (agree_cells e (agree_left vs ws (end_refs e) (refs_of ps) h))
        (agree_below ps (agree_right vs ws (end_refs e) (refs_of ps) h))
    agree_below (link b inside e ps) h =
        ap₂ (λ (x y : List SeenCell). x ++ y) (agree_cells e (agree_left vs ws (end_refs e) (refs_of ps) h))
        (agree_below ps (agree_right vs ws (end_refs e) (refs_of ps) h))
    agree_below (hook b inside ps) h = agree_below ps h

    agree_cells : (e : End) → Agree vs ws (end_refs e) → end_cells vs e ≡ end_cells ws e
    agree_cells (under n) h = agree_tree n h
    agree_cells (leaf t) h = refl

  pub agree_forest : (ns : Nodes) → Agree vs ws (all_refs ns) → forest_cells vs ns ≡ forest_cells ws ns
  agree_forest no_nodes h = refl
  agree_forest (more n ns) h =
      ap₂ (λ (x y : List SeenCell). x ++ y) (agree_tree n (agree_left vs ws (refs n) (all_refs ns) h))
      (agree_forest ns (agree_right vs ws (refs n) (all_refs ns) h))

-- where root r is the cell of m
module _ (r : ℕ) (m : Node) (vs : List Value) (is : nth_value vs r ≡ Cell (number m)) where
  -- what a reference to root k brings when it is replaced
  abbrev brought : ℕ → List SeenCell
  brought k = if nat_eq r k then tree_cells vs m else []

  abbrev brings : List ℕ → List SeenCell
  brings ks = flat_map brought ks

  plugged_number : (n : Node) → number (plug r m n) ≡ number n
  plugged_number (node c s ds ps) = refl

  plugged_value : (e : End) → end_value vs (plug_end r m e) ≡ end_value vs e
  plugged_value (under n) = ap Cell (plugged_number n)
  plugged_value (leaf Null) = refl
  plugged_value (leaf Uninit) = refl
  plugged_value (leaf Dangling) = refl
  plugged_value (leaf (At k)) = here (nat_eq r k) refl
    where
      here : (b : Bool) → nat_eq r k ≡ b → end_value vs (if b then under m else leaf (At k)) ≡ nth_value vs k
      here true x = sym is ∙ ap (nth_value vs) (eqb-true r k x)
      here false x = refl

  plugged_seen : (ps : Parts) → seen vs (plug_parts r m ps) ≡ seen vs ps
  plugged_seen no_parts = refl
  plugged_seen (field f e ps) = rw (plugged_value e, plugged_seen ps) refl
  plugged_seen (link b inside e ps) = rw (plugged_value e, plugged_seen ps) refl
  plugged_seen (hook b inside ps) = rw (plugged_seen ps) refl

  -- (a ++ c) ++ (b ++ d) for a ++ b with c ++ d behind
  shuffled : (a b c d : List SeenCell) → Rearranged ((a ++ c) ++ (b ++ d)) ((a ++ b) ++ (c ++ d))
  shuffled a b c d = rw (append_assoc a c (b ++ d), append_assoc a b (c ++ d)) (after a (exchange c b d))

  plugged_two : (a b a' b' : List SeenCell) (xs ys : List ℕ) → Rearranged a' (a ++ brings xs)
      → Rearranged b' (b ++ brings ys) → Rearranged (a' ++ b') ((a ++ b) ++ brings (xs ++ ys))
  plugged_two a b a' b' xs ys p q =
      rw (flat_map-append brought xs ys) (chain (both p q) (shuffled a b (brings xs) (brings ys)))

  mutual
    plugged_tree : (n : Node) → Rearranged (tree_cells vs (plug r m n)) (tree_cells vs n ++ brings (refs n))
    plugged_tree (node c s ds ps) = rw (plugged_seen ps) (keep _ (plugged_below ps))

    plugged_below : (ps : Parts) → Rearranged (below vs (plug_parts r m ps)) (below vs ps ++ brings (refs_of ps))
    plugged_below no_parts = empty
    plugged_below (field f e ps) = plugged_two _ _ _ _ (end_refs e) (refs_of ps) (plugged_cells e) (plugged_below ps)
    plugged_below (link b inside e ps) =
        plugged_two _ _ _ _ (end_refs e) (refs_of ps) (plugged_cells e) (plugged_below ps)
    plugged_below (hook b inside ps) = plugged_below ps

    plugged_cells : (e : End) → Rearranged (end_cells vs (plug_end r m e)) (end_cells vs e ++ brings (end_refs e))
    plugged_cells (under n) = plugged_tree n
    plugged_cells (leaf Null) = empty
    plugged_cells (leaf Uninit) = empty
    plugged_cells (leaf Dangling) = empty
    plugged_cells (leaf (At k)) = here (nat_eq r k)
      where
        here : (b : Bool) → Rearranged (end_cells vs (if b then under m else leaf (At k)))
            ((if b then tree_cells vs m else []) ++ [])
        here true = equal (sym (append-nil (tree_cells vs m)))
        here false = empty

  plugged_forest : (ns : Nodes)
      → Rearranged (forest_cells vs (plug_all r m ns)) (forest_cells vs ns ++ brings (all_refs ns))
  plugged_forest no_nodes = empty
  plugged_forest (more n ns) = plugged_two _ _ _ _ (refs n) (all_refs ns) (plugged_tree n) (plugged_forest ns)

  brings_none : (ks : List ℕ) → IsNever r ks → brings ks ≡ []
  brings_none [] h = refl
  brings_none (k ∷ ks) h = rw h.0 (brings_none ks h.1)

  brings_one : (ks : List ℕ) → IsOnce r ks → brings ks ≡ tree_cells vs m
  brings_one [] h = absurd h
  brings_one (k ∷ ks) (inl h) = rw (h.0, brings_none ks h.1) (append-nil (tree_cells vs m))
  brings_one (k ∷ ks) (inr h) = rw h.0 (brings_one ks h.1)

  -- the cells of the grafted trees are those of the trees and of m
  pub grafted_cells : (ns : Nodes) → IsOnce r (all_refs ns)
      → Rearranged (forest_cells vs (plug_all r m ns)) (forest_cells vs ns ++ tree_cells vs m)
  grafted_cells ns h = rw (sym (brings_one (all_refs ns) h)) (plugged_forest ns)

-- a grafted tree refers to no root but those that are left
module _ (r : ℕ) (m : Node) (own : AllBelow r (refs m)) where
  mutual
    left_tree : (n : Node) → AllBelow (suc r) (refs n) → AllBelow r (refs (plug r m n))
    left_tree (node c s ds ps) h = left_parts ps h

    left_parts : (ps : Parts) → AllBelow (suc r) (refs_of ps) → AllBelow r (refs_of (plug_parts r m ps))
    left_parts no_parts h = tt
    left_parts (field f e ps) h =
        below_both r (end_refs (plug_end r m e)) (refs_of (plug_parts r m ps))
        (left_end e (below_left (suc r) (end_refs e) (refs_of ps) h))
        (left_parts ps (below_right (suc r) (end_refs e) (refs_of ps) h))
    left_parts (link b inside e ps) h =
        below_both r (end_refs (plug_end r m e)) (refs_of (plug_parts r m ps))
        (left_end e (below_left (suc r) (end_refs e) (refs_of ps) h))
        (left_parts ps (below_right (suc r) (end_refs e) (refs_of ps) h))
    left_parts (hook b inside ps) h = left_parts ps h

    left_end : (e : End) → AllBelow (suc r) (end_refs e) → AllBelow r (end_refs (plug_end r m e))
    left_end (under n) h = left_tree n h
    left_end (leaf Null) h = tt
    left_end (leaf Uninit) h = tt
    left_end (leaf Dangling) h = tt
    left_end (leaf (At k)) h = here (nat_eq r k) refl
      where
        here : (b : Bool) → nat_eq r k ≡ b → AllBelow r (end_refs (if b then under m else leaf (At k)))
        here true x = own
        here false x =
            let d : k ≢ r = (λ e. true≢false (sym (eq-eqb r k (sym e)) ∙ x)) in
            (omega (arith, d, h.0), tt)

  left_all : (ns : Nodes) → AllBelow (suc r) (all_refs ns) → AllBelow r (all_refs (plug_all r m ns))
  left_all no_nodes h = tt
  left_all (more n ns) h =
      below_both r (refs (plug r m n)) (all_refs (plug_all r m ns))
      (left_tree n (below_left (suc r) (refs n) (all_refs ns) h))
      (left_all ns (below_right (suc r) (refs n) (all_refs ns) h))

-- the first values are the same where one more stands behind
pub nth_more : (ns : Nodes) (m : Node) (k : ℕ) → k < count ns → nth_value (roots_of ns) k
    ≡ nth_value (roots_of (with_last ns m)) k
nth_more no_nodes m k h = absurd (not-suc-le-zero h)
nth_more (more n ns) m zero h = refl
nth_more (more n ns) m (suc k) h = nth_more ns m k (le_of_suc-le-suc h)

nth_last : (ns : Nodes) (m : Node) → nth_value (roots_of (with_last ns m)) (count ns) ≡ Cell (number m)
nth_last no_nodes m = refl
nth_last (more n ns) m = nth_last ns m

agree_more : (ns : Nodes) (m : Node) (ks : List ℕ) → AllBelow (count ns) ks
    → Agree (roots_of ns) (roots_of (with_last ns m)) ks
agree_more ns m [] h = tt
agree_more ns m (k ∷ ks) h = (nth_more ns m k h.0, agree_more ns m ks h.1)

pub roots_plugged : (r : ℕ) (m : Node) (ns : Nodes) → roots_of (plug_all r m ns) ≡ roots_of ns
roots_plugged r m no_nodes = refl
roots_plugged r m (more (node c s ds ps) ns) = ap (λ (x : List Value). Cell c ∷ x) (roots_plugged r m ns)

cells_last : (vs : List Value) (ns : Nodes) (m : Node) → forest_cells vs (with_last ns m) ≡ forest_cells vs ns
    ++ tree_cells vs m
cells_last vs no_nodes m = append-nil (tree_cells vs m)
cells_last vs (more n ns) m =
    rw (cells_last vs ns m) (sym (append_assoc (tree_cells vs n) (forest_cells vs ns) (tree_cells vs m)))

-- a last tree to which one leaf of the others refers, and no leaf of its own, may be put in that leaf's place
pub graft_last : (ns : Nodes) (m : Node) → IsOnce (count ns) (all_refs ns) → AllBelow (suc (count ns)) (all_refs ns)
    → AllBelow (count ns) (refs m) → Rearranged (cells (with_last ns m)) (cells (plug_all (count ns) m ns))
graft_last ns m o a b =
    let vs = roots_of (with_last ns m) in
    let e : forest_cells (roots_of ns) (plug_all (count ns) m ns) ≡ forest_cells vs (plug_all (count ns) m ns) =
    agree_forest (roots_of ns) vs (plug_all (count ns) m ns) (agree_more ns m _ (left_all (count ns) m b ns a))
    in
    rw (cells_last vs ns m, roots_plugged (count ns) m ns, e)
    (back (grafted_cells (count ns) m vs (nth_last ns m) ns o))
