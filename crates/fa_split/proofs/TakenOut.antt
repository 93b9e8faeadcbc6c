-- A child taken out of its tree, as a last tree of its own: the cells stay, and one reference is new.
use Rattle.std.proofs.Common.{◌≡◌, ℕ, zero, suc, ◌<◌, ◌+◌, true, nat_eq, List, [], ◌∷◌, ◌++◌, refl, sym, ap, ap₂, subst}
use Rattle.std.proofs.Common.{◌∙◌, Some, append_assoc, append-nil, arith}
use Rattle.std.proofs.lemmas.Bool.{eq-eqb}
use Rattle.std.proofs.lemmas.Option.{none-some, same_Some}
use Rattle.fa_core.specs.declared.forest.Target.TheVariants.{At}
use Rattle.fa_core.specs.Choices.{count}
use Rattle.fa_core.specs.Dressed.{Node, Parts, End, Nodes, node, no_parts, field, link, hook, under, leaf, no_nodes}
use Rattle.fa_core.specs.Dressed.{more, cells, refs, refs_of, end_refs, all_refs}
use Rattle.fa_core.specs.Rearranged.{Rearranged, keep, chain, often}
use Rattle.fa_core.specs.References.{AllBelow, IsOnce, IsNever}
use Rattle.fa_core.proofs.Counts.{often_same, often_both, once_often, often_below, never_below, never_left, never_right}
use Rattle.fa_core.proofs.Counts.{below_left, below_right, below_both, below_wider}
use Rattle.fa_core.proofs.Rearranging.{back, after, before, middle, exchange, every_moved}
use Rattle.fa_back.specs.Reached.{node_at}
use Rattle.fa_merge.specs.inner.Grafting as grafting
use Rattle.fa_merge.specs.inner.Grafting.{plug, plug_parts, plug_end, plug_all}
use Rattle.fa_merge.proofs.CutTrees.{plug_never_tree, plug_never_parts, plug_never_end}
use Rattle.fa_merge.proofs.GraftedCells.{graft_last}
use Rattle.fa_split.specs.Split.{end_at, set_end, set_node, with_last, top_parts, with_end, IsTakenOut}
use Rattle.fa_split.proofs.Places.{set_count, last_is}

first_last : {X : Type 0} (xs ys : List X) → Rearranged (xs ++ ys) (ys ++ xs)
first_last {X} xs ys = rw (sym (append-nil (ys ++ xs)), append_assoc ys xs [])
    (subst (λ (z : List X). Rearranged (xs ++ z) (ys ++ (xs ++ []))) (append-nil ys) (exchange xs ys []))

-- Bounds.

pub below_child : (n p : ℕ) (ps : Parts) (e : End) → end_at p ps ≡ Some e → AllBelow n (refs_of ps)
    → AllBelow n (end_refs e)
below_child n p no_parts e h b = absurd (none-some e h)
below_child n zero (field f x ps) e h b =
    subst (λ (z : End). AllBelow n (end_refs z)) (same_Some x e h) (below_left n (end_refs x) (refs_of ps) b)
below_child n (suc p) (field f x ps) e h b = below_child n p ps e h (below_right n (end_refs x) (refs_of ps) b)
below_child n zero (link c inside x ps) e h b =
    subst (λ (z : End). AllBelow n (end_refs z)) (same_Some x e h) (below_left n (end_refs x) (refs_of ps) b)
below_child n (suc p) (link c inside x ps) e h b = below_child n p ps e h (below_right n (end_refs x) (refs_of ps) b)
below_child n p (hook c inside ps) e h b = below_child n p ps e h b

pub below_set : (n p : ℕ) (ps : Parts) (u : End) → AllBelow n (end_refs u) → AllBelow n (refs_of ps)
    → AllBelow n (refs_of (set_end p u ps))
below_set n p no_parts u l b = b
below_set n zero (field f x ps) u l b =
    below_both n (end_refs u) (refs_of ps) l (below_right n (end_refs x) (refs_of ps) b)
below_set n (suc p) (field f x ps) u l b =
    below_both n (end_refs x) (refs_of (set_end p u ps)) (below_left n (end_refs x) (refs_of ps) b)
    (below_set n p ps u l (below_right n (end_refs x) (refs_of ps) b))
below_set n zero (link c inside x ps) u l b =
    below_both n (end_refs u) (refs_of ps) l (below_right n (end_refs x) (refs_of ps) b)
below_set n (suc p) (link c inside x ps) u l b =
    below_both n (end_refs x) (refs_of (set_end p u ps)) (below_left n (end_refs x) (refs_of ps) b)
    (below_set n p ps u l (below_right n (end_refs x) (refs_of ps) b))
below_set n p (hook c inside ps) u l b = below_set n p ps u l b

pub below_top : (n p : ℕ) (m : Node) (e : End) → end_at p (top_parts m) ≡ Some e → AllBelow n (refs m)
    → AllBelow n (end_refs e)
below_top n p (node c s ds ps) e h b = below_child n p ps e h b

pub below_with : (n p : ℕ) (m : Node) (u : End) → AllBelow n (end_refs u) → AllBelow n (refs m)
    → AllBelow n (refs (with_end p u m))
below_with n p (node c s ds ps) u l b = below_set n p ps u l b

pub below_tree : (n r : ℕ) (d : Nodes) (m : Node) → node_at d r ≡ Some m → AllBelow n (all_refs d) → AllBelow n (refs m)
below_tree n r no_nodes m e b = absurd (none-some m e)
below_tree n zero (more x ns) m e b =
    subst (λ (z : Node). AllBelow n (refs z)) (same_Some x m e) (below_left n (refs x) (all_refs ns) b)
below_tree n (suc r) (more x ns) m e b = below_tree n r ns m e (below_right n (refs x) (all_refs ns) b)

-- The references of a tree whose child is taken out, and the tree when it is put back.

module _ (m : Node) (k : ℕ) where
  taken_refs : (p : ℕ) (ps : Parts) → end_at p ps ≡ Some (under m)
      → Rearranged (refs_of (set_end p (leaf (At k)) ps) ++ refs m) (k ∷ refs_of ps)
  taken_refs p no_parts e = absurd (none-some (under m) e)
  taken_refs zero (field f x ps) e = rw (same_Some x (under m) e) (keep k (first_last (refs_of ps) (refs m)))
  taken_refs (suc p) (field f x ps) e =
      rw (append_assoc (end_refs x) (refs_of (set_end p (leaf (At k)) ps)) (refs m))
      (chain (after (end_refs x) (taken_refs p ps e)) (middle (end_refs x) k (refs_of ps)))
  taken_refs zero (link b inside x ps) e = rw (same_Some x (under m) e) (keep k (first_last (refs_of ps) (refs m)))
  taken_refs (suc p) (link b inside x ps) e =
      rw (append_assoc (end_refs x) (refs_of (set_end p (leaf (At k)) ps)) (refs m))
      (chain (after (end_refs x) (taken_refs p ps e)) (middle (end_refs x) k (refs_of ps)))
  taken_refs p (hook b inside ps) e = taken_refs p ps e

  put_back : (p : ℕ) (ps : Parts) → end_at p ps ≡ Some (under m) → IsNever k (refs_of ps)
      → plug_parts k m (set_end p (leaf (At k)) ps) ≡ ps
  put_back p no_parts e o = refl
  put_back zero (field f x ps) e o = let w : nat_eq k k ≡ true = eq-eqb k k refl in
      rw (same_Some x (under m) e, w)
      (ap (field f (under m)) (plug_never_parts k m ps (never_right k (end_refs x) (refs_of ps) o)))
  put_back (suc p) (field f x ps) e o =
      ap₂ (field f) (plug_never_end k m x (never_left k (end_refs x) (refs_of ps) o))
      (put_back p ps e (never_right k (end_refs x) (refs_of ps) o))
  put_back zero (link b inside x ps) e o = let w : nat_eq k k ≡ true = eq-eqb k k refl in
      rw (same_Some x (under m) e, w)
      (ap (link b inside (under m)) (plug_never_parts k m ps (never_right k (end_refs x) (refs_of ps) o)))
  put_back (suc p) (link b inside x ps) e o =
      ap₂ (link b inside) (plug_never_end k m x (never_left k (end_refs x) (refs_of ps) o))
      (put_back p ps e (never_right k (end_refs x) (refs_of ps) o))
  put_back p (hook b inside ps) e o = ap (hook b inside) (put_back p ps e o)

  top_refs : (p : ℕ) (n : Node) → end_at p (top_parts n) ≡ Some (under m)
      → Rearranged (refs (with_end p (leaf (At k)) n) ++ refs m) (k ∷ refs n)
  top_refs p (node c s ds ps) e = taken_refs p ps e

  top_back : (p : ℕ) (n : Node) → end_at p (top_parts n) ≡ Some (under m) → IsNever k (refs n)
      → plug k m (with_end p (leaf (At k)) n) ≡ n
  top_back p (node c s ds ps) e o = ap (node c s ds) (put_back p ps e o)

  plug_never_all : (ns : Nodes) → IsNever k (all_refs ns) → plug_all k m ns ≡ ns
  plug_never_all no_nodes o = refl
  plug_never_all (more n ns) o =
      ap₂ more (plug_never_tree k m n (never_left k (refs n) (all_refs ns) o))
      (plug_never_all ns (never_right k (refs n) (all_refs ns) o))

  module _ (p : ℕ) (n : Node) (is : end_at p (top_parts n) ≡ Some (under m)) where
    all_taken : (r : ℕ) (d : Nodes) → node_at d r ≡ Some n
        → Rearranged (all_refs (set_node r (with_end p (leaf (At k)) n) d) ++ refs m) (k ∷ all_refs d)
    all_taken r no_nodes e = absurd (none-some n e)
    all_taken zero (more x ns) e =
        rw (same_Some x n e)
        (chain (later (refs (with_end p (leaf (At k)) n)) (all_refs ns) (refs m))
        (before (all_refs ns) (top_refs p n is)))
      where
        later : (xs ys zs : List ℕ) → Rearranged ((xs ++ ys) ++ zs) ((xs ++ zs) ++ ys)
        later xs ys zs = rw (append_assoc xs ys zs, append_assoc xs zs ys) (after xs (first_last ys zs))
    all_taken (suc r) (more x ns) e =
        rw (append_assoc (refs x) (all_refs (set_node r (with_end p (leaf (At k)) n) ns)) (refs m))
        (chain (after (refs x) (all_taken r ns e)) (middle (refs x) k (all_refs ns)))

    all_back : (r : ℕ) (d : Nodes) → node_at d r ≡ Some n → IsNever k (all_refs d)
        → plug_all k m (set_node r (with_end p (leaf (At k)) n) d) ≡ d
    all_back r no_nodes e o = refl
    all_back zero (more x ns) e o =
        let w : x ≡ n = same_Some x n e in
        let o' : IsNever k (refs n ++ all_refs ns) = subst (λ (z : Node). IsNever k (refs z ++ all_refs ns)) w o in
        rw w
        (ap₂ more (top_back p n is (never_left k (refs n) (all_refs ns) o'))
        (plug_never_all ns (never_right k (refs n) (all_refs ns) o')))
    all_back (suc r) (more x ns) e o =
        ap₂ more (plug_never_tree k m x (never_left k (refs x) (all_refs ns) o))
        (all_back r ns e (never_right k (refs x) (all_refs ns) o))

pub last_refs : (ns : Nodes) (m : Node) → all_refs (with_last ns m) ≡ all_refs ns ++ refs m
last_refs no_nodes m = append-nil (refs m)
last_refs (more n ns) m = ap (λ (z : List ℕ). refs n ++ z) (last_refs ns m)
    ∙ sym (append_assoc (refs n) (all_refs ns) (refs m))

-- The law: the cells stay, and the new last root is named once more than what was named before.
module _ (r p : ℕ) (d e : Nodes) (t : IsTakenOut r p d e) where
  abbrev k : ℕ
  k = count d

  abbrev ns : Nodes
  ns = set_node r (with_end p (leaf (At k)) t.above) d

  taken_all : Rearranged (all_refs ns ++ refs t.child) (k ∷ all_refs d)
  taken_all = all_taken t.child k p t.above t.is_child r d t.is_above

  -- the references of the dressed forest with the child taken out
  pub refs_taken : Rearranged (all_refs e) (k ∷ all_refs d)
  refs_taken = subst (λ (x : Nodes). Rearranged (all_refs x) (k ∷ all_refs d)) (sym t.taken)
      (subst (λ (xs : List ℕ). Rearranged xs (k ∷ all_refs d)) (sym (last_refs ns t.child)) taken_all)

  module _ (below : AllBelow k (all_refs d)) where
    wide : AllBelow (suc k) (all_refs ns ++ refs t.child)
    wide = every_moved (λ q. q < suc k) (back taken_all)
        (omega arith, below_wider k (suc k) (omega arith) (all_refs d) below)

    pub child_below : AllBelow k (refs t.child)
    child_below = below_top k p t.above (under t.child) t.is_child (below_tree k r d t.above t.is_above below)

    taken_once : IsOnce k (all_refs ns)
    taken_once = once_often k (all_refs ns) (
        let a : often k (all_refs ns ++ refs t.child) ≡ often k (k ∷ all_refs d) = often_same k taken_all in
        let b = often_both k (all_refs ns) (refs t.child) in
        let e : often k (k ∷ all_refs d) ≡ often k (all_refs d) + 1 =
        (let w : nat_eq k k ≡ true = eq-eqb k k refl in rw w refl) in
        let f = often_below k (all_refs d) below in
        let g = often_below k (refs t.child) child_below in
        omega (arith, a, b, e, f, g))

    pub cells_taken : Rearranged (cells d) (cells e)
    cells_taken =
        let n : count ns ≡ k = set_count r (with_end p (leaf (At k)) t.above) d in
        let q : Rearranged (cells (with_last ns t.child)) (cells (plug_all k t.child ns)) =
        subst (λ (x : Nodes). Rearranged (cells x) (cells (plug_all k t.child ns))) (sym (last_is ns t.child))
        (subst (λ (j : ℕ). IsOnce j (all_refs ns) → AllBelow (suc j) (all_refs ns) → AllBelow j (refs t.child)
        → Rearranged (cells (grafting.with_last ns t.child)) (cells (plug_all j t.child ns))) n
        (graft_last ns t.child) taken_once (below_left (suc k) (all_refs ns) (refs t.child) wide) child_below) in
        subst (λ (x : Nodes). Rearranged (cells d) (cells x)) (sym t.taken)
        (back
        (subst (λ (x : Nodes). Rearranged (cells (with_last ns t.child)) (cells x))
        (all_back t.child k p t.above t.is_child r d t.is_above (never_below k (all_refs d) below)) q))
