-- The cells of roots: each root in range is a cell of its own, by which it is found again; so trees that are alike are
-- equal where the roots stand in one order.
use Rattle.std.proofs.Common.{◌≡◌, ℕ, zero, suc, ◌<◌, Bool, true, false, if◌then◌else◌, nat_eq, List}
use Rattle.std.proofs.Common.{◌++◌, map, refl, sym, ap, ap₂, subst, ◌∙◌, arith, not-suc-le-zero, le_of_suc-le-suc}
use Rattle.std.proofs.lemmas.Bool.{eqb-true, eq-eqb}
use Rattle.fore_base.specs.Lists.{IsIn, IsDistinct}
use Rattle.fore_base.specs.declared.store.Datum.{Datum}
use Rattle.fore_base.specs.declared.store.Value.{Value}
use Rattle.fore_base.specs.declared.store.Value.TheVariants.{Null as NullValue, Uninit as UninitValue}
use Rattle.fore_base.specs.declared.store.Value.TheVariants.{Dangling as DanglingValue, Cell}
use Rattle.fore_base.proofs.ListLemmas.{in_left, in_right}
use Rattle.fa_core.specs.declared.forest.Target.{Target}
use Rattle.fa_core.specs.declared.forest.Target.TheVariants.{Null, Uninit, Dangling, At}
use Rattle.fa_core.specs.Choices.{count, numbers, all_numbers}
use Rattle.fa_core.specs.Dressed.{Node, Parts, End, Nodes, node, no_parts, field, link, hook, under, leaf, no_nodes}
use Rattle.fa_core.specs.Dressed.{more}
use Rattle.fa_core.specs.Dressed.{value_in, nth_value, roots_of, number, refs, refs_of, end_refs, leaf_refs}
use Rattle.fa_core.specs.References.{AllBelow}
use Rattle.fa_core.proofs.Counts.{below_left, below_right}
use Rattle.fa_core.proofs.Permuted.{none_in_both}
use Rattle.fa_core.proofs.WaysOf.{map-append}
use Rattle.fa_back.proofs.FactParts.{number_of, top_in}
use Rattle.fa_unique.proofs.AlikeTrees.{Alike, AlikeParts, AlikeEnd}
use Rattle.fa_unique.proofs.CellsWithin.{differ_right}
use Rattle.fa_unique.proofs.Pointers.{cell_of}

-- the cell that a root is
abbrev pub root_cell : Nodes → ℕ → ℕ
root_cell d k = number_of (nth_value (roots_of d) k)

-- a root in range is a cell
pub in_range : (d : Nodes) (k : ℕ) → k < count d → nth_value (roots_of d) k ≡ Cell (root_cell d k)
in_range no_nodes k l = absurd (not-suc-le-zero l)
in_range (more n ns) zero l = refl
in_range (more n ns) (suc k) l = in_range ns k (le_of_suc-le-suc l)

-- the references of a leaf in range are what its value names
pub leaf_cells : (d : Nodes) (t : Target) → AllBelow (count d) (leaf_refs t)
    → map (root_cell d) (leaf_refs t) ≡ cell_of (value_in (roots_of d) t)
leaf_cells d Null l = refl
leaf_cells d Uninit l = refl
leaf_cells d Dangling l = refl
leaf_cells d (At k) l = rw (in_range d k l.0) refl

module _ (d e : Nodes) where
  mutual
    -- alike trees refer to the same cells in the same order
    pub refs_alike : (x z : Node) → Alike (roots_of d) (roots_of e) x z → AllBelow (count d) (refs x)
        → AllBelow (count e) (refs z) → map (root_cell d) (refs x) ≡ map (root_cell e) (refs z)
    refs_alike (node c s ds ps) (node c' s' ds' qs) k l m = refs_parts ps qs k.3 l m

    refs_parts : (ps qs : Parts) → AlikeParts (roots_of d) (roots_of e) ps qs → AllBelow (count d) (refs_of ps)
        → AllBelow (count e) (refs_of qs) → map (root_cell d) (refs_of ps) ≡ map (root_cell e) (refs_of qs)
    refs_parts no_parts no_parts k l m = refl
    refs_parts no_parts (field f b qs) k l m = absurd k
    refs_parts no_parts (link o inside b qs) k l m = absurd k
    refs_parts no_parts (hook o inside qs) k l m = absurd k
    refs_parts (field f a ps) no_parts k l m = absurd k
    refs_parts (field f a ps) (link o inside b qs) k l m = absurd k
    refs_parts (field f a ps) (hook o inside qs) k l m = absurd k
    refs_parts (link o inside a ps) qs k l m = absurd k
    refs_parts (hook o inside ps) qs k l m = absurd k
    refs_parts (field f a ps) (field f' b qs) k l m =
        map-append (root_cell d) (end_refs a) (refs_of ps)
        ∙ ap₂ (λ (x y : List ℕ). x ++ y) (refs_end a b k.1 (below_left (count d) (end_refs a) (refs_of ps) l)
        (below_left (count e) (end_refs b) (refs_of qs) m))
        (refs_parts ps qs k.2 (below_right (count d) (end_refs a) (refs_of ps) l)
        (below_right (count e) (end_refs b) (refs_of qs) m))
        ∙ sym (map-append (root_cell e) (end_refs b) (refs_of qs))

    refs_end : (a b : End) → AlikeEnd (roots_of d) (roots_of e) a b → AllBelow (count d) (end_refs a)
        → AllBelow (count e) (end_refs b) → map (root_cell d) (end_refs a) ≡ map (root_cell e) (end_refs b)
    refs_end (under n) (under m) k l o = refs_alike n m k l o
    refs_end (under n) (leaf u) k l o = absurd k
    refs_end (leaf t) (under m) k l o = absurd k
    refs_end (leaf t) (leaf u) k l o = leaf_cells d t l ∙ ap cell_of k ∙ sym (leaf_cells e u o)

-- no successor is zero
pub suc_not : (n : ℕ) → suc n ≡ 0 → ⊥
suc_not n q = omega (arith, q)

-- the first root that is the cell
abbrev place_in : Nodes → ℕ → ℕ
place_in no_nodes c = 0
place_in (more n ns) c = if nat_eq (number n) c then 0 else suc (place_in ns c)

-- the leaf that a value is
abbrev pub leaf_of : Nodes → Value → Target
leaf_of d NullValue = Null
leaf_of d UninitValue = Uninit
leaf_of d DanglingValue = Dangling
leaf_of d (Cell c) = At (place_in d c)

-- a root in range is one of the cells
in_roots : (d : Nodes) (k : ℕ) → k < count d → IsIn (root_cell d k) (all_numbers d)
in_roots no_nodes k l = absurd (not-suc-le-zero l)
in_roots (more n ns) zero l = in_left (number n) (numbers n) (all_numbers ns) (top_in n)
in_roots (more n ns) (suc k) l = in_right (root_cell ns k) (numbers n) (all_numbers ns)
    (in_roots ns k (le_of_suc-le-suc l))

-- a root in range is found again by its cell
placed_at : (d : Nodes) → IsDistinct (all_numbers d) → (k : ℕ) → k < count d → place_in d (root_cell d k) ≡ k
placed_at no_nodes a k l = absurd (not-suc-le-zero l)
placed_at (more n ns) a zero l = let q : nat_eq (number n) (number n) ≡ true = eq-eqb (number n) (number n) refl in
    rw q refl
placed_at (more n ns) a (suc k) l = here (nat_eq (number n) (root_cell ns k)) refl
    (placed_at ns (differ_right (numbers n) (all_numbers ns) a) k (le_of_suc-le-suc l))
  where
    here : (b : Bool) → nat_eq (number n) (root_cell ns k) ≡ b → place_in ns (root_cell ns k) ≡ k
        → (if b then 0 else suc (place_in ns (root_cell ns k))) ≡ suc k
    here true q w = absurd (none_in_both (number n) (numbers n) (all_numbers ns) a (top_in n)
        (subst (λ (c : ℕ). IsIn c (all_numbers ns)) (sym (eqb-true (number n) (root_cell ns k) q))
        (in_roots ns k (le_of_suc-le-suc l))))
    here false q w = ap (λ j. suc j) w

-- a target in range is found again by its value
pub leaf_back : (d : Nodes) → IsDistinct (all_numbers d) → (t : Target) → AllBelow (count d) (leaf_refs t)
    → leaf_of d (value_in (roots_of d) t) ≡ t
leaf_back d a Null l = refl
leaf_back d a Uninit l = refl
leaf_back d a Dangling l = refl
leaf_back d a (At k) l = rw (in_range d k l.0) (ap At (placed_at d a k l.0))

-- with one order of the roots, alike trees are equal
module _ (d e : Nodes) (a : IsDistinct (all_numbers d)) (one : roots_of d ≡ roots_of e)
    (many : count d ≡ count e) where
  equal_leaf : (t u : Target) → AllBelow (count d) (leaf_refs t) → AllBelow (count e) (leaf_refs u)
      → value_in (roots_of d) t ≡ value_in (roots_of e) u → t ≡ u
  equal_leaf t u l m v =
      let m' : AllBelow (count d) (leaf_refs u) = subst (λ (n : ℕ). AllBelow n (leaf_refs u)) (sym many) m in
      let v' : value_in (roots_of d) t ≡ value_in (roots_of d) u = subst
      (λ (vs : List Value). value_in (roots_of d) t ≡ value_in vs u) (sym one) v in
      sym (leaf_back d a t l) ∙ ap (leaf_of d) v' ∙ leaf_back d a u m'

  mutual
    pub equal_tree : (x z : Node) → Alike (roots_of d) (roots_of e) x z → AllBelow (count d) (refs x)
        → AllBelow (count e) (refs z) → x ≡ z
    equal_tree (node c s ds ps) (node c' s' ds' qs) k l m =
        let p : ps ≡ qs = equal_parts ps qs k.3 l m in
        ap₂ (λ (i j : ℕ). node i j ds ps) k.0 k.1 ∙ ap₂ (λ (y : List Datum) (w : Parts). node c' s' y w) k.2 p

    equal_parts : (ps qs : Parts) → AlikeParts (roots_of d) (roots_of e) ps qs → AllBelow (count d) (refs_of ps)
        → AllBelow (count e) (refs_of qs) → ps ≡ qs
    equal_parts no_parts no_parts k l m = refl
    equal_parts no_parts (field f b qs) k l m = absurd k
    equal_parts no_parts (link o inside b qs) k l m = absurd k
    equal_parts no_parts (hook o inside qs) k l m = absurd k
    equal_parts (field f x ps) no_parts k l m = absurd k
    equal_parts (field f x ps) (link o inside b qs) k l m = absurd k
    equal_parts (field f x ps) (hook o inside qs) k l m = absurd k
    equal_parts (link o inside x ps) qs k l m = absurd k
    equal_parts (hook o inside ps) qs k l m = absurd k
    equal_parts (field f x ps) (field f' b qs) k l m =
        let w : x ≡ b = equal_end x b k.1 (below_left (count d) (end_refs x) (refs_of ps) l)
        (below_left (count e) (end_refs b) (refs_of qs) m) in
        let q : ps ≡ qs = equal_parts ps qs k.2 (below_right (count d) (end_refs x) (refs_of ps) l)
        (below_right (count e) (end_refs b) (refs_of qs) m) in
        ap (λ (i : ℕ). field i x ps) k.0 ∙ ap₂ (field f') w q

    equal_end : (x b : End) → AlikeEnd (roots_of d) (roots_of e) x b → AllBelow (count d) (end_refs x)
        → AllBelow (count e) (end_refs b) → x ≡ b
    equal_end (under n) (under m) k l o = ap under (equal_tree n m k l o)
    equal_end (under n) (leaf u) k l o = absurd k
    equal_end (leaf t) (under m) k l o = absurd k
    equal_end (leaf t) (leaf u) k l o = ap leaf (equal_leaf t u l o k)

-- roots in range have cells of their own
pub roots_apart : (d : Nodes) → IsDistinct (all_numbers d) → (i j : ℕ) → i < count d → j < count d
    → root_cell d i ≡ root_cell d j → i ≡ j
roots_apart d a i j l m q = sym (placed_at d a i l) ∙ ap (place_in d) q ∙ placed_at d a j m
