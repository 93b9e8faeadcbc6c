-- Where references are to roots that are there, each slot of a dressed forest ends at a cell of it, or at no cell.
use Rattle.std.proofs.Common.{◌<◌, inl, inr, ℕ, zero, suc, List, ◌++◌, refl}
use Rattle.std.proofs.Common.{not-suc-le-zero, le_of_suc-le-suc}
use Rattle.fore_base.specs.Lists.{IsIn, Every}
use Rattle.fore_base.specs.declared.store.Value.{Value}
use Rattle.fore_base.specs.declared.store.Value.TheVariants.{Null as NullValue, Uninit as UninitValue}
use Rattle.fore_base.specs.declared.store.Value.TheVariants.{Dangling as DanglingValue, Cell}
use Rattle.fore_base.proofs.ListLemmas.{every_append, in_left, in_right}
use Rattle.fa_core.specs.declared.forest.Target.{Target}
use Rattle.fa_core.specs.declared.forest.Target.TheVariants.{Null, Uninit, Dangling, At}
use Rattle.fa_core.specs.Choices.{all_numbers, count, end_numbers, numbers, numbers_of}
use Rattle.fa_core.specs.Dressed.{Node, Parts, End, Nodes, node, no_parts, field, link, hook, under, leaf, no_nodes}
use Rattle.fa_core.specs.Dressed.{more, number, Seen, SeenField, SeenLink, SeenHook, all_refs, end_refs, end_value}
use Rattle.fa_core.specs.Dressed.{nth_value, refs, refs_of, roots_of, value_in}
use Rattle.fa_core.specs.References.{AllBelow}
use Rattle.fa_core.proofs.Counts.{below_left, below_right}
use Rattle.fa_unfold.specs.Opens.{Item, IsCell, HasSlot, tree_items, slot_items, end_items, forest_items, items}

-- a value that names a cell names one of these
abbrev pub ValueIn : List ℕ → Value → Type 0
ValueIn ns NullValue = Unit {0}
ValueIn ns UninitValue = Unit {0}
ValueIn ns DanglingValue = Unit {0}
ValueIn ns (Cell m) = IsIn m ns

abbrev pub SeenIn : List ℕ → Seen → Type 0
SeenIn ns (SeenField f v) = ValueIn ns v
SeenIn ns (SeenLink b inside v) = ValueIn ns v
SeenIn ns (SeenHook b inside) = Unit {0}

-- each cell that the item names is one of these
abbrev pub ItemIn : List ℕ → Item → Type 0
ItemIn ns (IsCell c s ds) = IsIn c ns
ItemIn ns (HasSlot c x) = IsIn c ns × SeenIn ns x

module _ (ns : List ℕ) (vs : List Value) (m : ℕ) (roots : (k : ℕ) → k < m → ValueIn ns (nth_value vs k)) where
  leaf_in : (t : Target) → AllBelow m (end_refs (leaf t)) → ValueIn ns (value_in vs t)
  leaf_in Null l = tt
  leaf_in Uninit l = tt
  leaf_in Dangling l = tt
  leaf_in (At k) l = roots k l.0

  first_number : (n : Node) → ((k : ℕ) → IsIn k (numbers n) → IsIn k ns) → IsIn (number n) ns
  first_number (node c s ds ps) h = h c (inl refl)

  end_in : (e : End) → AllBelow m (end_refs e) → ((k : ℕ) → IsIn k (end_numbers e) → IsIn k ns)
      → ValueIn ns (end_value vs e)
  end_in (under n) l h = first_number n h
  end_in (leaf t) l h = leaf_in t l

  mutual
    tree_closed : (n : Node) → AllBelow m (refs n) → ((k : ℕ) → IsIn k (numbers n) → IsIn k ns)
        → Every (ItemIn ns) (tree_items vs n)
    tree_closed (node c s ds ps) l h =
        (h c (inl refl), slots_closed c (h c (inl refl)) ps l (λ k i. h k (inr i)))

    slots_closed : (c : ℕ) → IsIn c ns → (ps : Parts) → AllBelow m (refs_of ps)
        → ((k : ℕ) → IsIn k (numbers_of ps) → IsIn k ns) → Every (ItemIn ns) (slot_items vs c ps)
    slots_closed c here no_parts l h = tt
    slots_closed c here (field f e ps) l h =
        let a = below_left m (end_refs e) (refs_of ps) l in
        let b : (k : ℕ) → IsIn k (end_numbers e) → IsIn k ns =
        λ k i. h k (in_left k (end_numbers e) (numbers_of ps) i) in (
          (here, end_in e a b),
          every_append (ItemIn ns) (end_items vs e) (slot_items vs c ps) (end_closed e a b)
              (slots_closed c here ps (below_right m (end_refs e) (refs_of ps) l)
              (λ k i. h k (in_right k (end_numbers e) (numbers_of ps) i))),
        )
    slots_closed c here (link n inside e ps) l h =
        let a = below_left m (end_refs e) (refs_of ps) l in
        let b : (k : ℕ) → IsIn k (end_numbers e) → IsIn k ns =
        λ k i. h k (in_left k (end_numbers e) (numbers_of ps) i) in (
          (here, end_in e a b),
          every_append (ItemIn ns) (end_items vs e) (slot_items vs c ps) (end_closed e a b)
              (slots_closed c here ps (below_right m (end_refs e) (refs_of ps) l)
              (λ k i. h k (in_right k (end_numbers e) (numbers_of ps) i))),
        )
    slots_closed c here (hook n inside ps) l h = ((here, tt), slots_closed c here ps l h)

    end_closed : (e : End) → AllBelow m (end_refs e) → ((k : ℕ) → IsIn k (end_numbers e) → IsIn k ns)
        → Every (ItemIn ns) (end_items vs e)
    end_closed (under n) l h = tree_closed n l h
    end_closed (leaf t) l h = tt

  trees_closed : (d : Nodes) → AllBelow m (all_refs d) → ((k : ℕ) → IsIn k (all_numbers d) → IsIn k ns)
      → Every (ItemIn ns) (forest_items vs d)
  trees_closed no_nodes l h = tt
  trees_closed (more n d) l h =
      every_append (ItemIn ns) (tree_items vs n) (forest_items vs d)
      (tree_closed n (below_left m (refs n) (all_refs d) l) (λ k i. h k (in_left k (numbers n) (all_numbers d) i)))
      (trees_closed d (below_right m (refs n) (all_refs d) l) (λ k i. h k (in_right k (numbers n) (all_numbers d) i)))

root_in : (d : Nodes) (k : ℕ) → k < count d → ValueIn (all_numbers d) (nth_value (roots_of d) k)
root_in no_nodes k l = absurd (not-suc-le-zero l)
root_in (more (node c s ds ps) d) zero l = inl refl
root_in (more n d) (suc k) l =
    wider (nth_value (roots_of d) k) (root_in d k (le_of_suc-le-suc l))
  where
    wider : (v : Value) → ValueIn (all_numbers d) v → ValueIn (numbers n ++ all_numbers d) v
    wider NullValue h = tt
    wider UninitValue h = tt
    wider DanglingValue h = tt
    wider (Cell m) h = in_right m (numbers n) (all_numbers d) h

pub items_closed : (d : Nodes) → AllBelow (count d) (all_refs d) → Every (ItemIn (all_numbers d)) (items d)
items_closed d l = trees_closed (all_numbers d) (roots_of d) (count d) (root_in d) d l (λ k i. i)
