-- Unfolded forests have the same members, and each other cell and slot stays.
use Rattle.std.proofs.Common.{◌≡◌, ℕ, List, ◌∷◌, ◌++◌, map, flat_map, sym, ◌∙◌}
use Rattle.fore_base.specs.Lists.{IsIn}
use Rattle.fore_base.specs.declared.shape.Shape.{Shape}
use Rattle.fore_base.specs.declared.store.Store.{Store}
use Rattle.fore_base.specs.declared.store.Value.{Value}
use Rattle.fa_core.specs.declared.boxes.BoxDef.{BoxDef}
use Rattle.fa_core.specs.declared.forest.Forest.{Forest}
use Rattle.fa_core.specs.Dressed.{Node, Parts, End, Nodes, node, no_parts, field, link, hook, under, leaf, no_nodes}
use Rattle.fa_core.specs.Dressed.{more, end_value, SeenField, SeenLink, SeenHook, SeenCell, seen, cells, tree_cells}
use Rattle.fa_core.specs.Dressed.{below, end_cells, forest_cells, roots_of, value_in, facts}
use Rattle.fa_core.specs.Member.{OfForest, Stands, StandsBy}
use Rattle.fa_core.specs.Rearranged.{Rearranged, empty, keep, chain}
use Rattle.fa_core.proofs.Rearranging.{back, both, exchange, flat_map-append, flat_mapped}
use Rattle.fa_unfold.specs.Opens.{Item, IsCell, HasSlot, tree_items, slot_items, end_items, forest_items, items, Opens}
use Rattle.fa_unfold.specs.Unfolded.{UnfoldsFrom, UnfoldsInto}
use Rattle.fa_unfold.proofs.Opening.{opens_facts}

-- Items are those of the cells, one after the other.

abbrev pub cell_items : SeenCell → List Item
cell_items x = IsCell x.cell x.shape x.datums ∷ map (HasSlot x.cell) x.slots

gather : (e s a f b : List Item) → Rearranged e f → Rearranged s (a ++ b) → Rearranged (e ++ s) (a ++ (f ++ b))
gather e s a f b p q = chain (both p q) (exchange f a b)

mutual
  tree_same : (vs : List Value) (n : Node) → Rearranged (tree_items vs n) (flat_map cell_items (tree_cells vs n))
  tree_same vs (node c s ds ps) = keep (IsCell c s ds) (slots_same vs c ps)

  slots_same : (vs : List Value) (c : ℕ) (ps : Parts) → Rearranged (slot_items vs c ps)
      (map (HasSlot c) (seen vs ps) ++ flat_map cell_items (below vs ps))
  slots_same vs c no_parts = empty
  slots_same vs c (field f e ps) =
      keep (HasSlot c (SeenField f (end_value vs e)))
      (rw (flat_map-append cell_items (end_cells vs e) (below vs ps))
      (gather _ _ _ _ _ (end_same vs e) (slots_same vs c ps)))
  slots_same vs c (link b i e ps) =
      keep (HasSlot c (SeenLink b i (end_value vs e)))
      (rw (flat_map-append cell_items (end_cells vs e) (below vs ps))
      (gather _ _ _ _ _ (end_same vs e) (slots_same vs c ps)))
  slots_same vs c (hook b i ps) = keep (HasSlot c (SeenHook b i)) (slots_same vs c ps)

  end_same : (vs : List Value) (e : End) → Rearranged (end_items vs e) (flat_map cell_items (end_cells vs e))
  end_same vs (under n) = tree_same vs n
  end_same vs (leaf t) = empty

trees_same : (vs : List Value) (d : Nodes) → Rearranged (forest_items vs d) (flat_map cell_items (forest_cells vs d))
trees_same vs no_nodes = empty
trees_same vs (more n ns) =
    rw (flat_map-append cell_items (tree_cells vs n) (forest_cells vs ns)) (both (tree_same vs n) (trees_same vs ns))

pub cells_items : (d : Nodes) → Rearranged (items d) (flat_map cell_items (cells d))
cells_items d = trees_same (roots_of d) d

-- regrouped forests have the same items
pub items_regrouped : (d e : Nodes) → Rearranged (cells d) (cells e) → Rearranged (items d) (items e)
items_regrouped d e r = chain (cells_items d) (chain (flat_mapped cell_items r) (back (cells_items e)))

-- so a box edge may be opened after a regrouping
pub opens_regrouped : (x : Item) (d k e : Nodes) → Rearranged (cells d) (cells k) → Opens x k e → Opens x d e
opens_regrouped x d k e r o =
    record {
      others = o.others;
      gained = o.gained;
      before = chain (items_regrouped d k r) o.before;
      after = o.after;
      same = o.same;
      inner = o.inner;
    }

-- and before one
pub regrouped_opens : (x : Item) (d e k : Nodes) → Opens x d e → Rearranged (cells e) (cells k) → Opens x d k
regrouped_opens x d e k o r =
    record {
      others = o.others;
      gained = o.gained;
      before = o.before;
      after = chain (back (items_regrouped e k r)) o.after;
      same = o.same;
      inner = o.inner;
    }

-- Members.

-- a store for which F stands by d is one for which G stands by e, where d and e say the same
pub stands_again : (hs : List Shape) (T : List BoxDef) (F G : Forest) (d e : Nodes) (s : Store) → StandsBy hs T F d s
    → OfForest T G e → Rearranged (facts e) (facts d)
    → map (value_in (roots_of d)) F.vars ≡ map (value_in (roots_of e)) G.vars → F.data_vars ≡ G.data_vars
    → StandsBy hs T G e s
stands_again hs T F G d e s h of same targets values = record {
  proper = h.proper;
  fields = h.fields;
  of = of;
  same_facts = chain same h.same_facts;
  vars = h.vars ∙ targets;
  data_vars = h.data_vars ∙ values;
}

module _ (hs : List Shape) (T : List BoxDef) (F : Forest) (root slot : ℕ) where
  -- none is lost
  pub members_into : (Gs : List Forest) → UnfoldsInto T F root slot Gs → (s : Store) → Stands hs T F s
      → (G : Forest) × IsIn G Gs × Stands hs T G s
  members_into Gs u s h =
      let w = u h.0 h.1.of in
      let o = w.2.2 in (
        w.0,
        w.1,
        (
          w.2.0,
          stands_again hs T F w.0 h.0 w.2.0 s h.1 w.2.1 (back (opens_facts o.edge h.0 w.2.0 o.opens)) o.vars
              o.data_vars,
        ),
      )

  -- none is new
  pub members_from : (G : Forest) → UnfoldsFrom T F root slot G → (s : Store) → Stands hs T G s → Stands hs T F s
  members_from G u s h =
      let w = u h.0 h.1.of in
      let o = w.2 in (
        w.0,
        stands_again hs T G F h.0 w.0 s h.1 w.1 (opens_facts o.edge w.0 h.0 o.opens) (sym o.vars) (sym o.data_vars),
      )
