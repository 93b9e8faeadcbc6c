-- The facts of a dressed forest are those of its cells, in whatever trees they stand.
use Rattle.std.proofs.Common.{ℕ, List, [], ◌∷◌, ◌++◌, append_assoc, flat_map, ◌∙◌}
use Rattle.fore_base.specs.declared.store.Value.{Value}
use Rattle.fore_base.specs.declared.store.Value.TheVariants.{Cell}
use Rattle.fore_base.specs.declared.store.Store.{Store}
use Rattle.fore_base.specs.declared.shape.Shape.{Shape}
use Rattle.fa_core.specs.declared.forest.Forest.{Forest}
use Rattle.fa_core.specs.declared.boxes.BoxDef.{BoxDef}
use Rattle.fa_core.specs.Dressed.{Node, Parts, End, Nodes, node, no_parts, field, link, hook, under, leaf, no_nodes}
use Rattle.fa_core.specs.Dressed.{more, Fact, Head, Points, facts, tree_facts, slot_facts, end_facts, forest_facts}
use Rattle.fa_core.specs.Dressed.{with_ports, end_value, Seen, SeenField, SeenLink, SeenHook, SeenCell, seen, cells}
use Rattle.fa_core.specs.Dressed.{tree_cells, below, end_cells, forest_cells, roots_of}
use Rattle.fore_base.specs.Lists.{IsIn}
use Rattle.fa_core.specs.Member.{StandsBy, Stands, Regroups, RegroupsInto, Regrouping}
use Rattle.fa_core.specs.Rearranged.{Rearranged, empty, keep, chain}
use Rattle.fa_core.proofs.Rearranging.{back, after, both, exchange, flat_map-append, flat_mapped}

-- the facts of one slot alone
abbrev pub own_slot : ℕ → Seen → List Fact
own_slot c (SeenField f v) = Points c f v ∷ []
own_slot c (SeenLink b inside v) = forest_facts (with_ports (Cell c ∷ (v ∷ [])) inside) (Cell c ∷ (v ∷ [])) inside
own_slot c (SeenHook b inside) = forest_facts (with_ports (Cell c ∷ []) inside) (Cell c ∷ []) inside

-- the facts of one cell alone
abbrev pub own : SeenCell → List Fact
own x = Head x.cell x.shape x.datums ∷ flat_map (own_slot x.cell) x.slots

-- what stands below goes behind what the slots themselves give
gather : (e s a e' b : List Fact) → Rearranged e e' → Rearranged s (a ++ b) → Rearranged (e ++ s) (a ++ (e' ++ b))
gather e s a e' b p q = chain (both p q) (exchange e' a b)

mutual
  tree_same : (vs : List Value) (n : Node) → Rearranged (tree_facts vs n) (flat_map own (tree_cells vs n))
  tree_same vs (node c s ds ps) = keep (Head c s ds) (slots_same vs c ps)

  slots_same : (vs : List Value) (c : ℕ) (ps : Parts)
      → Rearranged (slot_facts vs c ps) (flat_map (own_slot c) (seen vs ps) ++ flat_map own (below vs ps))
  slots_same vs c no_parts = empty
  slots_same vs c (field f e ps) =
      keep (Points c f (end_value vs e))
      (rw (flat_map-append own (end_cells vs e) (below vs ps)) (gather _ _ _ _ _ (end_same vs e) (slots_same vs c ps)))
  slots_same vs c (link b inside e ps) =
      let i = forest_facts (with_ports (Cell c ∷ (end_value vs e ∷ [])) inside) (Cell c ∷ (end_value vs e ∷ [])) inside
      in
      rw (
        flat_map-append own (end_cells vs e) (below vs ps),
        append_assoc i (flat_map (own_slot c) (seen vs ps))
            (flat_map own (end_cells vs e) ++ flat_map own (below vs ps)),
      )
      (after i (gather _ _ _ _ _ (end_same vs e) (slots_same vs c ps)))
  slots_same vs c (hook b inside ps) =
      let i = forest_facts (with_ports (Cell c ∷ []) inside) (Cell c ∷ []) inside in
      rw (append_assoc i (flat_map (own_slot c) (seen vs ps)) (flat_map own (below vs ps)))
      (after i (slots_same vs c ps))

  end_same : (vs : List Value) (e : End) → Rearranged (end_facts vs e) (flat_map own (end_cells vs e))
  end_same vs (under n) = tree_same vs n
  end_same vs (leaf t) = empty

trees_same : (vs : List Value) (d : Nodes) → Rearranged (forest_facts vs [] d) (flat_map own (forest_cells vs d))
trees_same vs no_nodes = empty
trees_same vs (more n ns) =
    rw (flat_map-append own (tree_cells vs n) (forest_cells vs ns)) (both (tree_same vs n) (trees_same vs ns))

-- the facts are those of the cells
pub facts_same : (d : Nodes) → Rearranged (facts d) (flat_map own (cells d))
facts_same d = trees_same (roots_of d) d

-- the same cells have the same facts
pub facts_follow : (d e : Nodes) → Rearranged (cells d) (cells e) → Rearranged (facts d) (facts e)
facts_follow d e r = chain (facts_same d) (chain (flat_mapped own r) (back (facts_same e)))

module _ (hs : List Shape) (T : List BoxDef) (F G : Forest) where
  -- a store for which G stands by a dressed forest is one for which F stands by its regrouping
  pub stands_regrouped : (s : Store) (d e : Nodes) → StandsBy hs T G d s → Regrouping T F G d e → StandsBy hs T F e s
  stands_regrouped s d e h r =
      record {
        proper = h.proper;
        fields = h.fields;
        of = r.of;
        same_facts = chain (back (facts_follow d e r.same_cells)) h.same_facts;
        vars = h.vars ∙ r.vars;
        data_vars =
            h.data_vars ∙ r.data_vars;
      }

  pub members_regrouped : Regroups T F G → (s : Store) → Stands hs T G s → Stands hs T F s
  members_regrouped w s h =
      let p = w h.0 h.1.of in
      (p.0, stands_regrouped s h.0 p.0 h.1 p.1)

-- each member of F is one of some forest into which it is regrouped
pub members_split : (hs : List Shape) (T : List BoxDef) (F : Forest) (Gs : List Forest) → RegroupsInto T F Gs
    → (s : Store) → Stands hs T F s → (G : Forest) × IsIn G Gs × Stands hs T G s
members_split hs T F Gs w s h =
    let p = w h.0 h.1.of in
    (p.0, p.1, (p.2.0, stands_regrouped hs T p.0 F s h.0 p.2.0 h.1 p.2.1))
