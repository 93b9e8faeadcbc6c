-- The cell of a root is reached exactly where the root is met.
use Rattle.std.proofs.Common.{◌≡◌, ◌⊎◌, inl, inr, ℕ, suc, true, false, List, [], ◌∷◌, ◌++◌, map}
use Rattle.std.proofs.Common.{refl, sym, ap, subst, ◌∙◌, Option, Some, None}
use Rattle.std.proofs.lemmas.Bool.{cases_Bool}
use Rattle.fore_base.specs.Lists.{IsIn, IsDistinct}
use Rattle.fore_base.specs.declared.store.Value.{Value}
use Rattle.fore_base.specs.declared.store.Value.TheVariants.{Null as NullValue, Uninit as UninitValue}
use Rattle.fore_base.specs.declared.store.Value.TheVariants.{Dangling as DanglingValue, Cell}
use Rattle.fore_base.proofs.ListLemmas.{in_left, in_right, in_append, in_map, every_in}
use Rattle.fa_core.specs.declared.faces.BoxFace.{BoxFace}
use Rattle.fa_core.specs.declared.forest.Target.{Target}
use Rattle.fa_core.specs.declared.forest.Target.TheVariants.{Null, Uninit, Dangling, At}
use Rattle.fa_core.specs.Boxes.{Reaches, head_of, heads}
use Rattle.fa_core.specs.Choices.{numbers, all_numbers, bares}
use Rattle.fa_core.specs.Dressed.{Node, End, Nodes, under, leaf, no_nodes, more, Fact, Points, facts}
use Rattle.fa_core.specs.Dressed.{end_value, value_in, nth_value, roots_of, number}
use Rattle.fa_core.specs.Rearranged.{Rearranged}
use Rattle.fa_core.proofs.Permuted.{none_in_both, in_rearranged, distinct_moved}
use Rattle.fa_core.proofs.Rearranging.{back, flat_mapped, flat_map-append}
use Rattle.fa_back.specs.Reached.{RootReached}
use Rattle.fa_back.specs.Reached.{node_at}
use Rattle.fa_back.specs.inner.Hops.{Edge, Hops, forest_own, forest_edges}
use Rattle.fa_back.proofs.Apart.{forest_apart, forest_numbers, inner, in_inner, inner_in, heads_in, one_edge, head_edge}
use Rattle.fa_back.proofs.FactParts.{same_or_not, in_all, number_of, no_cell, node_root, root_node, var_target}
use Rattle.fa_back.proofs.Hopping.{Meets, IsOuter, CellMet, hops_reached, reached_hops, within}
use Rattle.fa_back.proofs.HopsMet.{hops_met}
use Rattle.fa_back.proofs.MetHops.{met_hops, own_at, edges_at}
use Rattle.fa_back.proofs.Sites.{Site, site, child_of, num, forest_sites, forest_nums, forest_child, node_ends}
use Rattle.fa_back.proofs.Sites.{own_forest, edge_forest}
use Rattle.fa_back.proofs.WaysUp.{hop_tree}

-- what a box edge is worth: all of its inside from the upper cell, and the upper cell from the lower end exactly if its
-- box leads back
pub record EdgeSound (x : Edge) : Type 0 where
  pub reached : (n : ℕ) → IsIn n (heads x.facts) ⊎ (x.output ≡ Cell n) → Reaches (Cell x.input ∷ []) x.facts n
  pub local : (m f n : ℕ) → IsIn (Points m f (Cell n)) x.facts → Meets x m × Meets x n
  pub cells : x.back ≡ true → (m : ℕ) × (x.output ≡ Cell m)
  pub up : x.back ≡ true → (m : ℕ) → x.output ≡ Cell m → Reaches (Cell m ∷ []) x.facts x.input
  pub never : x.back ≡ false → (m : ℕ) → x.output ≡ Cell m → IsDistinct (x.input ∷ (m ∷ heads x.facts))
      → Reaches (Cell m ∷ []) x.facts x.input → ⊥

differ_left : (xs ys : List ℕ) → IsDistinct (xs ++ ys) → IsDistinct xs
differ_left [] ys a = tt
differ_left (x ∷ xs) ys a = ((λ i. a.0 (in_left x xs ys i)), differ_left xs ys a.1)

differ_rest : (xs ys : List ℕ) → IsDistinct (xs ++ ys) → IsDistinct ys
differ_rest [] ys a = a
differ_rest (x ∷ xs) ys a = differ_rest xs ys a.1

differ_edge : (es : List Edge) (e : Edge) → IsIn e es → IsDistinct (heads (inner es)) → IsDistinct (heads e.facts)
differ_edge [] e i a = absurd i
differ_edge (x ∷ es) e (inl h) a = subst (λ (z : Edge). IsDistinct (heads z.facts)) (sym h)
    (differ_left (heads x.facts) (heads (inner es)) (rw (flat_map-append head_of x.facts (inner es)) at a))
differ_edge (x ∷ es) e (inr i) a = differ_edge es e i
    (differ_rest (heads x.facts) (heads (inner es)) (rw (flat_map-append head_of x.facts (inner es)) at a))

module _ (bs : List BoxFace) (targets : List Target) (d : Nodes)
    (sound : (x : Edge) → IsIn x (forest_edges bs (roots_of d) d) → EdgeSound x) where
  abbrev vs : List Value
  vs = roots_of d

  abbrev vars : List Value
  vars = map (value_in (roots_of d)) targets

  abbrev own : List Fact
  own = forest_own (roots_of d) d

  abbrev edges : List Edge
  edges = forest_edges bs (roots_of d) d

  pub kept : Rearranged (facts d) (own ++ inner edges)
  kept = forest_apart bs vs d

  abbrev Hop : ℕ → Type 0
  Hop = Hops vars own edges

  pub to_facts : (n : ℕ) → Hop n → Reaches vars (facts d) n
  to_facts = hops_reached vars (facts d) own edges
      (λ x i. in_rearranged x (back kept) (in_left x own (inner edges) i))
      (λ e i x j. in_rearranged x (back kept) (in_right x own (inner edges) (inner_in edges e x i j)))
      (λ e i n h. (sound e i).reached n (inr h))
      (λ e i b m h. (sound e i).up b m h)

  site_in : (s : Site) → IsIn s (forest_sites (λ i. i) d) → IsIn (num s) (all_numbers d)
  site_in s i = subst (λ (z : List ℕ). IsIn (num s) z) (forest_nums (λ i. i) d)
      (in_map num s (forest_sites (λ i. i) d) i)

  root_in : (k n : ℕ) → nth_value vs k ≡ Cell n → IsIn n (all_numbers d)
  root_in k n e = let x = root_node d k n e in in_all d k n x.0 x.1 x.2

  end_in : (s : Site) → IsIn s (forest_sites (λ i. i) d) → (o : Option ℕ) (e : End) (n : ℕ)
      → IsIn (o, e) (node_ends s.here) → end_value vs e ≡ Cell n → IsIn n (all_numbers d)
  end_in s i o (under u) n j e = subst (λ (z : ℕ). IsIn z (all_numbers d)) (ap number_of e)
      (site_in (site (child_of s.here) u) (forest_child (λ i. i) d s o u i j))
  end_in s i o (leaf Null) n j e = absurd (no_cell NullValue n e)
  end_in s i o (leaf Uninit) n j e = absurd (no_cell UninitValue n e)
  end_in s i o (leaf Dangling) n j e = absurd (no_cell DanglingValue n e)
  end_in s i o (leaf (At k)) n j e = root_in k n e

  input_in : (e : Edge) → IsIn e edges → IsIn e.input (all_numbers d)
  input_in e i = let o = edge_forest bs vs (λ i. i) d e i in rw (sym o.2) at (site_in o.0 o.1)

  output_in : (e : Edge) → IsIn e edges → (n : ℕ) → e.output ≡ Cell n → IsIn n (all_numbers d)
  output_in e i n h = let o = edge_forest bs vs (λ i. i) d e i in elim o.3 [
    | inl y ↦ end_in o.0 o.1 (Some y.0) y.1 n y.2 (sym y.3 ∙ h)
    | inr y ↦ absurd (no_cell DanglingValue n (sym y.0 ∙ h))
  ]

  -- the cell of a root that is met is reached
  pub met_reached : (r n : ℕ) → RootReached bs targets (bares d) r → nth_value (roots_of d) r ≡ Cell n
      → Reaches (map (value_in (roots_of d)) targets) (facts d) n
  met_reached r n h e = to_facts n (met_hops bs targets d (λ x i b. (sound x i).cells b) r h n e)

  -- where each root is met each cell is reached, those of insides with the others
  pub all_reached : ((r : ℕ) (x : Node) → node_at d r ≡ Some x → RootReached bs targets (bares d) r) → (n : ℕ)
      → IsIn n (heads (facts d)) → Reaches (map (value_in (roots_of d)) targets) (facts d) n
  all_reached met n i =
      let j = rw (flat_map-append head_of own (inner edges)) at (in_rearranged n (flat_mapped head_of kept) i) in
      elim (in_append n (heads own) (heads (inner edges)) j) [
        | inl k ↦ to_facts n (own_hop n (subst (λ (z : List ℕ). IsIn n z) (forest_numbers bs vs d) k))
        | inr k ↦ (let e = head_edge edges n k in
            within vars (facts d) e.0.facts e.0.input n
            (λ x l. in_rearranged x (back kept) (in_right x own (inner edges) (inner_in edges e.0 x e.1 l)))
            (to_facts e.0.input (own_hop e.0.input (input_in e.0 e.1))) ((sound e.0 e.1).reached n (inl e.2)))
      ]
    where
      some_tree : (f : Nodes) (n : ℕ) → IsIn n (all_numbers f) → (r : ℕ) × (x : Node) × (node_at f r ≡ Some x)
          × IsIn n (numbers x)
      some_tree no_nodes n i = absurd i
      some_tree (more y ns) n i = elim (in_append n (numbers y) (all_numbers ns) i) [
        | inl j ↦ (0, y, refl, j)
        | inr j ↦ (let k = some_tree ns n j in (suc k.0, k.1, k.2, k.3))
      ]

      own_hop : (n : ℕ) → IsIn n (all_numbers d) → Hop n
      own_hop n i =
          let t = some_tree d n i in
          let top = met_hops bs targets d (λ x i b. (sound x i).cells b) t.0 (met t.0 t.1 t.2) (number t.1)
          (node_root d t.0 t.1 t.2) in
          every_in Hop (numbers t.1) n (hop_tree bs vars own edges vs t.1 (own_at vs d t.0 t.1 t.2)
          (edges_at bs vs d t.0 t.1 t.2) top).0 t.3

  module _ (differ : IsDistinct (heads (facts d))) where
    all_differ : IsDistinct (all_numbers d ++ heads (inner edges))
    all_differ = subst (λ (z : List ℕ). IsDistinct (z ++ heads (inner edges))) (forest_numbers bs vs d)
        (rw (flat_map-append head_of own (inner edges)) at (distinct_moved (flat_mapped head_of kept) differ))

    numbers_differ : IsDistinct (all_numbers d)
    numbers_differ = differ_left (all_numbers d) (heads (inner edges)) all_differ

    inner_differ : IsDistinct (heads (inner edges))
    inner_differ = differ_rest (all_numbers d) (heads (inner edges)) all_differ

    abbrev Outer : ℕ → Type 0
    Outer = IsOuter vars (facts d) own edges

    outer : (n : ℕ) → IsIn n (all_numbers d) → Outer n
    outer n i e j h = none_in_both n (all_numbers d) (heads (inner edges)) all_differ i (heads_in edges e n j h)

    own_outer : (m f n : ℕ) → IsIn (Points m f (Cell n)) own → Outer m × Outer n
    own_outer m f n i =
        let o = own_forest bs vs (λ i. i) d m f n i in
        (outer m (rw (sym o.2) at (site_in o.0 o.1)), outer n (end_in o.0 o.1 None o.3.0 n o.3.1 o.3.2))

    vars_outer : (n : ℕ) → IsIn (Cell n) vars → Outer n
    vars_outer n i = let k = var_target vs targets n i in outer n (root_in k.0 n k.2)

    split : (m f n : ℕ) → IsIn (Points m f (Cell n)) (facts d) → IsIn (Points m f (Cell n)) own
        ⊎ ((e : Edge) × IsIn e edges × IsIn (Points m f (Cell n)) e.facts)
    split m f n i = elim (in_append (Points m f (Cell n)) own (inner edges)
        (in_rearranged (Points m f (Cell n)) kept i)) [
          | inl j ↦ inl j
          | inr j ↦ inr (in_inner edges (Points m f (Cell n)) j)
        ]

    backs : (e : Edge) → IsIn e edges → (k : ℕ) → e.output ≡ Cell k → Reaches (Cell k ∷ []) e.facts e.input
        → (e.back ≡ true) ⊎ (k ≡ e.input)
    backs e i k h w = elim (cases_Bool e.back) [
      | inl b ↦ inl b
      | inr b ↦ elim (same_or_not k e.input) [
        | inl x ↦ inr x
        | inr x ↦ absurd ((sound e i).never b k h (
          (λ y. elim y [ inl z ↦ x (sym z) | inr z ↦ outer e.input (input_in e i) e i z ]),
          ((λ z. outer k (output_in e i k h) e i z), differ_edge edges e i inner_differ),
        ) w)
      ]
    ]

    from_facts : (n : ℕ) → Reaches vars (facts d) n → CellMet vars (facts d) own edges n
    from_facts = reached_hops vars (facts d) own edges split (λ e i. (sound e i).local) own_outer vars_outer
        (λ e i. (outer e.input (input_in e i), λ n h. outer n (output_in e i n h))) (one_edge edges inner_differ) backs

    -- a root whose cell is reached is met
    pub reached_met : (r n : ℕ) → Reaches (map (value_in (roots_of d)) targets) (facts d) n → nth_value (roots_of d) r
        ≡ Cell n → RootReached bs targets (bares d) r
    reached_met r n h e = hops_met bs targets d numbers_differ r n e ((from_facts n h).0 (outer n (root_in r n e)))
