-- An inside whose output is Dangling: where each component is reached from the input by references and ways back, all
-- is reached.
use Rattle.std.proofs.Common.{◌≡◌, ◌⊎◌, inl, inr, ℕ, zero, suc, List, [], ◌∷◌, ◌++◌}
use Rattle.std.proofs.Common.{refl, sym, ap, subst, ◌∙◌, Some}
use Rattle.std.proofs.lemmas.Option.{same_Some}
use Rattle.fore_base.specs.Lists.{IsIn}
use Rattle.fore_base.specs.declared.store.Datum.{Datum}
use Rattle.fore_base.specs.declared.store.Value.{Value}
use Rattle.fore_base.specs.declared.store.Value.TheVariants.{Cell, Dangling as DanglingValue}
use Rattle.fore_base.proofs.ListLemmas.{in_left, in_right, in_append, every_in}
use Rattle.fa_core.specs.declared.faces.BoxFace.{BoxFace}
use Rattle.fa_core.specs.declared.forest.Target.{Target}
use Rattle.fa_core.specs.declared.forest.Target.TheVariants.{At}
use Rattle.fa_core.specs.Boxes.{Reaches, head_of, heads}
use Rattle.fa_core.specs.Choices.{numbers, numbers_of, end_numbers, all_numbers, bares}
use Rattle.fa_core.specs.Dressed.{Node, Parts, End, Nodes, node, no_parts, field, link, hook, under, leaf, no_nodes}
use Rattle.fa_core.specs.Dressed.{more, Fact, Head, slot_facts, forest_facts, nth_value, roots_of}
use Rattle.fa_core.specs.Dressed.{number, refs, inside_facts}
use Rattle.fa_core.specs.Rearranged.{Rearranged}
use Rattle.fa_core.proofs.Permuted.{in_rearranged}
use Rattle.fa_core.proofs.Rearranging.{back, flat_mapped, flat_map-append}
use Rattle.fa_back.specs.Reached.{RootReached}
use Rattle.fa_back.specs.Reached.{node_at}
use Rattle.fa_back.specs.inner.Hops.{Edge, Hops, hop_var, tree_own, part_own, tree_edges, part_edges}
use Rattle.fa_back.specs.inner.Hops.{end_edges, forest_own, forest_edges}
use Rattle.fa_back.proofs.Apart.{forest_apart, forest_numbers, parts_apart, part_numbers, join, inner, head_edge}
use Rattle.fa_back.proofs.Apart.{inner_in}
use Rattle.fa_back.proofs.FactParts.{node_root}
use Rattle.fa_back.proofs.Hopping.{hops_reached, within}
use Rattle.fa_back.proofs.MetHops.{met_open, own_at, edges_at}
use Rattle.fa_back.proofs.CellsReached.{EdgeSound}
use Rattle.fa_back.proofs.WaysUp.{hop_tree, hop_parts}

-- the inside as a forest of its own, whose first two roots carry the numbers of the ports
abbrev pub own_forest : ℕ → ℕ → (s t : ℕ) (ds es : List Datum) (ps qs : Parts) → Nodes → Nodes
own_forest c m s t ds es ps qs ns = more (node c s ds ps) (more (node m t es qs) ns)

some_tree : (f : Nodes) (n : ℕ) → IsIn n (all_numbers f) → (r : ℕ) × (x : Node) × (node_at f r ≡ Some x)
    × IsIn n (numbers x)
some_tree no_nodes n i = absurd i
some_tree (more y ns) n i = elim (in_append n (numbers y) (all_numbers ns) i) [
  | inl j ↦ (0, y, refl, j)
  | inr j ↦ (let k = some_tree ns n j in (suc k.0, k.1, k.2, k.3))
]

module _ (bs : List BoxFace) (vs : List Value) where
  mutual
    pub tree_input : (n : Node) (y : Edge) → IsIn y (tree_edges bs vs n) → IsIn y.input (numbers n)
    tree_input (node c s ds ps) y i = elim (parts_input c ps y i) [ inl h ↦ inl h | inr h ↦ inr h ]

    parts_input : (c : ℕ) (ps : Parts) (y : Edge) → IsIn y (part_edges bs vs c ps) → (y.input ≡ c)
        ⊎ IsIn y.input (numbers_of ps)
    parts_input c no_parts y i = absurd i
    parts_input c (field f e ps) y i = elim (in_append y (end_edges bs vs e) (part_edges bs vs c ps) i) [
      | inl j ↦ inr (in_left y.input (end_numbers e) (numbers_of ps) (end_input e y j))
      | inr j ↦ elim (parts_input c ps y j) [
        | inl h ↦ inl h
        | inr h ↦
            inr (in_right y.input (end_numbers e) (numbers_of ps) h)
      ]
    ]
    parts_input c (link b inside e ps) y (inl h) = inl (ap (λ (z : Edge). z.input) h)
    parts_input c (link b inside e ps) y (inr i) = elim (in_append y (end_edges bs vs e) (part_edges bs vs c ps) i) [
      | inl j ↦ inr (in_left y.input (end_numbers e) (numbers_of ps) (end_input e y j))
      | inr j ↦ elim (parts_input c ps y j) [
        | inl h ↦ inl h
        | inr h ↦
            inr (in_right y.input (end_numbers e) (numbers_of ps) h)
      ]
    ]
    parts_input c (hook b inside ps) y (inl h) = inl (ap (λ (z : Edge). z.input) h)
    parts_input c (hook b inside ps) y (inr i) = parts_input c ps y i

    end_input : (e : End) (y : Edge) → IsIn y (end_edges bs vs e) → IsIn y.input (end_numbers e)
    end_input (under n) y i = tree_input n y i
    end_input (leaf t) y i = absurd i

  forest_input : (d : Nodes) (y : Edge) → IsIn y (forest_edges bs vs d) → IsIn y.input (all_numbers d)
  forest_input no_nodes y i = absurd i
  forest_input (more n ns) y i = elim (in_append y (tree_edges bs vs n) (forest_edges bs vs ns) i) [
    | inl j ↦ in_left y.input (numbers n) (all_numbers ns) (tree_input n y j)
    | inr j ↦ in_right y.input (numbers n) (all_numbers ns) (forest_input ns y j)
  ]

-- the output has no slots, for the box gives it nothing
module _ (bs : List BoxFace) (m s t c : ℕ) (ds es : List Datum) (ps : Parts) (ns : Nodes) where
  abbrev d : Nodes
  d = own_forest c m s t ds es ps no_parts ns

  abbrev vs : List Value
  vs = Cell c ∷ (DanglingValue ∷ roots_of ns)

  abbrev own : List Fact
  own = Head c s ds ∷ (part_own vs c ps ++ forest_own vs ns)

  abbrev edges : List Edge
  edges = part_edges bs vs c ps ++ forest_edges bs vs ns

  abbrev fs : List Fact
  fs = inside_facts (Cell c ∷ (DanglingValue ∷ [])) d

  kept : Rearranged fs ((part_own vs c ps ++ forest_own vs ns) ++ inner edges)
  kept = join (part_own vs c ps) (forest_own vs ns) (part_edges bs vs c ps) (forest_edges bs vs ns) (slot_facts vs c ps)
      (forest_facts vs [] ns) (parts_apart bs vs c ps) (forest_apart bs vs ns)

  module _ (sound : (x : Edge) → IsIn x edges → EdgeSound x)
      (met : (r : ℕ) (x : Node) → node_at d r ≡ Some x → RootReached bs (At 0 ∷ []) (bares d) r) where
    abbrev Hop : ℕ → Type 0
    Hop = Hops (Cell c ∷ []) (Head c s ds ∷ (part_own vs c ps ++ forest_own vs ns)) edges

    root_value : (f : Nodes) (j : ℕ) (x : Node) → node_at f j ≡ Some x → nth_value (roots_of f) j ≡ Cell (number x)
    root_value = node_root

    tops : (j : ℕ) (x : Node) → node_at d j ≡ Some x
        → ((nth_value vs j ≡ Cell (number x)) × ((y : Fact) → IsIn y (tree_own vs x) → IsIn y own)
        × ((y : Edge) → IsIn y (tree_edges bs vs x) → IsIn y edges)) ⊎ (refs x ≡ [])
    tops zero x e = inl (subst (λ (z : Node). (Cell c ≡ Cell (number z))
        × ((y : Fact) → IsIn y (tree_own vs z) → IsIn y own)
        × ((y : Edge) → IsIn y (tree_edges bs vs z) → IsIn y edges)) (same_Some (node c s ds ps) x e) (
          refl,
          (λ y i. elim i [ inl h ↦ inl h | inr j ↦ inr (in_left y (part_own vs c ps) (forest_own vs ns) j) ]),
          (λ y i. in_left y (part_edges bs vs c ps) (forest_edges bs vs ns) i),
        ))
    tops (suc zero) x e = inr (subst (λ (z : Node). refs z ≡ []) (same_Some (node m t es no_parts) x e) refl)
    tops (suc (suc j)) x e = inl (
      root_value ns j x e,
      (λ y i. inr (in_right y (part_own vs c ps) (forest_own vs ns) (own_at vs ns j x e y i))),
      (λ y i. in_right y (part_edges bs vs c ps) (forest_edges bs vs ns) (edges_at bs vs ns j x e y i)),
    )

    start : (r n : ℕ) → IsIn (At r) (At 0 ∷ []) → nth_value vs r ≡ Cell n → IsIn (Cell n) (Cell c ∷ [])
    start r n (inl e) h = inl (sym h ∙ ap (nth_value vs) (ap index e))
      where
        index : Target → ℕ
        index (At k) = k
        index t = 0
    start r n (inr e) h = absurd e

    hops : (r : ℕ) → RootReached bs (At 0 ∷ []) (bares d) r → (n : ℕ) → nth_value vs r ≡ Cell n → Hop n
    hops = met_open bs (At 0 ∷ []) d (Cell c ∷ []) own edges vs (λ x i. (sound x i).cells) start tops

    -- heads are no pointers, so the head of the input is of no account
    pub reached_open : (n : ℕ) → IsIn n (heads fs) → Reaches (Cell c ∷ []) (Head c s ds ∷ fs) n
    reached_open n i =
        let j = rw (flat_map-append head_of (part_own vs c ps ++ forest_own vs ns) (inner edges)) at
        (in_rearranged n (flat_mapped head_of kept) i) in
        elim (in_append n (heads (part_own vs c ps ++ forest_own vs ns)) (heads (inner edges)) j) [
          | inl k ↦ to_facts n
              (elim (in_append n (heads (part_own vs c ps)) (heads (forest_own vs ns))
              (rw (flat_map-append head_of (part_own vs c ps) (forest_own vs ns)) at k)) [
                | inl l ↦ every_in Hop (numbers_of ps) n
                    (hop_parts bs (Cell c ∷ []) own edges vs c ps
                    (λ y z. inr (in_left y (part_own vs c ps) (forest_own vs ns) z))
                    (λ y z. in_left y (part_edges bs vs c ps) (forest_edges bs vs ns) z) (hop_var (inl refl))).0
                    (subst (λ (z : List ℕ). IsIn n z) (part_numbers bs vs c ps) l)
                | inr l ↦ tree_hop n (subst (λ (z : List ℕ). IsIn n z) (forest_numbers bs vs ns) l)
              ])
          | inr k ↦ (let e = head_edge edges n k in
              within (Cell c ∷ []) (Head c s ds ∷ fs) e.0.facts e.0.input n
              (λ y z. inr (in_rearranged y (back kept)
              (in_right y (part_own vs c ps ++ forest_own vs ns) (inner edges) (inner_in edges e.0 y e.1 z))))
              (to_facts e.0.input (input_hop e.0 e.1)) ((sound e.0 e.1).reached n (inl e.2)))
        ]
      where
        to_facts : (n : ℕ) → Hop n → Reaches (Cell c ∷ []) (Head c s ds ∷ fs) n
        to_facts = hops_reached (Cell c ∷ []) (Head c s ds ∷ fs) own edges
            (λ x i. elim i [
              | inl h ↦ inl h
              | inr j ↦
                  inr (in_rearranged x (back kept) (in_left x (part_own vs c ps ++ forest_own vs ns) (inner edges) j))
            ])
            (λ e i x j. inr (in_rearranged x (back kept)
            (in_right x (part_own vs c ps ++ forest_own vs ns) (inner edges) (inner_in edges e x i j))))
            (λ e i n h. (sound e i).reached n (inr h))
            (λ e i b m h. (sound e i).up b m h)

        tree_hop : (n : ℕ) → IsIn n (all_numbers ns) → Hop n
        tree_hop n i =
            let t = some_tree ns n i in
            let top = hops (suc (suc t.0)) (met (suc (suc t.0)) t.1 t.2) (number t.1) (root_value ns t.0 t.1 t.2) in
            every_in Hop (numbers t.1) n (hop_tree bs (Cell c ∷ []) own edges vs t.1
            (λ y z. inr (in_right y (part_own vs c ps) (forest_own vs ns) (own_at vs ns t.0 t.1 t.2 y z)))
            (λ y z. in_right y (part_edges bs vs c ps) (forest_edges bs vs ns) (edges_at bs vs ns t.0 t.1 t.2 y z))
            top).0 t.3

        input_hop : (e : Edge) → IsIn e edges → Hop e.input
        input_hop e i = elim (in_append e (part_edges bs vs c ps) (forest_edges bs vs ns) i) [
          | inl j ↦ elim (parts_input bs vs c ps e j) [
            | inl h ↦ rw h (hop_var (inl refl))
            | inr h ↦ every_in Hop (numbers_of ps) e.input
                (hop_parts bs (Cell c ∷ []) own edges vs c ps
                (λ y z. inr (in_left y (part_own vs c ps) (forest_own vs ns) z))
                (λ y z. in_left y (part_edges bs vs c ps) (forest_edges bs vs ns) z) (hop_var (inl refl))).0 h
          ]
          | inr j ↦ tree_hop e.input (forest_input bs vs ns e j)
        ]
