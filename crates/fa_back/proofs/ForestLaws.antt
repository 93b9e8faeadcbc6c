-- Which cells of a dressed forest are reached by facts, by which of its roots are.
use Rattle.std.proofs.Common.{◌≡◌, inl, inr, ℕ, ◌<◌, List, [], ◌∷◌, map, refl, sym, ap, subst}
use Rattle.std.proofs.Common.{◌∙◌, Some, length}
use Rattle.fore_base.specs.Lists.{IsIn, Every, IsDistinct, Paired}
use Rattle.fore_base.specs.declared.store.Value.{Value}
use Rattle.fore_base.proofs.ListLemmas.{in_append, in_right, every_in, in_every, paired_long}
use Rattle.ta_core.specs.Auto.{Automaton}
use Rattle.ta_core.specs.declared.tree.Tree.{Tree}
use Rattle.fa_core.specs.declared.faces.BoxFace.{BoxFace}
use Rattle.fa_core.specs.declared.faces.Face.{Face}
use Rattle.fa_core.specs.declared.forest.Forest.{Forest}
use Rattle.fa_core.specs.declared.signature.RefMark.{RefMark}
use Rattle.fa_core.specs.declared.signature.Signature.{Signature}
use Rattle.fa_core.specs.Boxes.{Boxes, head_of, heads}
use Rattle.fa_core.specs.Canonical.{RefersTo}
use Rattle.fa_core.specs.Choices.{bares, numbers}
use Rattle.fa_core.specs.Dressed.{Node, Nodes, facts, roots_of, number, tree_facts, value_in}
use Rattle.fa_core.specs.Filled.{ChoiceFilled}
use Rattle.fa_core.specs.Ways.{signature, ways, mark}
use Rattle.fa_core.proofs.Dressing.{choice_of, choice_length}
use Rattle.fa_core.proofs.Permuted.{in_rearranged}
use Rattle.fa_core.proofs.Rearranging.{back, flat_mapped, flat_map-append}
use Rattle.fa_back.specs.Insides.{IsInside}
use Rattle.fa_back.specs.Reached.{RootReached, IsDressedBy, CellReached, node_at, IsSignedBy, AllNameBelow, NamesBelow}
use Rattle.fa_back.specs.Reached.{AreSignaturesOf}
use Rattle.fa_back.specs.inner.Hops.{Edge, Hops, tree_own, tree_edges, forest_own, forest_edges}
use Rattle.fa_back.proofs.Apart.{tree_apart, own_numbers, inner, inner_in, head_edge}
use Rattle.fa_back.proofs.RootMarks.{in_mark, reach_refers}
use Rattle.fa_back.proofs.CellsReached.{EdgeSound, kept, to_facts, reached_met, all_reached}
use Rattle.fa_back.proofs.EdgesWorth.{TableKnown, AllFit, forest_sound}
use Rattle.fa_back.proofs.FactParts.{node_root}
use Rattle.fa_back.proofs.Hopping.{within}
use Rattle.fa_back.proofs.LinksFit.{trees_ends, tops_long, fit_roots}
use Rattle.fa_back.proofs.MetHops.{met_hops, own_at, edges_at}
use Rattle.fa_back.proofs.Open.{tree_input}
use Rattle.fa_back.proofs.TablesKnown.{table_known}
use Rattle.fa_back.proofs.WaysUp.{hop_tree}

module _ (t : Boxes) (F : Forest) (d : Nodes) (h : IsDressedBy t F d) where
  abbrev bs : List BoxFace
  bs = t.face.boxes

  abbrev vs : List Value
  vs = roots_of d

  known : TableKnown t.face.boxes t.defs
  known = subst (λ (z : List BoxFace). TableKnown z t.defs) (sym h.table.faces)
      (table_known t.defs t.face.shapes h.table.sound)

  filled : ChoiceFilled t.face F (bares d)
  filled = h.filled.trees (bares d) (choice_of t.defs F.autos d h.of)

  fit : AllFit t.face.boxes (roots_of d) d
  fit = fit_roots t.face filled.tops d (tops_long d filled.tops filled.are)
      (trees_ends t.face filled.tops (bares d) 0 d filled.cells)

  pub sound : (x : Edge) → IsIn x (forest_edges t.face.boxes (roots_of d) d) → EdgeSound x
  sound = forest_sound t.face.boxes t.defs known (roots_of d) F.autos d h.of fit

  -- where each root is reached, each cell is
  pub roots_cells : ((r : ℕ) (x : Node) → node_at d r ≡ Some x → RootReached t.face.boxes F.vars (bares d) r) → (n : ℕ)
      → IsIn n (heads (facts d)) → CellReached F d n
  roots_cells = all_reached t.face.boxes F.vars d sound

  -- the cell of a root is reached where all cells differ only if the root is
  pub cell_root : IsDistinct (heads (facts d)) → (r : ℕ) (x : Node) → node_at d r ≡ Some x → CellReached F d (number x)
      → RootReached t.face.boxes F.vars (bares d) r
  cell_root differ r x e w = reached_met t.face.boxes F.vars d sound differ r (number x) w (node_root d r x e)

  module _ (r : ℕ) (x : Node) (e : node_at d r ≡ Some x) (met : RootReached t.face.boxes F.vars (bares d) r) where
    abbrev Hop : ℕ → Type 0
    Hop = Hops (map (value_in (roots_of d)) F.vars) (forest_own (roots_of d) d)
        (forest_edges t.face.boxes (roots_of d) d)

    down : Every (Hops (map (value_in (roots_of d)) F.vars) (forest_own (roots_of d) d)
        (forest_edges t.face.boxes (roots_of d) d)) (numbers x)
    down = (hop_tree t.face.boxes (map (value_in (roots_of d)) F.vars) (forest_own (roots_of d) d)
        (forest_edges t.face.boxes (roots_of d) d) (roots_of d) x (own_at (roots_of d) d r x e)
        (edges_at t.face.boxes (roots_of d) d r x e)
        (met_hops t.face.boxes F.vars d (λ y i b. (sound y i).cells b) r met (number x) (node_root d r x e))).0

    by_number : (n : ℕ) → IsIn n (numbers x) → CellReached F d n
    by_number n i = to_facts t.face.boxes F.vars d sound n
        (every_in (Hops (map (value_in (roots_of d)) F.vars) (forest_own (roots_of d) d)
        (forest_edges t.face.boxes (roots_of d) d)) (numbers x) n down i)

    -- where a root is reached, each cell of its tree is, those of the insides of its box edges with the others
    pub root_cells : (n : ℕ) → IsIn n (heads (tree_facts (roots_of d) x)) → CellReached F d n
    root_cells n i =
        let j = rw (flat_map-append head_of (tree_own (roots_of d) x) (inner (tree_edges t.face.boxes (roots_of d) x)))
        at (in_rearranged n (flat_mapped head_of (tree_apart t.face.boxes (roots_of d) x)) i) in
        elim (in_append n (heads (tree_own (roots_of d) x))
        (heads (inner (tree_edges t.face.boxes (roots_of d) x))) j) [
          | inl k ↦ by_number n (subst (λ (z : List ℕ). IsIn n z) (own_numbers t.face.boxes (roots_of d) x) k)
          | inr k ↦ (let y = head_edge (tree_edges t.face.boxes (roots_of d) x) n k in
              let there : IsIn y.0 (forest_edges t.face.boxes (roots_of d) d) =
              edges_at t.face.boxes (roots_of d) d r x e y.0 y.1 in
              within (map (value_in (roots_of d)) F.vars) (facts d) y.0.facts y.0.input n
              (λ z l. in_rearranged z (back (kept t.face.boxes F.vars d sound))
              (in_right z (forest_own (roots_of d) d) (inner (forest_edges t.face.boxes (roots_of d) d))
              (inner_in (forest_edges t.face.boxes (roots_of d) d) y.0 z there l)))
              (by_number y.0.input (tree_input t.face.boxes (roots_of d) x y.0 y.1))
              ((sound y.0 there).reached n (inl y.2)))
        ]

-- signatures of trees that refer to roots that are there name components alone
module _ (bs : List BoxFace) (n : ℕ) where
  tree_within : (t : Tree) (s : Signature) → IsSignedBy bs t s → ((k : ℕ) → RefersTo t k → k < n)
      → Every (NamesBelow n) s.refs
  tree_within t s e h = subst (λ (ms : List RefMark). Every (NamesBelow n) ms) e
      (in_every (NamesBelow n) (signature bs t) (λ m i. one m (in_mark bs t m i)))
    where
      one : (m : RefMark) → ((r : ℕ) × RefersTo t r × (m ≡ mark bs (ways t) r)) → NamesBelow n m
      one m k = (
        subst (λ (z : ℕ). z < n) (sym (ap (λ (z : RefMark). z.root) k.2)) (h k.0 k.1),
        in_every (λ j. j < n) m.reach
            (λ j i. h j (reach_refers bs t k.0 j (subst (λ (z : RefMark). IsIn j z.reach) k.2 i))),
      )

  pub signs_within : (ts : List Tree) (ss : List Signature) → Paired (IsSignedBy bs) ts ss
      → ((t : Tree) (k : ℕ) → IsIn t ts → RefersTo t k → k < n) → AllNameBelow n ss
  signs_within [] [] p h = tt
  signs_within [] (s ∷ ss) p h = absurd p
  signs_within (t ∷ ts) [] p h = absurd p
  signs_within (t ∷ ts) (s ∷ ss) p h = (
    tree_within t s p.0 (λ k w. h t k (inl refl) w),
    signs_within ts ss p.1 (λ u k i w. h u k (inr i) w),
  )

-- the signatures of the components of an inside are as many as these, and name these alone
pub inside_signs : (face : Face) (x : BoxFace) (autos : List Automaton) (ss : List Signature) → IsInside face x autos
    → AreSignaturesOf face.boxes autos ss → (length ss ≡ length autos) × AllNameBelow (length ss) ss
inside_signs face x autos ss inside s =
    let long : length s.trees ≡ length ss = paired_long (IsSignedBy face.boxes) s.trees ss s.signed in
    let fits = inside.fits s.trees s.choice in (
      sym long ∙ choice_length autos s.trees s.choice,
      signs_within face.boxes (length ss) s.trees ss s.signed
          (λ t k i w. subst (λ (n : ℕ). k < n) long (fits.refs t k i w)),
    )
