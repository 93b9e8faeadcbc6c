-- Where each root of a forest is reached, so is each root of a forest that is regrouped into it, for every box table:
-- hops
-- between cells look at no trees and at no insides.
use Rattle.std.proofs.Common.{◌≡◌, ◌⊎◌, inl, inr, ℕ, suc, true, true≢false, List, map}
use Rattle.std.proofs.Common.{refl}
use Rattle.std.proofs.Common.{sym, ap, subst, ◌∙◌, Some}
use Rattle.fore_base.specs.Lists.{IsIn, Every}
use Rattle.fore_base.specs.declared.store.Value.{Value}
use Rattle.fore_base.specs.declared.store.Value.TheVariants.{Cell}
use Rattle.fore_base.proofs.ListLemmas.{in_append, every_in, in_from_place}
use Rattle.ta_core.specs.Auto.{IsRanked}
use Rattle.ta_core.specs.declared.tree.Tree.{Tree}
use Rattle.fa_core.specs.declared.boxes.BoxDef.{BoxDef}
use Rattle.fa_core.specs.declared.faces.BoxFace.{BoxFace}
use Rattle.fa_core.specs.declared.faces.Face.{Face}
use Rattle.fa_core.specs.declared.forest.Forest.{Forest}
use Rattle.fa_core.specs.Boxes.{OutFits, head_of}
use Rattle.fa_core.specs.Boxless.{HasNoBoxes}
use Rattle.fa_core.specs.Choices.{bares, numbers, all_numbers}
use Rattle.fa_core.specs.Dressed.{Node, Parts, End, Nodes, node, no_parts, field, link, hook, under, leaf, no_nodes}
use Rattle.fa_core.specs.Dressed.{more}
use Rattle.fa_core.specs.Dressed.{end_value, value_in, roots_of, number}
use Rattle.fa_core.specs.Faces.{IsGiving}
use Rattle.fa_core.specs.Filled.{Choice, IsFilled, IsSound, face_of}
use Rattle.fa_core.specs.Member.{OfForest, Regroups}
use Rattle.fa_core.specs.Ways.{back_of, leads_through}
use Rattle.fa_core.proofs.Dressing.{choice_of, numbered_differ}
use Rattle.fa_core.proofs.Permuted.{in_rearranged}
use Rattle.fa_core.proofs.PlainNodes.{trees_no_edges}
use Rattle.fa_core.proofs.Rearranging.{back, flat_mapped}
use Rattle.fa_back.specs.Reached.{RootReached, node_at}
use Rattle.fa_back.specs.inner.Hops.{Edge, Hops, tree_edges, part_edges, end_edges, forest_own, forest_edges}
use Rattle.fa_back.proofs.Apart.{forest_numbers}
use Rattle.fa_back.proofs.Dressable.{some_choice}
use Rattle.fa_back.proofs.EdgesWorth.{LinksFit, PartsFit, EndFits, AllFit}
use Rattle.fa_back.proofs.FactParts.{node_root, top_in, in_all}
use Rattle.fa_back.proofs.HopsMet.{hops_met}
use Rattle.fa_back.proofs.LinksFit.{trees_ends, tops_long, fit_roots}
use Rattle.fa_back.proofs.MetHops.{HopsIn, met_hops, own_at, edges_at}
use Rattle.fa_back.proofs.StoreLaws.{no_edges}
use Rattle.fa_back.proofs.WaysUp.{hop_tree}
use Rattle.fa_merge.specs.Reached.{AreAllReached, IsLeastUnreached}
use Rattle.fa_leaves.proofs.Hollow.{hollow_table, filled_dressed}
use Rattle.fa_merge.proofs.LeaksDecided.{roots_decided}
use Rattle.fa_merge.proofs.RootTrees.{tree_there, tree_below}
use Rattle.fa_merge.proofs.SeenHops.{same_own, hops_moved}

-- An edge that leads back ends at a cell, where each face that leads back gives its output something. So it does where
-- there is no edge.

abbrev EndsAtCell : Edge → Type 0
EndsAtCell y = y.back ≡ true → (m : ℕ) × (y.output ≡ Cell m)

module _ (bs : List BoxFace) (giving : Every IsGiving bs) (vs : List Value) where
  link_ends : (b : ℕ) (x : BoxFace) (v : Value) → face_of bs b ≡ Some x → OutFits x v → back_of bs b ≡ true → (m : ℕ)
      × (v ≡ Cell m)
  link_ends b x v f (inl h) g = h
  link_ends b x v f (inr h) g =
      absurd (every_in IsGiving bs x giving (in_from_place bs b x f) (sym (ap leads_through f) ∙ g) h.1)

  mutual
    tree_ends : (n : Node) → LinksFit bs vs n → (y : Edge) → IsIn y (tree_edges bs vs n) → EndsAtCell y
    tree_ends (node c s ds ps) l y i = part_ends c ps l y i

    part_ends : (c : ℕ) (ps : Parts) → PartsFit bs vs ps → (y : Edge) → IsIn y (part_edges bs vs c ps) → EndsAtCell y
    part_ends c no_parts l y i = absurd i
    part_ends c (field f e ps) l y i = elim (in_append y (end_edges bs vs e) (part_edges bs vs c ps) i) [
      | inl j ↦ end_ends e l.0 y j
      | inr j ↦ part_ends c ps l.1 y j
    ]
    part_ends c (link b inside e ps) l y (inl h) =
        subst EndsAtCell (sym h) (link_ends b l.0.0 (end_value vs e) l.0.2 l.0.4)
    part_ends c (link b inside e ps) l y (inr i) = elim (in_append y (end_edges bs vs e) (part_edges bs vs c ps) i) [
      | inl j ↦ end_ends e l.1 y j
      | inr j ↦ part_ends c ps l.2 y j
    ]
    part_ends c (hook b inside ps) l y (inl h) = subst EndsAtCell (sym h) (λ g. absurd (true≢false (sym g)))
    part_ends c (hook b inside ps) l y (inr i) = part_ends c ps l.1 y i

    end_ends : (e : End) → EndFits bs vs e → (y : Edge) → IsIn y (end_edges bs vs e) → EndsAtCell y
    end_ends (under n) l y i = tree_ends n l y i
    end_ends (leaf t) l y i = absurd i

  forest_ends : (d : Nodes) → AllFit bs vs d → (y : Edge) → IsIn y (forest_edges bs vs d) → EndsAtCell y
  forest_ends no_nodes l y i = absurd i
  forest_ends (more n ns) l y i = elim (in_append y (tree_edges bs vs n) (forest_edges bs vs ns) i) [
    | inl j ↦ tree_ends n l.0 y j
    | inr j ↦ forest_ends ns l.1 y j
  ]

some_tree : (f : Nodes) (n : ℕ) → IsIn n (all_numbers f) → (r : ℕ) × (x : Node) × (node_at f r ≡ Some x)
    × IsIn n (numbers x)
some_tree no_nodes n i = absurd i
some_tree (more y ns) n i = elim (in_append n (numbers y) (all_numbers ns) i) [
  | inl j ↦ (0, y, refl, j)
  | inr j ↦ (let k = some_tree ns n j in (suc k.0, k.1, k.2, k.3))
]

-- Where each root is reached, hops lead to each cell.

module _ (face : Face) (T : List BoxDef) (F : Forest) (gives : Every IsGiving face.boxes ⊎ Every HasNoBoxes F.autos)
    (filled : IsFilled face F) (all : AreAllReached face F) (e : Nodes) (of : OfForest T F e) where
  choice : Choice F.autos (bares e)
  choice = choice_of T F.autos e of

  fit : AllFit face.boxes (roots_of e) e
  fit = let c = filled.trees (bares e) choice in
      fit_roots face c.tops e (tops_long e c.tops c.are) (trees_ends face c.tops (bares e) 0 e c.cells)

  ends : (y : Edge) → IsIn y (forest_edges face.boxes (roots_of e) e) → y.back ≡ true → (m : ℕ) × (y.output ≡ Cell m)
  ends y i = elim gives [
    | inl giving ↦ forest_ends face.boxes giving (roots_of e) e fit y i
    | inr plain ↦
        absurd
        (subst (λ (ys : List Edge). IsIn y ys)
        (no_edges face.boxes (roots_of e) e (trees_no_edges T F.autos e plain of)) i)
  ]

  pub cell_hop : (n : ℕ) → IsIn n (all_numbers e) → HopsIn face.boxes F.vars e n
  cell_hop n i =
      let t = some_tree e n i in
      let met = all t.0 (tree_below T F.autos e t.0 t.1 of t.2) (bares e) choice in
      let top = met_hops face.boxes F.vars e ends t.0 met (number t.1) (node_root e t.0 t.1 t.2) in
      every_in (HopsIn face.boxes F.vars e) (numbers t.1) n
      (hop_tree face.boxes (map (value_in (roots_of e)) F.vars) (forest_own (roots_of e) e)
      (forest_edges face.boxes (roots_of e) e) (roots_of e) t.1 (own_at (roots_of e) e t.0 t.1 t.2)
      (edges_at face.boxes (roots_of e) e t.0 t.1 t.2) top).0 t.3

module _ (face : Face) (F G : Forest) (gives : Every IsGiving face.boxes ⊎ Every HasNoBoxes F.autos)
    (filled : IsFilled face F) (filled_new : IsFilled face G) (ranked : Every IsRanked G.autos)
    (regroups : (T : List BoxDef) → Regroups T F G) where
  -- the law
  pub reached_kept : AreAllReached face F → AreAllReached face G
  reached_kept all r l us c =
      let T = hollow_table face.boxes in
      let d = filled_dressed face G 0 filled_new ranked us c in
      let e = regroups T d.nodes d.of in
      let x = tree_there T G.autos d.nodes r d.of l in
      let vs = roots_of d.nodes in
      let ws = roots_of e.0 in
      let there : IsIn (number x.0) (all_numbers e.0) =
      subst (λ (z : List ℕ). IsIn (number x.0) z) (forest_numbers face.boxes ws e.0)
      (in_rearranged (number x.0) (flat_mapped head_of (same_own face.boxes vs ws d.nodes e.0 e.1.same_cells))
      (subst (λ (z : List ℕ). IsIn (number x.0) z) (sym (forest_numbers face.boxes vs d.nodes))
      (in_all d.nodes r (number x.0) x.0 x.1 (top_in x.0)))) in
      let hop = hops_moved face.boxes ws vs e.0 d.nodes (back e.1.same_cells) (map (value_in ws) F.vars) (number x.0)
      (cell_hop face T F gives filled all e.0 e.1.of (number x.0) there) in
      subst (λ (ts : List Tree). RootReached face.boxes G.vars ts r) d.trees
      (hops_met face.boxes G.vars d.nodes (numbered_differ 0 (all_numbers d.nodes) d.cells) r (number x.0)
      (node_root d.nodes r x.0 x.1)
      (subst (λ (us : List Value). Hops us (forest_own vs d.nodes) (forest_edges face.boxes vs d.nodes) (number x.0))
      (sym e.1.vars) hop))

-- where the forests regroup each other and a root of the one is not reached, there is a least one of the other that is
-- not
pub unreached_kept : (face : Face) (F G : Forest) → Every IsGiving face.boxes ⊎ Every HasNoBoxes G.autos
    → IsSound face F → IsSound face G → Every IsRanked F.autos → ((T : List BoxDef) → Regroups T G F) → (r : ℕ)
    → IsLeastUnreached face F r → (k : ℕ)
    × IsLeastUnreached face G k
unreached_kept face F G gives sound sound_new ranked regroups r h = elim (roots_decided face G sound_new) [
  | inl all ↦ absurd
      (let c = some_choice F.autos sound.full in
      h.unreached c.0 c.1
      (reached_kept face G F gives sound_new.well_formed.filled sound.well_formed.filled ranked regroups all r h.root
      c.0 c.1))
  | inr k ↦ k
]
