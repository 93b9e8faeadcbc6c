-- Forests with other leaves in the place of references, box edges or none: what their components keep.
use Rattle.std.proofs.Common.{◌≡◌, ℕ, ◌<◌, length, List, [], ◌∷◌, flat_map, sym, ap, subst, ◌∙◌}
use Rattle.fore_base.specs.Lists.{Every}
use Rattle.ta_core.specs.Auto.{Automaton, IsRanked}
use Rattle.ta_core.specs.Language.{InLanguage, RunOf}
use Rattle.ta_core.specs.declared.tree.Tree.{Tree}
use Rattle.fa_core.specs.declared.boxes.BoxDef.{BoxDef}
use Rattle.fa_core.specs.declared.faces.Face.{Face}
use Rattle.fa_core.specs.declared.forest.Forest.{Forest}
use Rattle.fa_core.specs.declared.forest.Target.{Target}
use Rattle.fa_core.specs.Dressed.{Node, End, Nodes, under, no_nodes, more, refs}
use Rattle.fa_core.specs.Filled.{IsFilled, HasSome, RulesFit}
use Rattle.fa_core.specs.Member.{TreesOf, InsidesOfEnd, Regroups, bare, bare_end}
use Rattle.fa_core.specs.Placed.{placed, placed_end, placed_auto}
use Rattle.fa_core.specs.References.{AllBelow}
use Rattle.fa_core.proofs.Dressing.{dress}
use Rattle.fa_core.proofs.FilledKept.{IsFormedTree, top_of_filled}
use Rattle.fa_core.proofs.NodeRuns.{EndRun, end_bare, bare_of_end}
use Rattle.fa_core.proofs.Placing.{in_placed, end_from, placed_ranked, placed_fit, refs_put, refs_placed}
use Rattle.fa_core.proofs.WaysOf.{tree_roots}
use Rattle.fa_back.proofs.Dressable.{some_choice}
use Rattle.fa_sound.specs.Components.{component_at}
use Rattle.fa_sound.proofs.ComponentLemmas.{component_got}
use Rattle.fa_leaves.proofs.Hollow.{hollow_table, rules_hollow, filled_dressed}
use Rattle.fa_merge.proofs.PlacedForests.{component_has, node_topped, topped_node}

module _ (face : Face) where
  -- each tree that runs, where the rules fit, is one without numbers and insides of an end
  pub end_of_run : (a : Automaton) → IsRanked a → RulesFit face a → (q : ℕ) (t : Tree) → RunOf a.rules q t → (e : End)
      × (bare_end e ≡ t) × EndRun a.rules q e × InsidesOfEnd (hollow_table face.boxes) e
  end_of_run a ranked fits q t h =
      let d = dress (hollow_table face.boxes) a.states a.rules ranked.1 (rules_hollow face a.rules fits) 0 h in
      (d.end, d.tree, bare_of_end a.rules q d.end (subst (λ (z : Tree). RunOf a.rules q z) (sym d.tree) h), d.insides)

  module _ (F : Forest) (filled : IsFilled face F) (full : Every HasSome F.autos)
      (ranked : Every IsRanked F.autos) where
    abbrev comp : ℕ → Automaton
    comp k = component_at F.autos k

    node_of_end : (k : ℕ) → k < length F.autos → (e : End) → InLanguage (component_at F.autos k) (bare_end e)
        → (n : Node) × (e ≡ under n)
    node_of_end k l e h =
        let t = top_of_filled face F filled full k (comp k) (bare_end e) (component_got F.autos k l) h in
        topped_node e t.0 t.1

    pub node_of_tree : (k : ℕ) → k < length F.autos → (t : Tree) → InLanguage (component_at F.autos k) t → (n : Node)
        × (bare n ≡ t)
    node_of_tree k l t h =
        let e = end_of_run (comp k) (component_has IsRanked F.autos k ranked l)
        (component_has (RulesFit face) F.autos k filled.rules l) h.0 t h.2 in
        let n = node_of_end k l e.0 (subst (λ (z : Tree). InLanguage (comp k) z) (sym e.1) h) in
        (n.0, sym (ap bare_end n.1) ∙ e.1)

    -- a tree with other leaves comes from one of the component
    pub put_before : (f : ℕ → Target) (k : ℕ) → k < length F.autos → (t : Tree)
        → InLanguage (placed_auto f (component_at F.autos k)) t
        → (n : Node) × InLanguage (component_at F.autos k) (bare n) × (bare (placed f n) ≡ t)
    put_before f k l t h =
        let r = component_has IsRanked F.autos k ranked l in
        let p = component_has (RulesFit face) F.autos k filled.rules l in
        let e = end_of_run (placed_auto f (comp k)) (placed_ranked f (comp k) r)
        (placed_fit f face (comp k) p) h.0 t h.2 in
        let m = end_from f (hollow_table face.boxes) (comp k).rules h.0 e.0 e.2 e.3 in
        let in_comp : InLanguage (comp k) (bare_end m.0) = (h.0, h.1, end_bare (comp k).rules h.0 m.0 m.2) in
        let n = node_of_end k l m.0 in_comp in (
          n.0,
          subst (λ (z : End). InLanguage (comp k) (bare_end z)) n.1 in_comp,
          sym (ap (λ (z : End). bare_end (placed_end f z)) n.1) ∙ ap bare_end m.1 ∙ e.1,
        )

    -- and is formed where the leaves name roots below n
    pub put_formed : (f : ℕ → Target) (n k : ℕ) → k < length F.autos
        → ((m : Node) → InLanguage (component_at F.autos k) (bare m) → AllBelow n (flat_map (refs_put f) (refs m)))
        → (t : Tree)
        → InLanguage (placed_auto f (component_at F.autos k)) t → IsFormedTree n t
    put_formed f n k l low t h =
        let m = put_before f k l t h in
        subst (λ (z : Tree). IsFormedTree n z) m.2 (
          node_topped (placed f m.0),
          subst (λ (ks : List ℕ). AllBelow n ks) (sym (tree_roots (placed f m.0) ∙ refs_placed f m.0)) (low m.0 m.1),
        )

    pub put_some : (f : ℕ → Target) (k : ℕ) → k < length F.autos → HasSome (placed_auto f (component_at F.autos k))
    put_some f k l =
        let t = component_has HasSome F.autos k full l in
        let n = node_of_tree k l t.0 t.1 in
        (bare (placed f n.0), in_placed f (comp k) n.0 (subst (λ (z : Tree). InLanguage (comp k) z) (sym n.1) t.1))

    -- a dressed forest of it
    pub some_filled : (d : Nodes) × TreesOf (hollow_table face.boxes) F.autos d
    some_filled =
        let c = some_choice F.autos full in
        let d = filled_dressed face F 0 filled ranked c.0 c.1 in
        (d.nodes, d.of)

    -- a forest into which it is regrouped has a tree in each component
    pub full_kept : (G : Forest) → ((T : List BoxDef) → Regroups T G F) → Every HasSome G.autos
    full_kept G h =
        let d = some_filled in
        let e = h (hollow_table face.boxes) d.0 d.1 in
        all_some G.autos e.0 e.1.of
      where
        all_some : (autos : List Automaton) (d : Nodes) → TreesOf (hollow_table face.boxes) autos d
            → Every HasSome autos
        all_some [] d h = tt
        all_some (a ∷ autos) no_nodes h = absurd h
        all_some (a ∷ autos) (more n ns) h = ((bare n, h.0), all_some autos ns h.2)
