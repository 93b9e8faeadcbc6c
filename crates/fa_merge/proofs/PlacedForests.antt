-- Forests with other leaves in the place of references: what their components keep.
use Rattle.std.proofs.Common.{◌≡◌, ℕ, ◌<◌, length, List, [], ◌∷◌, map, flat_map, refl, sym, ap, subst, ◌∙◌}
use Rattle.fore_base.specs.Lists.{Every}
use Rattle.fore_base.proofs.ListLemmas.{every_in, in_from_place}
use Rattle.ta_core.specs.Auto.{Automaton, IsRanked}
use Rattle.ta_core.specs.Language.{InLanguage, RunOf}
use Rattle.ta_core.specs.declared.tree.Tree.{Tree}
use Rattle.fa_core.specs.declared.faces.BoxFace.{BoxFace}
use Rattle.fa_core.specs.declared.faces.Face.{Face}
use Rattle.fa_core.specs.declared.forest.Forest.{Forest}
use Rattle.fa_core.specs.declared.forest.Target.{Target}
use Rattle.fa_core.specs.Boxless.{HasNoBoxes}
use Rattle.fa_core.specs.Dressed.{Node, End, Nodes, node, under, leaf, no_nodes, more, refs, end_refs}
use Rattle.fa_core.specs.Filled.{IsFilled, IsTopped, HasSome, HasSignatures}
use Rattle.fa_core.specs.Member.{TreesOf, Regroups, bare, bare_end, slots_of}
use Rattle.fa_core.specs.Placed.{placed, placed_end, placed_rule, placed_auto}
use Rattle.fa_core.specs.References.{AllBelow, AreAlike, RefersAlike}
use Rattle.fa_core.proofs.Dressing.{dress, dress_all, rules_have_insides, boxless_have_insides, leaf_is_no_cell}
use Rattle.fa_core.proofs.Dressing.{IsCellSymbol, leaf_top, cell_top}
use Rattle.fa_core.proofs.FilledKept.{IsFormedTree, top_of_filled}
use Rattle.fa_core.proofs.NodeRuns.{EndRun, end_bare, bare_of_end}
use Rattle.fa_core.proofs.PlainNodes.{end_no_edges, no_insides_at}
use Rattle.fa_core.proofs.Placing.{in_placed, end_from, placed_ranked, placed_boxless, refs_put, refs_placed}
use Rattle.fa_core.proofs.Placing.{refs_placed_end}
use Rattle.fa_core.proofs.Uniform.{alike_ends, alike_tops, ends_refer_alike, signed_alike, alike_signed}
use Rattle.fa_core.proofs.WaysOf.{tree_roots}
use Rattle.fa_sound.specs.Components.{component_at}
use Rattle.fa_sound.proofs.ComponentLemmas.{component_got}
use Rattle.fa_merge.proofs.FlatAlike.{flat_alike}
use Rattle.fa_back.proofs.Dressable.{some_choice}

-- what each component has
pub component_has : (P : Automaton → Type 0) (autos : List Automaton) (k : ℕ) → Every P autos → k < length autos
    → P (component_at autos k)
component_has P autos k h l =
    every_in P autos (component_at autos k) h (in_from_place autos k (component_at autos k) (component_got autos k l))

pub node_topped : (n : Node) → (s : ℕ) × IsTopped s (bare n)
node_topped (node c s ds ps) = (s, (ds, slots_of ps, cell_top c s ds ps))

-- a tree with a cell at its top is no leaf
pub topped_node : (e : End) (s : ℕ) → IsTopped s (bare_end e) → (n : Node) × (e ≡ under n)
topped_node (under n) s h = (n, refl)
topped_node (leaf u) s h = absurd (leaf_is_no_cell u (subst IsCellSymbol (sym (sym (leaf_top u) ∙ h.2)) tt))

-- each tree that runs, where no rule has a box edge, is one without numbers of an end
pub run_end : (a : Automaton) → IsRanked a → HasNoBoxes a → (q : ℕ) (t : Tree) → RunOf a.rules q t → (e : End)
    × (bare_end e ≡ t) × EndRun a.rules q e
run_end a ranked plain q t h =
    let d = dress [] a.states a.rules ranked.1 (rules_have_insides [] a.rules plain) 0 h in
    (d.end, d.tree, bare_of_end a.rules q d.end (subst (λ (z : Tree). RunOf a.rules q z) (sym d.tree) h))

-- a run of an automaton with other leaves comes from one of the automaton
pub end_before : (f : ℕ → Target) (a : Automaton) → HasNoBoxes a → (q : ℕ) (e : End)
    → EndRun (map (placed_rule f) a.rules) q e → (m : End) × (placed_end f m ≡ e) × EndRun a.rules q m
end_before f a plain q e h =
    let k = end_from f [] a.rules q e h
    (no_insides_at [] e (end_no_edges (map (placed_rule f) a.rules) (placed_boxless f a plain) q e h)) in
    (k.0, k.1, k.2)

-- References stay alike.

module _ (f : ℕ → Target) (a : Automaton) (ranked : IsRanked a) (plain : HasNoBoxes a) where
  ends_placed : (y z : ℕ) (e u : End) → EndRun (map (placed_rule f) a.rules) y e
      → EndRun (map (placed_rule f) a.rules) z u
      → ((m n : End) → EndRun a.rules y m → EndRun a.rules z n → AreAlike (end_refs m) (end_refs n))
      → AreAlike (end_refs e) (end_refs u)
  ends_placed y z e u h k same =
      let m = end_before f a plain y e h in
      let n = end_before f a plain z u k in
      let alike = flat_alike (refs_put f) (end_refs m.0) (end_refs n.0) (same m.0 n.0 m.2 n.2) in
      subst (λ (xs : List ℕ). AreAlike xs (end_refs u)) (sym (refs_placed_end f m.0) ∙ ap end_refs m.1)
      (subst (λ (xs : List ℕ). AreAlike (flat_map (refs_put f) (end_refs m.0)) xs)
      (sym (refs_placed_end f n.0) ∙ ap end_refs n.1) alike)

  pub placed_alike : RefersAlike a → RefersAlike (placed_auto f a)
  placed_alike h = ends_refer_alike (placed_auto f a) (placed_ranked f a ranked) (placed_boxless f a plain)
      (λ q e u x y. ends_placed q q e u x y (alike_ends a h q))
      (λ y z e u i j k l. ends_placed y z e u k l (λ m n v w. alike_tops a h y z m n i j v w))

  pub placed_signed : (bs : List BoxFace) → HasSignatures bs a → HasSignatures bs (placed_auto f a)
  placed_signed bs h = alike_signed bs (placed_auto f a) (placed_boxless f a plain)
      (placed_alike (signed_alike bs a plain h))

-- Trees of the components of a filled forest.

module _ (face : Face) (F : Forest) (filled : IsFilled face F) (full : Every HasSome F.autos)
    (ranked : Every IsRanked F.autos) (plain : Every HasNoBoxes F.autos) where
  abbrev pub comp : ℕ → Automaton
  comp k = component_at F.autos k

  pub top_is_node : (k : ℕ) → k < length F.autos → (e : End) → InLanguage (comp k) (bare_end e) → (n : Node)
      × (e ≡ under n)
  top_is_node k l e h =
      let t = top_of_filled face F filled full k (comp k) (bare_end e) (component_got F.autos k l) h in
      topped_node e t.0 t.1

  pub tree_is_node : (k : ℕ) → k < length F.autos → (t : Tree) → InLanguage (comp k) t → (n : Node) × (bare n ≡ t)
  tree_is_node k l t h =
      let e = run_end (comp k) (component_has IsRanked F.autos k ranked l) (component_has HasNoBoxes F.autos k plain l)
      h.0 t h.2 in
      let n = top_is_node k l e.0 (subst (λ (z : Tree). InLanguage (comp k) z) (sym e.1) h) in
      (n.0, sym (ap bare_end n.1) ∙ e.1)

  -- a tree with other leaves comes from one of the component
  pub placed_before : (f : ℕ → Target) (k : ℕ) → k < length F.autos → (t : Tree) → InLanguage (placed_auto f (comp k)) t
      → (n : Node) × InLanguage (comp k) (bare n) × (bare (placed f n) ≡ t)
  placed_before f k l t h =
      let r = component_has IsRanked F.autos k ranked l in
      let p = component_has HasNoBoxes F.autos k plain l in
      let e = run_end (placed_auto f (comp k)) (placed_ranked f (comp k) r) (placed_boxless f (comp k) p) h.0 t h.2 in
      let m = end_before f (comp k) p h.0 e.0 e.2 in
      let in_comp : InLanguage (comp k) (bare_end m.0) = (h.0, h.1, end_bare (comp k).rules h.0 m.0 m.2) in
      let n = top_is_node k l m.0 in_comp in (
        n.0,
        subst (λ (z : End). InLanguage (comp k) (bare_end z)) n.1 in_comp,
        sym (ap (λ (z : End). bare_end (placed_end f z)) n.1) ∙ ap bare_end m.1 ∙ e.1,
      )

  -- and is formed where the leaves name roots below n
  pub placed_formed : (f : ℕ → Target) (n k : ℕ) → k < length F.autos
      → ((m : Node) → InLanguage (comp k) (bare m) → AllBelow n (flat_map (refs_put f) (refs m))) → (t : Tree)
      → InLanguage (placed_auto f (comp k)) t → IsFormedTree n t
  placed_formed f n k l low t h =
      let m = placed_before f k l t h in
      subst (λ (z : Tree). IsFormedTree n z) m.2 (
        node_topped (placed f m.0),
        subst (λ (ks : List ℕ). AllBelow n ks) (sym (tree_roots (placed f m.0) ∙ refs_placed f m.0)) (low m.0 m.1),
      )

  pub placed_some : (f : ℕ → Target) (k : ℕ) → k < length F.autos → HasSome (placed_auto f (comp k))
  placed_some f k l =
      let t = component_has HasSome F.autos k full l in
      let n = tree_is_node k l t.0 t.1 in
      (bare (placed f n.0), in_placed f (comp k) n.0 (subst (λ (z : Tree). InLanguage (comp k) z) (sym n.1) t.1))

  -- a dressed forest of it
  pub some_dressed : (d : Nodes) × TreesOf [] F.autos d
  some_dressed =
      let c = some_choice F.autos full in
      let f = filled.trees c.0 c.1 in
      let d = dress_all [] 0 F.autos c.0 f.tops ranked (boxless_have_insides [] F.autos plain) c.1 f.are in
      (d.nodes, d.of)

  -- a forest into which it is regrouped has a tree in each component
  pub regrouped_full : (G : Forest) → Regroups [] G F → Every HasSome G.autos
  regrouped_full G h =
      let d = some_dressed in
      let e = h d.0 d.1 in
      all_some G.autos e.0 e.1.of
    where
      all_some : (autos : List Automaton) (d : Nodes) → TreesOf [] autos d → Every HasSome autos
      all_some [] d h = tt
      all_some (a ∷ autos) no_nodes h = absurd h
      all_some (a ∷ autos) (more n ns) h = ((bare n, h.0), all_some autos ns h.2)
