-- The cell of a root that is met is reached by hops; and a met root to which nothing else refers is of kind 3.
use Rattle.std.proofs.Common.{◌≡◌, ◌⊎◌, inl, inr, ℕ, zero, suc, true, List, [], ◌∷◌}
use Rattle.std.proofs.Common.{map, refl, sym, ap, subst, ◌∙◌, Some, slice_get}
use Rattle.std.proofs.lemmas.Option.{none-some, same_Some}
use Rattle.fore_base.specs.Lists.{IsIn}
use Rattle.fore_base.specs.declared.store.Value.{Value}
use Rattle.fore_base.specs.declared.store.Value.TheVariants.{Cell}
use Rattle.fore_base.proofs.ListLemmas.{in_left, in_right, in_map, every_in}
use Rattle.ta_core.specs.declared.tree.Tree.{Tree}
use Rattle.fa_core.specs.declared.faces.BoxFace.{BoxFace}
use Rattle.fa_core.specs.declared.forest.Target.{Target}
use Rattle.fa_core.specs.declared.forest.Target.TheVariants.{At}
use Rattle.fa_core.specs.Choices.{bares}
use Rattle.fa_core.specs.Dressed.{Node, Nodes, no_nodes}
use Rattle.fa_core.specs.Dressed.{more, Fact, value_in, nth_value, roots_of, number, refs}
use Rattle.fa_core.specs.Member.{bare}
use Rattle.fa_core.specs.Ways.{Way, Step, ways, all_back, leads_back}
use Rattle.fa_core.proofs.WaysOf.{tree_roots}
use Rattle.fa_back.specs.Reached.{RootReached, by_var, by_tree, by_way}
use Rattle.fa_back.specs.Reached.{node_at}
use Rattle.fa_back.specs.inner.Hops.{Edge, Hops, hop_var, tree_own, tree_edges, forest_own, forest_edges}
use Rattle.fa_back.proofs.FactParts.{number_of, node_root, target_var}
use Rattle.fa_back.proofs.WaysUp.{hop_tree, up_tree}

pub tree_at : (d : Nodes) (j : ℕ) (t : Tree) → slice_get (bares d) j ≡ Some t → (x : Node) × (node_at d j ≡ Some x)
    × (bare x ≡ t)
tree_at no_nodes j t e = absurd (none-some t e)
tree_at (more n ns) zero t e = (n, refl, same_Some (bare n) t e)
tree_at (more n ns) (suc j) t e = tree_at ns j t e

pub at_tree : (d : Nodes) (j : ℕ) (x : Node) → node_at d j ≡ Some x → slice_get (bares d) j ≡ Some (bare x)
at_tree no_nodes j x e = absurd (none-some x e)
at_tree (more n ns) zero x e = ap (λ (z : Node). Some (bare z)) (same_Some n x e)
at_tree (more n ns) (suc j) x e = at_tree ns j x e

pub own_at : (vs : List Value) (d : Nodes) (j : ℕ) (x : Node) → node_at d j ≡ Some x → (y : Fact)
    → IsIn y (tree_own vs x) → IsIn y (forest_own vs d)
own_at vs no_nodes j x e y h = absurd (none-some x e)
own_at vs (more z ns) zero x e y h = in_left y (tree_own vs z) (forest_own vs ns) (rw (sym (same_Some z x e)) at h)
own_at vs (more z ns) (suc j) x e y h = in_right y (tree_own vs z) (forest_own vs ns) (own_at vs ns j x e y h)

pub edges_at : (bs : List BoxFace) (vs : List Value) (d : Nodes) (j : ℕ) (x : Node) → node_at d j ≡ Some x → (y : Edge)
    → IsIn y (tree_edges bs vs x) → IsIn y (forest_edges bs vs d)
edges_at bs vs no_nodes j x e y h = absurd (none-some x e)
edges_at bs vs (more z ns) zero x e y h = in_left y (tree_edges bs vs z) (forest_edges bs vs ns)
    (rw (sym (same_Some z x e)) at h)
edges_at bs vs (more z ns) (suc j) x e y h = in_right y (tree_edges bs vs z) (forest_edges bs vs ns)
    (edges_at bs vs ns j x e y h)

pub all_of_back : (bs : List BoxFace) (ss : List Step) → leads_back bs ss ≡ true → all_back bs ss ≡ true
all_of_back bs [] h = refl
all_of_back bs (s ∷ ss) h = h

module _ (bs : List BoxFace) (targets : List Target) (d : Nodes) where
  abbrev vs : List Value
  vs = roots_of d

  abbrev pub HopsIn : ℕ → Type 0
  HopsIn = Hops (map (value_in (roots_of d)) targets) (forest_own (roots_of d) d) (forest_edges bs (roots_of d) d)

  module _ (cells : (x : Edge) → IsIn x (forest_edges bs (roots_of d) d) → x.back ≡ true → (m : ℕ)
      × (x.output ≡ Cell m)) where
    pub met_hops : (r : ℕ) → RootReached bs targets (bares d) r → (n : ℕ) → nth_value (roots_of d) r ≡ Cell n → HopsIn n
    met_hops r (by_var i) n e = hop_var (target_var vs targets r n i e)
    met_hops k (by_tree r t h e i) n w =
        let x = tree_at d r t e in
        let top = met_hops r h (number x.0) (node_root d r x.0 x.1) in
        let all = hop_tree bs (map (value_in vs) targets) (forest_own vs d) (forest_edges bs vs d) vs x.0
        (own_at vs d r x.0 x.1) (edges_at bs vs d r x.0 x.1) top in
        let j : IsIn k (refs x.0) = subst (λ (z : List ℕ). IsIn k z) (tree_roots x.0)
        (subst (λ (z : Tree). IsIn k (map (λ (w : Way). w.root) (ways z))) (sym x.2) i) in
        every_in (λ y. (n : ℕ) → nth_value vs y ≡ Cell n → HopsIn n) (refs x.0) k all.1 j n w
    met_hops r (by_way i j h l) n q =
        let x = tree_at d j l.0 l.1 in
        let w = l.2 in
        let iw : IsIn w.0 (ways (bare x.0)) = subst (λ (z : Tree). IsIn w.0 (ways z)) (sym x.2) w.1 in
        let u = up_tree bs (map (value_in vs) targets) (forest_own vs d) (forest_edges bs vs d) vs cells x.0
        (own_at vs d j x.0 x.1) (edges_at bs vs d j x.0 x.1) w.0 iw
        (λ m e. met_hops i h m (subst (λ (z : ℕ). nth_value vs z ≡ Cell m) w.2 e)) in
        elim w.3 [
          | inl y ↦ subst HopsIn (ap number_of (sym (node_root d j x.0 x.1) ∙ ap (nth_value vs) (sym y.0) ∙ q))
              (u.0 (all_of_back bs w.0.steps y.1))
          | inr y ↦ u.1 r y n q
        ]

-- the same where some roots are no cells: what such a root refers to is nothing
module _ (bs : List BoxFace) (targets : List Target) (d : Nodes) (vars : List Value) (own : List Fact)
    (edges : List Edge) (vs : List Value)
    (cells : (x : Edge) → IsIn x edges → x.back ≡ true → (m : ℕ) × (x.output ≡ Cell m))
    (named : (r n : ℕ) → IsIn (At r) targets → nth_value vs r ≡ Cell n → IsIn (Cell n) vars)
    (tops : (j : ℕ) (x : Node) → node_at d j ≡ Some x
    → ((nth_value vs j ≡ Cell (number x)) × ((y : Fact) → IsIn y (tree_own vs x) → IsIn y own)
    × ((y : Edge) → IsIn y (tree_edges bs vs x) → IsIn y edges)) ⊎ (refs x ≡ [])) where
  pub met_open : (r : ℕ) → RootReached bs targets (bares d) r → (n : ℕ) → nth_value vs r ≡ Cell n
      → Hops vars own edges n
  met_open r (by_var i) n e = hop_var (named r n i e)
  met_open k (by_tree r t h e i) n w =
      let x = tree_at d r t e in
      let j : IsIn k (refs x.0) = subst (λ (z : List ℕ). IsIn k z) (tree_roots x.0)
      (subst (λ (z : Tree). IsIn k (map (λ (w : Way). w.root) (ways z))) (sym x.2) i) in
      elim (tops r x.0 x.1) [
        | inl y ↦ (let all = hop_tree bs vars own edges vs x.0 y.1 y.2 (met_open r h (number x.0) y.0) in
            every_in (λ z. (n : ℕ) → nth_value vs z ≡ Cell n → Hops vars own edges n) (refs x.0) k all.1 j n w)
        | inr y ↦ absurd (rw y at j)
      ]
  met_open r (by_way i j h l) n q =
      let x = tree_at d j l.0 l.1 in
      let w = l.2 in
      let iw : IsIn w.0 (ways (bare x.0)) = subst (λ (z : Tree). IsIn w.0 (ways z)) (sym x.2) w.1 in
      elim (tops j x.0 x.1) [
        | inl y ↦ (let u = up_tree bs vars own edges vs cells x.0 y.1 y.2 w.0 iw
            (λ m e. met_open i h m (subst (λ (z : ℕ). nth_value vs z ≡ Cell m) w.2 e)) in
            elim w.3 [
              | inl z ↦ subst (Hops vars own edges) (ap number_of (sym y.0 ∙ ap (nth_value vs) (sym z.0) ∙ q))
                  (u.0 (all_of_back bs w.0.steps z.1))
              | inr z ↦ u.1 r z n q
            ])
        | inr y ↦ absurd (subst (λ (z : List ℕ). IsIn w.0.root z) (tree_roots x.0 ∙ y)
            (in_map (λ (w : Way). w.root) w.0 (ways (bare x.0)) iw))
      ]
