-- The cell with an edge lifted out of its component: both ways each dressed forest can be regrouped, and none is lost.
use Rattle.std.proofs.Common.{◌≡◌, inl, inr, ℕ, ◌<◌, ◌+◌, length, List, map, refl, sym, ap}
use Rattle.std.proofs.Common.{subst, ◌∙◌, slice_set, Some}
use Rattle.fore_base.specs.Lists.{IsIn, Every}
use Rattle.fore_base.specs.declared.store.Value.{Value}
use Rattle.fore_base.proofs.ListLemmas.{every_in, in_map, in_mapped}
use Rattle.ta_core.specs.Auto.{Automaton, IsRanked}
use Rattle.ta_core.specs.Language.{InLanguage, IsWithin}
use Rattle.ta_core.specs.declared.auto.Rule.{Rule}
use Rattle.fa_core.specs.declared.boxes.BoxDef.{BoxDef}
use Rattle.fa_core.specs.declared.faces.BoxFace.{BoxFace}
use Rattle.fa_core.specs.declared.forest.Forest.{Forest}
use Rattle.fa_core.specs.declared.forest.Target.{Target}
use Rattle.fa_core.specs.Choices.{count}
use Rattle.fa_core.specs.Dressed.{Node, Nodes, cells, roots_of, value_in}
use Rattle.fa_core.specs.Member.{TreesOf, OfForest, InsidesOf, Regroups, RegroupsInto, Regrouping, bare}
use Rattle.fa_core.specs.Rearranged.{Rearranged}
use Rattle.fa_core.proofs.NodeRuns.{NodeRun, node_bare, bare_node}
use Rattle.fa_core.proofs.Rearranging.{same, back}
use Rattle.fa_back.specs.Reached.{node_at}
use Rattle.fa_merge.specs.inner.Grafting.{with_last}
use Rattle.fa_merge.proofs.MergedLast.{split_last, join_last, vars_same, RootsBelow}
use Rattle.fa_merge.proofs.OtherOrders.{count_trees}
use Rattle.fa_merge.proofs.PlacedForests.{component_has}
use Rattle.fa_sound.specs.Components.{component_at}
use Rattle.fa_split.specs.Split.{set_node}
use Rattle.fa_split.proofs.OtherComponent.{tree_at, tree_in, trees_set, trees_keep, set_components, within_regroups}
use Rattle.fa_split.proofs.Places.{node_set, node_twice, node_same, set_count, roots_set}
use Rattle.fa_split.proofs.SplitCells.{RefersWell, all_below, below_vars}
use Rattle.fa_lift.specs.Lift.{Owns, owner, hatted, lift_top, lift_in, HaveLifts}
use Rattle.fa_lift.proofs.LiftEdges.{HasEdge}
use Rattle.fa_lift.proofs.LiftHats.{of_hat, find_edge, AtTop, Inside}
use Rattle.fa_lift.proofs.LiftHoles.{CutNode, cut_cells, cut_number, cut_insides, uncut_insides}
use Rattle.fa_lift.proofs.LiftOwners.{owner_run, owner_of, by_owner}

-- e is d with a cell of tree t, not the top, as a last tree of its own
pub record IsLift (t : ℕ) (d e : Nodes) : Type 0 where
  pub tree : Node
  pub rest : Node
  pub child : Node
  pub at : node_at d t ≡ Some tree
  pub cut : CutNode (count d) child tree rest
  pub is : e ≡ with_last (set_node t rest d) child

module _ (bs : List BoxFace) (F : Forest) (r f t : ℕ) (ranked : Every IsRanked F.autos) (there : t < length F.autos)
    (well : RefersWell F) where
  abbrev a : Automaton
  a = component_at F.autos t

  abbrev N : ℕ
  N = length F.autos

  a_ranked : IsRanked a
  a_ranked = component_has IsRanked F.autos t ranked there

  module _ (T : List BoxDef) where
    lift_vars : (d e : Nodes) → OfForest T F d → IsLift t d e
        → map (value_in (roots_of d)) F.vars ≡ map (value_in (roots_of e)) F.vars
    lift_vars d e h k =
        let ns = set_node t k.rest d in
        let same_roots : roots_of ns ≡ roots_of d =
        roots_set t d k.tree k.rest k.at (cut_number (count d) k.child k.cut) in
        let long : count ns ≡ N = set_count t k.rest d ∙ count_trees T F.autos d h in
        let low : RootsBelow (count ns) F.vars =
        subst (λ (m : ℕ). RootsBelow m F.vars) (sym long) (below_vars N F.vars well.vars) in
        ap (λ (vs : List Value). map (value_in vs) F.vars) (sym same_roots)
        ∙ sym (vars_same ns k.child F.vars low)
        ∙ ap (λ (x : Nodes). map (value_in (roots_of x)) F.vars) (sym k.is)

    -- a dressed forest with one cell lifted has the same cells
    pub lift_regrouping : (G : Forest) → G.vars ≡ F.vars → G.data_vars ≡ F.data_vars → (d e : Nodes) → OfForest T F d
        → OfForest T G e → IsLift t d e → Regrouping T G F d e
    lift_regrouping G v w d e h g k = record {
      of = g;
      same_cells =
          subst (λ (x : Nodes). Rearranged (cells d) (cells x)) (sym k.is)
          (cut_cells k.child k.tree k.rest t d k.cut k.at (all_below T F d well h));
      vars = lift_vars d e h k ∙ ap (λ (us : List Target). map (value_in (roots_of e)) us) (sym v);
      data_vars = sym w;
    }

    module _ (x : Rule) (p : ℕ) (own : Owns bs r f a x p) where
      abbrev O : Automaton
      O = owner a x p r

      -- The edge at the top.

      top_within : IsIn x.state a.roots → IsWithin O a
      top_within i u l = (x.state, i, owner_run bs r f a a_ranked x p own u l)

      pub top_regroups : IsIn x.state a.roots → Regroups T F (lift_top F r t x p)
      top_regroups i = within_regroups F t O (top_within i) T there

      -- The edge inside.

      module _ (c : Automaton) (within : IsWithin c (hatted a x.state N)) where
        abbrev G : Forest
        G = lift_in F r t x p c

        -- a dressed forest of the lifted forest is one of the first with the cell lifted
        pub unlift : (e : Nodes) → OfForest T G e → (d : Nodes) × OfForest T F d × IsLift t d e
        unlift e h =
            let s = split_last T (slice_set F.autos t c) O e h in
            let v = tree_in T F.autos t c s.0 there s.3 in
            here s.0 s.1 s.2 s.3 s.4 s.5 v.0 v.1 (within (bare v.0) v.2) v.3
          where
            here : (ns : Nodes) (m : Node) → e ≡ with_last ns m → TreesOf T (slice_set F.autos t c) ns
                → InLanguage O (bare m) → InsidesOf T m → (k : Node) → node_at ns t ≡ Some k
                → InLanguage (hatted a x.state N) (bare k) → InsidesOf T k
                → (d : Nodes) × OfForest T F d × IsLift t d e
            here ns m is all lm im k at (z, i, w) ik =
                let j = in_mapped (λ (y : ℕ). y + a.states) z a.roots i in
                let l : j.0 < a.states = every_in (λ y. y < a.states) a.roots j.0 a_ranked.0 j.1 in
                let b = of_hat a a_ranked x.state N m
                (bare_node a.rules x.state m (owner_run bs r f a a_ranked x p own (bare m) lm)) j.0 k l
                (subst (λ (y : ℕ). NodeRun (hatted a x.state N).rules y k) j.2
                (bare_node (hatted a x.state N).rules z k w)) in
                let d : Nodes = set_node t b.0 ns in
                let lang : InLanguage a (bare b.0) = (j.0, j.1, node_bare a.rules j.0 b.0 b.1) in
                let od : OfForest T F d =
                subst (λ (y : List Automaton). TreesOf T y d) (set_components F.autos t c there)
                (trees_set T (slice_set F.autos t c) t a ns b.0 all lang (uncut_insides N m T b.2 ik im)) in
                let cd : count d ≡ N = count_trees T F.autos d od in
                let trees : set_node t k d ≡ ns = node_twice t ns k b.0 ∙ node_same t ns k at in (
                  d,
                  od,
                  record {
                    tree = b.0;
                    rest = k;
                    child = m;
                    at = node_set t ns k b.0 at;
                    cut = subst (λ (y : ℕ). CutNode y m b.0 k) (sym cd) b.2;
                    is = is ∙ ap (λ (y : Nodes). with_last y m) (sym trees);
                  },
                )

        pub in_regroups : Regroups T F G
        in_regroups e h =
            let k = unlift e h in
            let g = lift_regrouping G refl refl k.0 e k.1 h k.2 in
            (k.0, record { of = k.1; same_cells = back g.same_cells; vars = sym g.vars; data_vars = refl })

    -- None is lost.

    -- d is regrouped into a dressed forest of one of the list
    abbrev IsInto : List Forest → Nodes → Type 0
    IsInto Gs d = (G : Forest) × IsIn G Gs × ((e : Nodes) × Regrouping T G F d e)

    module _ (edge : (n : Node) → InLanguage a (bare n) → HasEdge bs f r n) where
      pub lift_whole : (Gs : List Forest) → HaveLifts bs F r f t Gs → RegroupsInto T F Gs
      lift_whole Gs all d h =
          let v = tree_at T F.autos t d there h in
          here v.0 v.1 v.2 v.3
        where
          here : (w : Node) → node_at d t ≡ Some w → InLanguage a (bare w) → InsidesOf T w → IsInto Gs d
          here w at l ins = elim
              (find_edge bs f r N a a_ranked l.0 w (bare_node a.rules l.0 w l.2) (edge w l)) [
                | inl k ↦ at_top k
                | inr k ↦ inside k
              ]
            where
              at_top : AtTop bs f r N a a_ranked l.0 w → IsInto Gs d
              at_top k =
                  let own = owner_of bs r f a a_ranked k.x k.p k.rule w k.owner in
                  let m = by_owner bs r f a a_ranked k.x k.p k.rule w k.owner in (
                    lift_top F r t k.x k.p,
                    all.tops k.x k.p own (subst (λ (y : ℕ). IsIn y a.roots) (sym k.state) l.1) (bare w) m,
                    (
                      d,
                      record {
                        of = trees_keep T F.autos t (owner a k.x k.p r) d w h at m;
                        same_cells = same (cells d);
                        vars = refl;
                        data_vars = refl;
                      },
                    ),
                  )

              inside : Inside bs f r N a a_ranked l.0 w → IsInto Gs d
              inside k =
                  let own = owner_of bs r f a a_ranked k.x k.p k.rule k.m k.owner in
                  let m = by_owner bs r f a a_ranked k.x k.p k.rule k.m k.owner in
                  let C : Automaton = hatted a k.x.state N in
                  let i = cut_insides N k.m T k.cut ins in
                  let lang : InLanguage C (bare k.k) = (
                    l.0 + a.states,
                    in_map (λ (y : ℕ). y + a.states) l.0 a.roots l.1,
                    node_bare C.rules (l.0 + a.states) k.k k.runs,
                  ) in
                  let g = all.insides k.x k.p own (bare k.m) (bare k.k) m lang in
                  let e : Nodes = with_last (set_node t k.k d) k.m in
                  let of : OfForest T (lift_in F r t k.x k.p g.0) e =
                  join_last T (slice_set F.autos t g.0) (owner a k.x k.p r) (set_node t k.k d) k.m
                  (trees_set T F.autos t g.0 d k.k h g.1 i.0) m i.1 in
                  let is : IsLift t d e =
                  record {
                    tree = w;
                    rest = k.k;
                    child = k.m;
                    at = at;
                    cut = subst (λ (y : ℕ). CutNode y k.m w k.k) (sym (count_trees T F.autos d h)) k.cut;
                    is = refl;
                  } in (
                    lift_in F r t k.x k.p g.0,
                    g.2,
                    (e, lift_regrouping (lift_in F r t k.x k.p g.0) refl refl d e h of is),
                  )
