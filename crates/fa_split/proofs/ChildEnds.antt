-- What the child may be, by the rules of its state; and which rules stand at the top of some tree.
use Rattle.std.proofs.Common.{◌≡◌, ◌↔◌, ℕ, Bool, true, length, List, [], ◌∷◌, refl, sym, ap, subst, ◌∙◌, arith}
use Rattle.fore_base.specs.Lists.{Every}
use Rattle.fore_base.specs.Marks.{IsMarked, MarksOf, all_marked}
use Rattle.fore_base.proofs.ListLemmas.{every_in, every_weaker}
use Rattle.fore_base.proofs.MarkLemmas.{all_from, all_to}
use Rattle.ta_core.specs.Arity.{arity}
use Rattle.ta_core.specs.Auto.{Automaton, IsRanked, IsRankedRule}
use Rattle.ta_core.specs.Language.{RunOf, run, RunEach, run_none, run_more, HasTree}
use Rattle.ta_core.specs.declared.auto.Rule.{Rule}
use Rattle.ta_core.specs.declared.tree.Tree.{Tree, out-Tree, out-roll-Tree}
use Rattle.ta_core.proofs.Runs.{tree_of, run_tree}
use Rattle.fa_core.specs.declared.forest.Forest.{Forest}
use Rattle.fa_core.specs.declared.forest.Target.{Target}
use Rattle.fa_core.specs.declared.forest.Target.TheVariants.{At}
use Rattle.fa_core.specs.Cells.{is_leaf}
use Rattle.fa_core.specs.Dressed.{leaf}
use Rattle.fa_core.specs.Filled.{HasSome}
use Rattle.fa_core.specs.Member.{bare_end, leaf_symbol}
use Rattle.fa_core.specs.Ways.{has}
use Rattle.fa_core.proofs.Dressing.{leaf_top}
use Rattle.fa_sound.specs.Components.{component_at}
use Rattle.fa_back.proofs.RootMarks.{has_in, in_has}
use Rattle.fa_merge.proofs.PlacedForests.{component_has}
use Rattle.fa_split.specs.Chosen.{StandsAtTop}
use Rattle.fa_split.specs.Split.{CanSplit, MayStand, MayBeLeaf, MayBeCell, child_state, AreThose}
use Rattle.fa_split.specs.inner.Ends.{HasLeafRule, HasCellRule}
use Rattle.fa_split.proofs.ChosenTrees.{leaf_arity}
use Rattle.fa_split.proofs.FixedTrees.{child_with, has_child}
use Rattle.fa_split.proofs.RunPlaces.{set_here}
use Rattle.fa_split.proofs.SplitLeaves.{with_child, with_child_symbol, with_child_children, may_run}

module _ (rules : List Rule) where
  pub trees_each : {qs : List ℕ} {ts : List Tree} → RunEach rules qs ts → Every (HasTree rules) qs
  trees_each run_none = tt
  trees_each (run_more {t = t} a b) = ((t, a), trees_each b)

  pub each_trees : (qs : List ℕ) → Every (HasTree rules) qs → (ts : List Tree) × RunEach rules qs ts
  each_trees [] h = ([], run_none)
  each_trees (q ∷ qs) h = let k = each_trees qs h.1 in (h.0.0 ∷ k.0, run_more h.0.1 k.1)

  -- by marks of the states that have trees
  pub marks_trees : (n : ℕ) (marks : List Bool) (qs : List ℕ) → MarksOf n (HasTree rules) marks → all_marked marks qs
      ≡ true → Every (HasTree rules) qs
  marks_trees n marks qs m h = every_weaker (IsMarked marks) (HasTree rules) qs m.only (all_from marks qs h)

  pub trees_marks : (n : ℕ) (marks : List Bool) (qs : List ℕ) → MarksOf n (HasTree rules) marks
      → Every (HasTree rules) qs → all_marked marks qs ≡ true
  trees_marks n marks qs m h = all_to marks qs (every_weaker (HasTree rules) (IsMarked marks) qs m.each h)

-- a rule of a root state whose children have trees stands at the top of some tree
pub top_decided : (a : Automaton) (x : Rule) (marks : List Bool) → MarksOf a.states (HasTree a.rules) marks
    → ((has x.state a.roots ≡ true) × (all_marked marks x.children ≡ true)) ↔ StandsAtTop a x
top_decided a x marks m = (
  (λ h.
      let k = each_trees a.rules x.children (marks_trees a.rules a.states marks x.children m h.1) in (
        has_in x.state a.roots h.0,
        (tree_of x.symbol k.0, rw (out-roll-Tree (record { symbol = x.symbol; children = k.0 })) (refl, k.1)),
      )),
  (λ h. (in_has x.state a.roots h.0, trees_marks a.rules a.states marks x.children m (trees_each a.rules h.1.1.1))),
)

module _ (F : Forest) (r p : ℕ) (ranked : Every IsRanked F.autos) (full : Every HasSome F.autos) (can : CanSplit F r p)
  where
    abbrev a : Automaton
    a = component_at F.autos r

    abbrev q : ℕ
    q = child_state a p

    a_ranked : IsRanked a
    a_ranked = component_has IsRanked F.autos r ranked can.root

    -- each tree of the child's state may stand in the place
    pub run_may : (u : Tree) → RunOf a.rules q u → MayStand F r p u
    run_may u w =
        let t = component_has HasSome F.autos r full can.root in
        let c = has_child a p (At 0) a_ranked can.top can.place t.0 t.1 in (
          with_child p u t.0,
          child_with a p (At 0) a_ranked can.top can.place t.0 (with_child p u t.0) u t.1 w (with_child_symbol p u t.0)
              (with_child_children p u t.0),
          rw (with_child_children p u t.0) (set_here (out-Tree t.0).children p c.0 u c.1),
        )

    leaf_may : (y : Target) → HasLeafRule a.rules q y → MayBeLeaf F r p y
    leaf_may y (x, i, s, e) =
        run_may (bare_end (leaf y))
        (run x i s (e ∙ sym (leaf_top y))
        (subst (λ (qs : List ℕ). RunEach a.rules qs (out-Tree (bare_end (leaf y))).children) (sym none)
        (rw (out-roll-Tree (record { symbol = leaf_symbol y; children = [] })) run_none)))
      where
        empty : (qs : List ℕ) → length qs ≡ 0 → qs ≡ []
        empty [] l = refl
        empty (z ∷ qs) l = absurd (omega (arith, l))

        none : x.children ≡ []
        none =
            empty x.children ((every_in (IsRankedRule a.states) a.rules x a_ranked.1 i).2 ∙ ap arity e ∙ leaf_arity y)

    may_leaf : (y : Target) → MayBeLeaf F r p y → HasLeafRule a.rules q y
    may_leaf y m = here (may_run F r p ranked can (At 0) (bare_end (leaf y)) m)
      where
        here : RunOf a.rules q (bare_end (leaf y)) → HasLeafRule a.rules q y
        here (run x i s e k) = (x, i, s, e ∙ leaf_top y)

    -- the leaves of the child's state are those that the child may be
    pub leaves_may : (ys : List Target) → AreThose (HasLeafRule a.rules q) ys → AreThose (MayBeLeaf F r p) ys
    leaves_may ys h = record {
      each = every_weaker (HasLeafRule a.rules q) (MayBeLeaf F r p) ys leaf_may h.each;
      all = λ y m. h.all y (may_leaf y m);
      once = h.once;
    }

    -- the child may be a cell where its state has a rule of one
    pub cell_decided : HasCellRule a.rules q a.rules ↔ MayBeCell F r p
    cell_decided = (forth, back)
      where
        forth : HasCellRule a.rules q a.rules → MayBeCell F r p
        forth (x, i, (s, g, h)) =
            let k = each_trees a.rules x.children h in
            let u : Tree = tree_of x.symbol k.0 in (
              u,
              rw (out-roll-Tree (record { symbol = x.symbol; children = k.0 })) g,
              run_may u (subst (λ (z : ℕ). RunOf a.rules z u) s (run_tree a.rules x k.0 i k.1)),
            )

        back : MayBeCell F r p → HasCellRule a.rules q a.rules
        back (u, g, m) = here (may_run F r p ranked can (At 0) u m)
          where
            here : RunOf a.rules q u → HasCellRule a.rules q a.rules
            here (run x i s e k) = (x, i, (s, ap is_leaf e ∙ g, trees_each a.rules k))
