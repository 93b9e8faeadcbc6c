-- The states to which some tree has a run are those that are reached from below.
use Rattle.std.proofs.Common.{◌≡◌, ℕ, ◌<◌, Bool, true, false, true≢false, not, List, [], ◌∷◌, map, refl, sym, ap, subst}
use Rattle.std.proofs.Common.{◌∙◌}
use Rattle.std.specs.Bool.{Decides}
use Rattle.fore_base.specs.Lists.{Every}
use Rattle.ta_core.specs.declared.auto.Rule.{Rule}
use Rattle.ta_core.specs.declared.arc.Arc.{Arc}
use Rattle.ta_core.specs.declared.tree.Tree.{Tree}
use Rattle.ta_core.specs.Auto.{Automaton, IsRankedRule}
use Rattle.ta_core.specs.inner.Closing.{Reached, reach, ReachedAll, reach_none, reach_more}
use Rattle.ta_core.specs.Language.{RunOf, run, RunEach, run_none, run_more, InLanguage, HasTree, IsBarren}
use Rattle.fore_base.specs.Marks.{MarksOf, some_marked}
use Rattle.ta_core.specs.inner.Arcs.{up_arc}
use Rattle.fore_base.proofs.ListLemmas.{in_map, in_mapped}
use Rattle.fore_base.proofs.MarkLemmas.{some_from, some_to}
use Rattle.ta_core.proofs.Runs.{tree_of, run_tree}

pub up_low : (n : ℕ) (rules : List Rule) → Every (IsRankedRule n) rules
    → Every (λ (s : Arc). s.to < n) (map up_arc rules)
up_low n [] h = tt
up_low n (r ∷ rules) h = (h.0.0, up_low n rules h.1)

module _ (rules : List Rule) where
  mutual
    up_tree : {q : ℕ} → Reached (map up_arc rules) q → HasTree rules q
    up_tree {q} (reach s i e a) =
        let m = in_mapped up_arc s rules i in
        let f : ReachedAll (map up_arc rules) m.0.children =
        subst (λ (x : Arc). ReachedAll (map up_arc rules) x.from) m.2 a in
        let ts = up_trees a in
        let ks : RunEach rules m.0.children ts.0 = subst (λ (x : Arc). RunEach rules x.from ts.0) m.2 ts.1 in
        let c : m.0.state ≡ q = sym (ap (λ (x : Arc). x.to) m.2) ∙ e in (
          tree_of m.0.symbol ts.0,
          subst (λ (p : ℕ). RunOf rules p (tree_of m.0.symbol ts.0)) c (run_tree rules m.0 ts.0 m.1 ks),
        )

    up_trees : {qs : List ℕ} → ReachedAll (map up_arc rules) qs → (ts : List Tree) × RunEach rules qs ts
    up_trees reach_none = ([], run_none)
    up_trees (reach_more r rs) = let t = up_tree r in let ts = up_trees rs in (t.0 ∷ ts.0, run_more t.1 ts.1)

  mutual
    tree_up : {q : ℕ} {t : Tree} → RunOf rules q t → Reached (map up_arc rules) q
    tree_up (run r i e s k) = reach (up_arc r) (in_map up_arc r rules i) e (trees_up k)

    trees_up : {qs : List ℕ} {ts : List Tree} → RunEach rules qs ts → ReachedAll (map up_arc rules) qs
    trees_up run_none = reach_none
    trees_up (run_more r rs) = reach_more (tree_up r) (trees_up rs)

  pub inhabited_marks : (n : ℕ) (marks : List Bool) → MarksOf n (Reached (map up_arc rules)) marks
      → MarksOf n (HasTree rules) marks
  inhabited_marks n marks m =
      record { long = m.long; only = λ q k. up_tree (m.only q k); each = λ q h. m.each q (tree_up h.1) }

not_true : (b : Bool) → not b ≡ true → b ≡ false
not_true true h = absurd (true≢false (sym h))
not_true false h = refl

true_not : (b : Bool) → (b ≡ true → ⊥) → not b ≡ true
true_not true h = absurd (h refl)
true_not false h = refl

-- no tree is accepted where no root state has one
pub barren : (a : Automaton) (marks : List Bool) (b : Bool) → MarksOf a.states (HasTree a.rules) marks
    → b ≡ some_marked marks a.roots → Decides (not b) (IsBarren a)
barren a marks b m e = (
  λ h t l. true≢false (sym (e ∙ some_to marks a.roots l.0 l.1 (m.each l.0 (t, l.2))) ∙ not_true b h),
  λ h. true_not b (λ y. let s = some_from marks a.roots (sym e ∙ y) in let t = m.only s.0 s.2 in h t.0 (s.0, s.1, t.1)),
)

-- where some root state has a mark, a tree is accepted
pub accepts_some : (a : Automaton) (marks : List Bool) (b : Bool) → MarksOf a.states (HasTree a.rules) marks
    → b ≡ some_marked marks a.roots → not b ≡ false → (t : Tree) × InLanguage a t
accepts_some a marks b m e h = let s = some_from marks a.roots (sym e ∙ not_false b h) in let t = m.only s.0 s.2 in
    (t.0, (s.0, s.1, t.1))
  where
    not_false : (b : Bool) → not b ≡ false → b ≡ true
    not_false true h = refl
    not_false false h = absurd (true≢false h)
