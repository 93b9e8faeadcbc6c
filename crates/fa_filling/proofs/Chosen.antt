-- The trees of an automaton with some rules chosen at its root.
use Rattle.std.proofs.Common.{◌≡◌, inl, inr, ℕ, ◌<◌, ◌+◌, List, [], ◌∷◌, ◌++◌, map, refl, sym, ap, subst, ◌∙◌}
use Rattle.std.proofs.Common.{lt_irrefl, arith}
use Rattle.fore_base.specs.Lists.{IsIn, Every, Paired}
use Rattle.ta_core.specs.declared.auto.Rule.{Rule}
use Rattle.ta_core.specs.declared.tree.Tree.{Tree, out-Tree}
use Rattle.ta_core.specs.Auto.{Automaton, IsRanked, IsRankedRule}
use Rattle.ta_core.specs.Language.{run, RunEach, InLanguage}
use Rattle.fore_base.proofs.ListLemmas.{in_left, in_right, in_append, in_map, in_mapped, every_in, in_every}
use Rattle.fore_base.proofs.ListLemmas.{every_append, every_weaker}
use Rattle.ta_core.proofs.Runs.{along_each, widened_each}
use Rattle.fa_filling.specs.Parted.{chosen, fresh_rule, RunBy}

abbrev Old : ℕ → ℕ → ℕ → Type 0
Old n p q = (p ≡ q) × (p < n)

paired_old : (n : ℕ) (qs : List ℕ) → Every (λ q. q < n) qs → Paired (Old n) qs qs
paired_old n [] h = tt
paired_old n (q ∷ qs) h = ((refl, h.0), paired_old n qs h.1)

module _ (a : Automaton) (rs : List Rule) (proper : Every (IsRankedRule a.states) a.rules)
    (right : (r : Rule) → IsIn r rs → IsIn r a.rules) where
  abbrev rules : List Rule
  rules = a.rules ++ map (fresh_rule a) rs

  low : (x : Rule) → IsIn x a.rules → IsRankedRule a.states x
  low x i = every_in (IsRankedRule a.states) a.rules x proper i

  -- a rule with an old state is an old rule
  old_rule : (x : Rule) (q : ℕ) (ts : List Tree) → IsIn x rules → Old a.states x.state q → RunEach rules x.children ts
      → (o : Rule) × IsIn o a.rules × (o.state ≡ q) × (o.symbol ≡ x.symbol)
      × Paired (Old a.states) x.children o.children
  old_rule x q ts i h k = elim (in_append x a.rules (map (fresh_rule a) rs) i) [
    | inl j ↦ (x, j, h.0, refl, paired_old a.states x.children (low x j).1)
    | inr j ↦ (let m = in_mapped (fresh_rule a) x rs j in
        absurd
        (lt_irrefl a.states
        (let b : a.states < a.states = (let s : x.state ≡ a.states = ap (λ (y : Rule). y.state) m.2 in rw s at h.1) in
        b)))
  ]

  -- its trees are those with a run whose last rule is one of these
  pub chosen_runs : (t : Tree) → InLanguage (chosen a rs) t → (r : Rule) × IsIn r rs × RunBy a.rules r t
  chosen_runs t (q, inl e, run x i s y k) = elim (in_append x a.rules (map (fresh_rule a) rs) i) [
    | inl j ↦ absurd (lt_irrefl a.states (rw (s ∙ e) at (low x j).0))
    | inr j ↦ last x j y k
  ]
    where
      last : (x : Rule) → IsIn x (map (fresh_rule a) rs) → x.symbol ≡ (out-Tree t).symbol
          → RunEach rules x.children (out-Tree t).children → (r : Rule) × IsIn r rs × RunBy a.rules r t
      last x j y k =
          let m = in_mapped (fresh_rule a) x rs j in
          let w : Paired (Old a.states) x.children m.0.children =
          subst (λ (z : Rule). Paired (Old a.states) z.children m.0.children) (sym m.2)
          (paired_old a.states m.0.children (low m.0 (right m.0 m.1)).1) in (
            m.0,
            m.1,
            (
              ap (λ (z : Rule). z.symbol) (sym m.2) ∙ y,
              along_each rules a.rules (Old a.states) old_rule m.0.children w k,
            ),
          )
  chosen_runs t (q, inr e, h) = absurd e

  pub runs_chosen : (t : Tree) (r : Rule) → IsIn r rs → RunBy a.rules r t → InLanguage (chosen a rs) t
  runs_chosen t r i h = (
    a.states,
    inl refl,
    run (fresh_rule a r)
        (in_right _ a.rules (map (fresh_rule a) rs) (in_map (fresh_rule a) r rs i)) refl h.0
        (widened_each a.rules rules (λ x i. in_left x a.rules (map (fresh_rule a) rs) i) h.1),
  )

  every_more : (qs : List ℕ) → Every (λ q. q < a.states) qs → Every (λ q. q < a.states + 1) qs
  every_more qs h = every_weaker (λ (q : ℕ). q < a.states) (λ (q : ℕ). q < a.states + 1) qs
      (λ q (l : q < a.states). omega (arith, l)) h

  old_more : (x : Rule) → IsRankedRule a.states x → IsRankedRule (a.states + 1) x
  old_more x h = let l = h.0 in (omega (arith, l), every_more x.children h.1, h.2)

  fresh_more : (x : Rule) → IsIn x (map (fresh_rule a) rs) → IsRankedRule (a.states + 1) x
  fresh_more x i =
      let m = in_mapped (fresh_rule a) x rs i in
      let h = low m.0 (right m.0 m.1) in
      subst (IsRankedRule (a.states + 1)) (sym m.2) (omega arith, every_more m.0.children h.1, h.2)

  -- it is proper
  pub chosen_proper : IsRanked (chosen a rs)
  chosen_proper = (
    (omega arith, tt),
    every_append (IsRankedRule (a.states + 1)) a.rules (map (fresh_rule a) rs)
        (every_weaker (IsRankedRule a.states) (IsRankedRule (a.states + 1)) a.rules old_more proper)
        (in_every (IsRankedRule (a.states + 1)) (map (fresh_rule a) rs) fresh_more),
  )
