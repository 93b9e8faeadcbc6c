-- A tree of a trimmed automaton with a symbol of a kind at its top, or none.
use Rattle.std.proofs.Common.{◌≡◌, ◌⊎◌, inl, inr, ℕ, Bool, true, false, true≢false, ◌&&◌, refl, sym}
use Rattle.std.proofs.Common.{ap, subst, ◌∙◌}
use Rattle.std.specs.List.{list_any}
use Rattle.std.proofs.lemmas.Bool.{and_parts, and_from}
use Rattle.fore_base.specs.Lists.{IsIn}
use Rattle.fore_base.proofs.ListLemmas.{in_any, any_in}
use Rattle.ta_core.specs.Auto.{Automaton, IsRanked}
use Rattle.ta_core.specs.Language.{InLanguage, IsTrim, run}
use Rattle.ta_core.specs.declared.auto.Rule.{Rule}
use Rattle.ta_core.specs.declared.symbol.Symbol.{Symbol}
use Rattle.ta_core.specs.declared.tree.Tree.{Tree, out-Tree}
use Rattle.fa_core.specs.Ways.{has}
use Rattle.fa_back.proofs.RootMarks.{in_has, has_in}
use Rattle.fa_boxes.proofs.TopRules.{rule_tree}

module _ (a : Automaton) (ranked : IsRanked a) (trim : IsTrim a) (p : Symbol → Bool) where
  abbrev Found : Type 0
  Found = (t : Tree) × InLanguage a t × (p (out-Tree t).symbol ≡ true)

  abbrev None : Type 0
  None = (t : Tree) → InLanguage a t → p (out-Tree t).symbol ≡ false

  abbrev at_top : Rule → Bool
  at_top r = has r.state a.roots && p r.symbol

  top_tree : (r : Rule) → IsIn r a.rules → at_top r ≡ true → Found
  top_tree r i e =
      let b = and_parts (has r.state a.roots) (p r.symbol) e in
      let k = rule_tree a ranked trim r i (has_in r.state a.roots b.0) in
      (k.0, k.1, ap p k.2 ∙ b.1)

  pub found_or_none : Found ⊎ None
  found_or_none = here (list_any at_top a.rules) refl
    where
      none_here : list_any at_top a.rules ≡ false → None
      none_here e t (q, i, run r j s y k) = last (p (out-Tree t).symbol) refl
        where
          last : (v : Bool) → p (out-Tree t).symbol ≡ v → p (out-Tree t).symbol ≡ false
          last true w =
              let l : has r.state a.roots ≡ true = in_has r.state a.roots (subst (λ (x : ℕ). IsIn x a.roots) (sym s) i)
              in
              let m : p r.symbol ≡ true = ap p y ∙ w in
              let o = in_any at_top a.rules r j (and_from (has r.state a.roots) (p r.symbol) l m) in
              absurd (true≢false (sym o ∙ e))
          last false w = w

      here : (v : Bool) → list_any at_top a.rules ≡ v → Found ⊎ None
      here true e = inl (let w = any_in at_top a.rules e in top_tree w.0 w.1 w.2)
      here false e = inr (none_here e)
