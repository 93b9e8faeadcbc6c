-- Worked values of unions, and of what can be shifted, each made by hand.
use Rattle.std.proofs.Common.{◌≡◌, ◌⊎◌, inl, inr, List, [], ◌∷◌, refl, sym, ap, ◌∙◌, arith}
use Rattle.fore_base.specs.Lists.{IsIn}
use Rattle.ta_core.specs.declared.auto.Rule.{Rule}
use Rattle.ta_core.specs.declared.symbol.Symbol.TheVariants.{Null, Uninit}
use Rattle.ta_core.specs.declared.tree.Tree.{Tree, out-Tree}
use Rattle.ta_core.specs.Auto.{Automaton, automaton}
use Rattle.ta_core.specs.Joined.{IsUnion, CanShift, CanShiftRule}
use Rattle.ta_core.specs.Language.{InLanguage, run, RunEach, run_none}
use Rattle.ta_core.proofs.Runs.{run_tree, widened}
use Rattle.ta_core.proofs.RunRows.{rule, kind, n, uninit, top}

-- 0 = Null; 0 = Uninit; and both
abbrev first : Automaton
first = automaton 1 (0 ∷ []) (rule 0 Null [] ∷ [])

abbrev second : Automaton
second = automaton 1 (0 ∷ []) (rule 0 Uninit [] ∷ [])

abbrev both : Automaton
both = automaton 1 (0 ∷ []) (rule 0 Null [] ∷ rule 0 Uninit [] ∷ [])

no_uninit : InLanguage first uninit → ⊥
no_uninit h = no (top Uninit [] h.2)
  where
    no : (r : Rule) × IsIn r first.rules × (r.state ≡ h.0) × (r.symbol ≡ Uninit) × RunEach first.rules r.children [] → ⊥
    no (r, inl d, e, y, k) = let c = ap kind (sym (ap (λ (x : Rule). x.symbol) d) ∙ y) in omega (arith, c)
    no (r, inr j, e, y, k) = absurd j

uninit_of_both : InLanguage both uninit
uninit_of_both = (0, inl refl, run_tree both.rules (rule 0 Uninit []) [] (inr (inl refl)) run_none)

-- each tree of the union is one of the first or of the second, and each of these is one of the union
a_union : IsUnion first second both
a_union t = (split, join)
  where
    bare : (rules others : List Rule) (ts : List Tree) → RunEach rules [] ts → RunEach others [] ts
    bare rules others [] k = run_none
    bare rules others (t ∷ ts) k = elim k [ ]

    under : (y : Rule) (r : Rule) (others : List Rule) → y.children ≡ [] → r ≡ y
        → RunEach both.rules r.children (out-Tree t).children → RunEach others y.children (out-Tree t).children
    under y r others e d k = rw e (bare both.rules others (out-Tree t).children (rw (d, e) at k))

    split : InLanguage both t → InLanguage first t ⊎ InLanguage second t
    split (q, inr j, r) = absurd j
    split (q, inl e, run r (inl d) s y k) =
        inl (
          0,
          inl refl,
          run (rule 0 Null []) (inl refl) refl (sym (ap (λ (x : Rule). x.symbol) d) ∙ y)
              (under (rule 0 Null []) r first.rules refl d k),
        )
    split (q, inl e, run r (inr (inl d)) s y k) =
        inr (
          0,
          inl refl,
          run (rule 0 Uninit []) (inl refl) refl (sym (ap (λ (x : Rule). x.symbol) d) ∙ y)
              (under (rule 0 Uninit []) r second.rules refl d k),
        )
    split (q, inl e, run r (inr (inr j)) s y k) = absurd j

    join : InLanguage first t ⊎ InLanguage second t → InLanguage both t
    join (inl (q, i, r)) =
        (q, i, widened first.rules both.rules (λ (x : Rule) j. elim j [ inl d ↦ inl d | inr k ↦ absurd k ]) r)
    join (inr (q, i, r)) =
        (q, i, widened second.rules both.rules (λ (x : Rule) j. elim j [ inl d ↦ inr (inl d) | inr k ↦ absurd k ]) r)

-- one that lacks trees of the second is no union, nor is one with a tree that neither has
lacks_trees : IsUnion first second first → ⊥
lacks_trees h = no_uninit
    ((h uninit).1 (inr (0, inl refl, run_tree second.rules (rule 0 Uninit []) [] (inl refl) run_none)))

has_more_trees : IsUnion first first both → ⊥
has_more_trees h = elim ((h uninit).0 uninit_of_both) [ inl i ↦ no_uninit i | inr i ↦ no_uninit i ]

-- 5 more than 4,294,967,290 is the greatest number of 32 bits; one more is none
fits : CanShift 5 4294967290
fits = omega arith

fits_not : CanShift 5 4294967291 → ⊥
fits_not h = omega (arith, h)

-- of a rule the state must fit, and each child
rule_fits : CanShiftRule 5 (rule 4294967290 n (0 ∷ 4294967290 ∷ []))
rule_fits = (omega arith, (omega arith, (omega arith, tt)))

state_fits_not : CanShiftRule 5 (rule 4294967291 Null []) → ⊥
state_fits_not h = let l = h.0 in omega (arith, l)

child_fits_not : CanShiftRule 5 (rule 0 n (0 ∷ 4294967291 ∷ [])) → ⊥
child_fits_not h = let l = h.1.1.0 in omega (arith, l)
