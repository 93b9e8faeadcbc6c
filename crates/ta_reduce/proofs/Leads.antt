-- Rules that match the others of the only root state.
use Rattle.std.proofs.Common.{◌≡◌, inl, ℕ, List, [], ◌∷◌, refl, sym, ap, subst, ◌∙◌}
use Rattle.fore_base.specs.Lists.{IsIn, Every, IsDistinct, Paired}
use Rattle.fore_base.proofs.ListLemmas.{every_in, in_from_place, place_of, paired_same}
use Rattle.ta_core.specs.declared.auto.Rule.{Rule}
use Rattle.ta_core.specs.declared.tree.Tree.{Tree}
use Rattle.ta_core.specs.Auto.{Automaton}
use Rattle.ta_core.specs.Language.{RunOf, InLanguage, HasSameLanguage, HasTree}
use Rattle.ta_core.specs.Simulations.{IsSimulated, AutoReduced}
use Rattle.ta_core.specs.Single.{HasOneTop, HasSameTop}
use Rattle.ta_sim.proofs.Simulated.{simulated_same}
use Rattle.ta_reduce.specs.inner.Leading.{IsLed}

-- a root state that has a tree: where the language is the same, and there is one root state, that one has it
pub tree_kept : (a b : Automaton) (p q : ℕ) → HasSameLanguage a b → IsIn p a.roots → Every (λ x. x ≡ q) b.roots
    → HasTree a.rules p → HasTree b.rules q
tree_kept a b p q h i d t =
    let w = (h t.0).0 (p, i, t.1) in
    (t.0, subst (λ (x : ℕ). RunOf b.rules x t.0) (every_in (λ (x : ℕ). x ≡ q) b.roots w.0 d w.1) w.2)

-- an only rule matches all
pub led_from : (a : Automaton) (t : Tree) → InLanguage a t → HasSameTop a → IsLed a
led_from a t l h = record {
  root = h.root;
  listed = h.listed;
  alone = h.alone;
  tree = (t, subst (λ (x : ℕ). RunOf a.rules x t) (every_in (λ (x : ℕ). x ≡ h.root) a.roots l.0 h.alone l.1) l.2);
  rule = h.rule;
  there = h.there;
  top = h.top;
  leads =
      λ r i e.
      (let s = h.only r i e in
      subst (λ (x : Rule). (h.rule.symbol ≡ x.symbol) × Paired (IsSimulated a.rules) x.children h.rule.children) (sym s)
      (refl, paired_same (IsSimulated a.rules) (simulated_same a.rules) h.rule.children));
}

-- an only item, listed once
only_once : (q : ℕ) (qs : List ℕ) → IsIn q qs → Every (λ x. x ≡ q) qs → IsDistinct qs → qs ≡ q ∷ []
only_once q [] i e d = absurd i
only_once q (x ∷ []) i e d = ap (λ (y : ℕ). y ∷ []) e.0
only_once q (x ∷ (y ∷ ys)) i e d = absurd (d.0 (inl (e.0 ∙ sym e.1.0)))

-- in a reduced automaton the rule is alone
pub top_from : (a : Automaton) → AutoReduced a → IsDistinct a.roots → IsLed a → HasOneTop a
top_from a n d l =
    let w = place_of a.rules l.rule l.there in
    record {
      root = l.root;
      alone = only_once l.root a.roots l.listed l.alone d;
      place = w.0;
      rule = l.rule;
      there = w.1;
      top = l.top;
      only =
          λ i r e s.
          (let k = l.leads r (in_from_place a.rules i r e) s in
          n.needed i w.0 (r, l.rule, e, w.1, s ∙ sym l.top, sym k.0, k.1));
    }
