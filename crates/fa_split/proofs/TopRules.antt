-- Automata of which one rule stands at the top of each tree.
use Rattle.std.proofs.Common.{◌≡◌, ◌≢◌, inl, inr, ℕ, zero, suc, ◌<◌, ◌||◌, Bool, true, false, true≢false, nat_eq}
use Rattle.std.proofs.Common.{if◌then◌else◌, length, List, [], ◌∷◌, ◌++◌, refl, sym, ap, subst, ◌∙◌, slice_get, Some}
use Rattle.std.proofs.Common.{arith}
use Rattle.std.proofs.lemmas.Bool.{eqb-true, eq-eqb}
use Rattle.std.proofs.lemmas.Option.{none-some, same_Some}
use Rattle.fore_base.specs.Lists.{IsIn, Every}
use Rattle.fore_base.proofs.ListLemmas.{in_from_place, place_of}
use Rattle.ta_core.specs.Auto.{Automaton, automaton}
use Rattle.ta_core.specs.Language.{run, InLanguage}
use Rattle.ta_core.specs.Single.{HasOneTop}
use Rattle.ta_core.specs.declared.auto.Rule.{Rule}
use Rattle.ta_core.specs.declared.tree.Tree.{Tree}
use Rattle.fa_core.specs.Ways.{has}
use Rattle.fa_split.specs.Chosen.{IsBy}
use Rattle.fa_split.specs.Split.{first_of, top_rule}

-- the first rule at one of the states, where each such rule stands at one place
first_is : (qs : List ℕ) (xs : List Rule) (i : ℕ) (x : Rule) → slice_get xs i ≡ Some x → has x.state qs ≡ true
    → ((j : ℕ) (y : Rule) → slice_get xs j ≡ Some y → has y.state qs ≡ true → j ≡ i) → first_of qs xs ≡ x
first_is qs [] i x e h only = absurd (none-some x e)
first_is qs (y ∷ xs) zero x e h only =
    let same : y ≡ x = same_Some y x e in
    let t : has y.state qs ≡ true = subst (λ (z : Rule). has z.state qs ≡ true) (sym same) h in
    rw t same
first_is qs (y ∷ xs) (suc i) x e h only =
    here (has y.state qs) refl (first_is qs xs i x e h (λ j z g t. let w = only (suc j) z g t in omega (arith, w)))
  where
    here : (b : Bool) → has y.state qs ≡ b → first_of qs xs ≡ x → (if b then y else first_of qs xs) ≡ x
    here true t later = absurd (let w = only 0 y refl t in omega (arith, w))
    here false t later = later

has_one : (q r : ℕ) → q ≡ r → has q (r ∷ []) ≡ true
has_one q r e = let w : nat_eq q r ≡ true = eq-eqb q r e in rw w refl

one_has : (q r : ℕ) → has q (r ∷ []) ≡ true → q ≡ r
one_has q r h = here (nat_eq q r) refl h
  where
    here : (b : Bool) → nat_eq q r ≡ b → (b || false) ≡ true → q ≡ r
    here true e k = eqb-true q r e
    here false e k = absurd (true≢false (sym k))

module _ (a : Automaton) (h : HasOneTop a) where
  -- it is the one that the automaton has
  pub top_is : top_rule a ≡ h.rule
  top_is = subst (λ (qs : List ℕ). first_of qs a.rules ≡ h.rule) (sym h.alone)
      (first_is (h.root ∷ []) a.rules h.place h.rule h.there (has_one h.rule.state h.root h.top)
      (λ j y e t. h.only j y e (one_has y.state h.root t)))

  pub top_in : IsIn (top_rule a) a.rules
  top_in = subst (λ (x : Rule). IsIn x a.rules) (sym top_is) (in_from_place a.rules h.place h.rule h.there)

  pub top_state : (top_rule a).state ≡ h.root
  top_state = ap (λ (x : Rule). x.state) top_is ∙ h.top

  pub top_root : IsIn (top_rule a).state a.roots
  top_root = subst (λ (qs : List ℕ). IsIn (top_rule a).state qs) (sym h.alone) (inl top_state)

  -- a rule of a root state is that rule
  pub top_alone : (o : Rule) → IsIn o a.rules → IsIn o.state a.roots → o ≡ top_rule a
  top_alone o i j =
      let p = place_of a.rules o i in
      let s : o.state ≡ h.root = one (subst (λ (qs : List ℕ). IsIn o.state qs) h.alone j) in
      let k : p.0 ≡ h.place = h.only p.0 o p.1 s in
      let e : slice_get a.rules h.place ≡ Some o = subst (λ (n : ℕ). slice_get a.rules n ≡ Some o) k p.1 in
      same_Some o h.rule (sym e ∙ h.there) ∙ sym top_is
    where
      one : IsIn o.state (h.root ∷ []) → o.state ≡ h.root
      one (inl e) = e
      one (inr e) = absurd e

  -- each tree is by that rule, and each by that rule is a tree
  pub tree_by_top : (t : Tree) → InLanguage a t → IsBy a.rules (top_rule a) t
  tree_by_top t (q, j, run o i s y k) =
      subst (λ (x : Rule). IsBy a.rules x t) (top_alone o i (subst (λ (z : ℕ). IsIn z a.roots) (sym s) j)) (y, k)

  pub top_by_tree : (t : Tree) → IsBy a.rules (top_rule a) t → InLanguage a t
  top_by_tree t k = ((top_rule a).state, top_root, run (top_rule a) top_in refl k.0 k.1)

-- a rule at a root state of its own, behind rules at lower states and before rules at others
pub fresh_top_one : (n m : ℕ) (xs : List Rule) (x : Rule) (ys : List Rule) → x.state ≡ n
    → Every (λ (o : Rule). o.state < n) xs → Every (λ (o : Rule). o.state ≢ n) ys
    → HasOneTop (automaton m (n ∷ []) (xs ++ x ∷ ys))
fresh_top_one n m xs x ys s low other = record {
  root = n;
  alone = refl;
  place = length xs;
  rule = x;
  there = there xs;
  top = s;
  only = only xs low;
}
  where
    there : (xs : List Rule) → slice_get (xs ++ x ∷ ys) (length xs) ≡ Some x
    there [] = refl
    there (o ∷ xs) = there xs

    none : (ys : List Rule) → Every (λ (o : Rule). o.state ≢ n) ys → (i : ℕ) (r : Rule) → slice_get ys i ≡ Some r
        → r.state ≡ n → ⊥
    none [] w i r e t = none-some r e
    none (y ∷ ys) w zero r e t = w.0 (ap (λ (o : Rule). o.state) (same_Some y r e) ∙ t)
    none (y ∷ ys) w (suc i) r e t = none ys w.1 i r e t

    only : (xs : List Rule) → Every (λ (o : Rule). o.state < n) xs → (i : ℕ) (r : Rule) → slice_get (xs ++ x ∷ ys) i
        ≡ Some r → r.state ≡ n → i ≡ length xs
    only [] l zero r e t = refl
    only [] l (suc i) r e t = absurd (none ys other i r e t)
    only (o ∷ xs) l zero r e t =
        (let w : o.state ≡ n = ap (λ (z : Rule). z.state) (same_Some o r e) ∙ t in let b = l.0 in
        absurd (omega (arith, w, b)))
    only (o ∷ xs) l (suc i) r e t = ap (λ k. suc k) (only xs l.1 i r e t)
