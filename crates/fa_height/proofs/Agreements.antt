-- Agreement to a height, one height after another.
use Rattle.std.proofs.Common.{◌≡◌, inl, inr, ℕ, suc, ◌<◌, ◌+◌, List, [], ◌∷◌, ◌++◌, length, refl, sym, ap, subst, ◌∙◌}
use Rattle.std.proofs.Common.{arith}
use Rattle.std.proofs.lemmas.Bool.{cases_order}
use Rattle.std.proofs.lemmas.List.{get_or_push, get_or_append_left}
use Rattle.fore_base.specs.Lists.{IsIn, Every, Paired}
use Rattle.fore_base.proofs.ListLemmas.{in_left, in_right, in_push, every_in, in_every}
use Rattle.ta_core.specs.Auto.{IsRankedRule}
use Rattle.ta_core.specs.declared.auto.Rule.{Rule}
use Rattle.fa_height.specs.Quotients.{AreMatched, Agree}
use Rattle.fa_height.specs.inner.Agreeing.{AreRulesOf, AreRulesEach, rules_at, HasMatch, AreMatchedIn, AreAlike}
use Rattle.fa_height.specs.inner.Agreeing.{IsRefined, IsAgreement}
use Rattle.ta_classes.specs.Classes.{IsEquivalence, IsOneClass}

-- Rules by state.

pub rules_add : (rules list : List Rule) (q : ℕ) (r : Rule) → AreRulesOf rules q list → r.state ≡ q
    → AreRulesOf (rules ++ r ∷ []) q (list ++ r ∷ [])
rules_add rules list q r h e x = (
  (λ i. elim (in_push r x list i) [
    | inl j ↦ (in_left x rules (r ∷ []) ((h x).0 j).0, ((h x).0 j).1)
    | inr d ↦ (in_right x rules (r ∷ []) (inl d), ap (λ (y : Rule). y.state) d ∙ e)
  ]),
  (λ k. elim (in_push r x rules k.0) [
    | inl j ↦ in_left x list (r ∷ []) ((h x).1 (j, k.1))
    | inr d ↦ in_right x list (r ∷ []) (inl d)
  ]),
)

pub rules_skip : (rules list : List Rule) (q : ℕ) (r : Rule) → AreRulesOf rules q list → (r.state ≡ q → ⊥)
    → AreRulesOf (rules ++ r ∷ []) q list
rules_skip rules list q r h f x = (
  (λ i. (in_left x rules (r ∷ []) ((h x).0 i).0, ((h x).0 i).1)),
  (λ k. elim (in_push r x rules k.0) [
    | inl j ↦ (h x).1 (j, k.1)
    | inr d ↦ absurd (f (sym (ap (λ (y : Rule). y.state) d) ∙ k.1))
  ]),
)

-- Being alike by classes is an equivalence.

module _ (classes : List ℕ) where
  class_same : (qs : List ℕ) → Paired (IsOneClass classes) qs qs
  class_same [] = tt
  class_same (q ∷ qs) = (refl, class_same qs)

  class_through : (ps qs rs : List ℕ) → Paired (IsOneClass classes) ps qs → Paired (IsOneClass classes) qs rs
      → Paired (IsOneClass classes) ps rs
  class_through [] [] [] h k = tt
  class_through [] [] (r ∷ rs) h k = absurd k
  class_through [] (q ∷ qs) rs h k = absurd h
  class_through (p ∷ ps) [] rs h k = absurd h
  class_through (p ∷ ps) (q ∷ qs) [] h k = absurd k
  class_through (p ∷ ps) (q ∷ qs) (r ∷ rs) h k = (h.0 ∙ k.0, class_through ps qs rs h.1 k.1)

  module _ (table : List (List Rule)) where
    matched_same : (p : ℕ) → AreMatchedIn table classes p p
    matched_same p = in_every (HasMatch classes (rules_at table p)) (rules_at table p)
        (λ r i. (r, i, (refl, class_same r.children)))

    matched_through : (p q r : ℕ) → AreMatchedIn table classes p q → AreMatchedIn table classes q r
        → AreMatchedIn table classes p r
    matched_through p q r h k = in_every (HasMatch classes (rules_at table r)) (rules_at table p) (λ x i.
        let a = every_in (HasMatch classes (rules_at table q)) (rules_at table p) x h i in
        let b = every_in (HasMatch classes (rules_at table r)) (rules_at table q) a.0 k a.1 in
        (b.0, b.1, (b.2.0 ∙ a.2.0, class_through x.children a.0.children b.0.children a.2.1 b.2.1)))

    pub alike_equivalence : (count : ℕ) → IsEquivalence count (AreAlike table classes)
    alike_equivalence count = record {
      same = λ p l. (matched_same p, matched_same p);
      turned = λ p q h. (h.1, h.0);
      through = λ p q r h k. (matched_through p q r h.0 k.0, matched_through r q p k.1 h.1);
    }

-- One height more.

module _ (n : ℕ) (rules : List Rule) (ranked : Every (IsRankedRule n) rules) (table : List (List Rule))
    (own : AreRulesEach rules n table) (k : ℕ) (old : List ℕ) (h : IsAgreement rules n k old) where
  agree_each : (ps qs : List ℕ) → Every (λ q. q < n) ps → Every (λ q. q < n) qs → Paired (IsOneClass old) ps qs
      → Paired (Agree rules k) ps qs
  agree_each [] [] l m d = tt
  agree_each [] (q ∷ qs) l m d = absurd d
  agree_each (p ∷ ps) [] l m d = absurd d
  agree_each (p ∷ ps) (q ∷ qs) l m d = ((h p q l.0 m.0).0 d.0, agree_each ps qs l.1 m.1 d.1)

  class_each : (ps qs : List ℕ) → Every (λ q. q < n) ps → Every (λ q. q < n) qs → Paired (Agree rules k) ps qs
      → Paired (IsOneClass old) ps qs
  class_each [] [] l m d = tt
  class_each [] (q ∷ qs) l m d = absurd d
  class_each (p ∷ ps) [] l m d = absurd d
  class_each (p ∷ ps) (q ∷ qs) l m d = ((h p q l.0 m.0).1 d.0, class_each ps qs l.1 m.1 d.1)

  low : (r : Rule) → IsIn r rules → Every (λ q. q < n) r.children
  low r i = (every_in (IsRankedRule n) rules r ranked i).1

  matched_by : (p q : ℕ) → p < n → q < n → AreMatchedIn table old p q → AreMatched rules (Agree rules k) p q
  matched_by p q l m d r i e =
      let a = every_in (HasMatch old (rules_at table q)) (rules_at table p) r d ((own p l r).1 (i, e)) in
      let b = (own q m a.0).0 a.1 in
      (a.0, b.0, b.1, a.2.0, agree_each r.children a.0.children (low r i) (low a.0 b.0) a.2.1)

  matched_to : (p q : ℕ) → p < n → q < n → AreMatched rules (Agree rules k) p q → AreMatchedIn table old p q
  matched_to p q l m d = in_every (HasMatch old (rules_at table q)) (rules_at table p) (λ r i.
      let b = (own p l r).0 i in
      let a = d r b.0 b.1 in
      (a.0, (own q m a.0).1 (a.1, a.2), (a.3, class_each r.children a.0.children (low r b.0) (low a.0 a.1) a.4)))

  pub agree_more : (new : List ℕ) → IsRefined table old n new → IsAgreement rules n (suc k) new
  agree_more new f p q l m = (
    (λ e. let a = (f p q l m).0 e in (matched_by p q l m a.0, matched_by q p m l a.1)),
    (λ a. (f p q l m).1 (matched_to p q l m a.0, matched_to q p m l a.1)),
  )

-- the rules of one more state
pub each_add : (rules : List Rule) (k : ℕ) (table : List (List Rule)) (list : List Rule) → length table ≡ k
    → AreRulesEach rules k table → AreRulesOf rules k list → AreRulesEach rules (k + 1) (table ++ list ∷ [])
each_add rules k table list e h own q l = elim (cases_order q k) [
  | inl d ↦ subst (λ (n : ℕ). AreRulesOf rules n (rules_at (table ++ list ∷ []) n)) (sym d)
      (subst (AreRulesOf rules k) (sym (get_or_push table list [] k e)) own)
  | inr o ↦ elim o [
    | inl j ↦ subst (AreRulesOf rules q) (sym (get_or_append_left table (list ∷ []) [] q (rw e j))) (h q j)
    | inr j ↦ absurd (omega (arith, j, l))
  ]
]
