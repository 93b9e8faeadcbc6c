-- Rules over pairs: each choice of pairs for a rule's children is met, and what one more rule adds.
use Rattle.std.proofs.Common.{◌≡◌, ◌↔◌, ◌⊎◌, inl, inr, ℕ, zero, suc, ◌+◌, ◌<◌, true, true≢false, eqb, eq-eqb, List, []}
use Rattle.std.proofs.Common.{◌∷◌, ◌++◌, length, Some, slice_get, refl, sym, ap, subst, ◌∙◌, arith}
use Rattle.std.proofs.lemmas.Bool.{or_cases, or_right, eqb-true}
use Rattle.std.proofs.lemmas.List.{append_assoc}
use Rattle.std.proofs.lemmas.Option.{same_Some, slice_get_within}
use Rattle.fore_base.specs.Lists.{IsIn, Every, Paired, IsDistinct}
use Rattle.fore_base.proofs.ListLemmas.{in_left, in_right, in_append, in_last, in_push, in_from_place, every_in}
use Rattle.fore_base.proofs.ListLemmas.{in_every, partner_of, partner_for, paired_long, paired_push}
use Rattle.ta_core.specs.Arity.{arity}
use Rattle.ta_core.specs.Auto.{IsRankedRule}
use Rattle.ta_core.specs.declared.auto.Rule.{Rule}
use Rattle.fa_core.specs.declared.faces.BoxFace.{BoxFace}
use Rattle.fa_core.specs.declared.signature.RefMark.{RefMark}
use Rattle.fa_core.specs.declared.signature.Below.{Below}
use Rattle.fa_core.specs.Ways.{has}
use Rattle.fa_signatures.specs.inner.CutPairs.{Pair, IsPairOf, ArePlacesOf, seen_over, IsPairRule, ArePairRules}
use Rattle.fa_signatures.specs.inner.CutPairs.{IsRootPair, AreRootMarks, GrowsOr, StandsOver, AddsRule, AddsEach}
use Rattle.fa_signatures.specs.inner.CutPairs.{AddsRules}
use Rattle.fa_signatures.specs.inner.CutProducts.{product}
use Rattle.fa_signatures.proofs.ProductItems.{IsOfEach, in_product, product_in}

-- pairs were added in one of two steps; or none was, and what both steps then say holds
pub grows_on : (p q s : List Pair) (P R : Type 0) (Q : List Pair → Type 0) → GrowsOr p q P → GrowsOr q s (Q q)
    → (P → Q p → R) → GrowsOr p s R
grows_on p q s P R Q (inl l) (inl k) f = inl (omega (arith, l, k))
grows_on p q s P R Q (inl l) (inr k) f = inl (subst (λ (v : List Pair). length p < length v) (sym k.0) l)
grows_on p q s P R Q (inr h) (inl k) f = inl (subst (λ (v : List Pair). length v < length s) h.0 k)
grows_on p q s P R Q (inr h) (inr k) f = inr (k.0 ∙ h.0, f h.1 (subst Q h.0 k.1))

-- pairs were added, or what follows holds
pub grows_to : (p q : List Pair) (P R : Type 0) → GrowsOr p q P → (P → R) → GrowsOr p q R
grows_to p q P R (inl l) f = inl l
grows_to p q P R (inr h) f = inr (h.0, f h.1)

-- where none was added, what holds then holds
pub grows_none : (p q : List Pair) (P : List Pair → Type 0) → GrowsOr p q (P p) → length q ≡ length p → P q
grows_none p q P (inl l) e = absurd (omega (arith, l, e))
grows_none p q P (inr h) e = subst P (sym h.0) h.1

-- where the number changed, some were added
pub grows_some : (p q : List Pair) (P : Type 0) → GrowsOr p q P → (length q ≡ length p → ⊥) → length p < length q
grows_some p q P (inl l) n = l
grows_some p q P (inr h) n = absurd (n (ap (λ (v : List Pair). length v) h.0))

module _ (pairs : List Pair) where
  -- one place of each list of places, and pairs of the states
  pub pairs_chosen : (ks : List ℕ) (options : List (List ℕ)) (qs : List ℕ) → Paired (ArePlacesOf pairs) options qs
      → IsOfEach ks options → Paired (IsPairOf pairs) ks qs
  pairs_chosen [] [] [] h c = tt
  pairs_chosen [] [] (q ∷ qs) h c = absurd h
  pairs_chosen [] (o ∷ options) qs h c = absurd c
  pairs_chosen (k ∷ ks) [] qs h c = absurd c
  pairs_chosen (k ∷ ks) (o ∷ options) [] h c = absurd h
  pairs_chosen (k ∷ ks) (o ∷ options) (q ∷ qs) h c = ((h.0 k).0 c.0, pairs_chosen ks options qs h.1 c.1)

  pub chosen_pairs : (ks : List ℕ) (options : List (List ℕ)) (qs : List ℕ) → Paired (ArePlacesOf pairs) options qs
      → Paired (IsPairOf pairs) ks qs → IsOfEach ks options
  chosen_pairs [] [] [] h c = tt
  chosen_pairs [] [] (q ∷ qs) h c = absurd h
  chosen_pairs [] (o ∷ options) [] h c = absurd h
  chosen_pairs [] (o ∷ options) (q ∷ qs) h c = absurd c
  chosen_pairs (k ∷ ks) [] [] h c = absurd c
  chosen_pairs (k ∷ ks) [] (q ∷ qs) h c = absurd h
  chosen_pairs (k ∷ ks) (o ∷ options) [] h c = absurd h
  chosen_pairs (k ∷ ks) (o ∷ options) (q ∷ qs) h c = ((h.0 k).1 c.0, chosen_pairs ks options qs h.1 c.1)

  -- places of pairs are within the list
  pub places_within : (ks qs : List ℕ) → Paired (IsPairOf pairs) ks qs → Every (λ (k : ℕ). k < length pairs) ks
  places_within [] [] h = tt
  places_within [] (q ∷ qs) h = tt
  places_within (k ∷ ks) [] h = absurd h
  places_within (k ∷ ks) (q ∷ qs) h = (slice_get_within pairs k (q, h.0.0) h.0.1, places_within ks qs h.1)

  module _ (bs : List BoxFace) (told : List ℕ) where
    -- over the places that were chosen, the rule o stands for r
    stands_rule : (r o : Rule) (ks : List ℕ) → Paired (IsPairOf pairs) ks r.children → StandsOver bs told pairs r ks o
        → IsPairRule bs told pairs o r
    stands_rule r o ks h s = (
      s.0,
      subst (λ (v : List ℕ). Paired (IsPairOf pairs) v r.children) (sym s.1) h,
      s.2
          ∙ ap (λ (v : List ℕ). Some (r.state, seen_over bs told pairs r v)) (sym s.1),
    )

    -- one rule for each choice is all that was wanted
    pub adds_rules : (r : Rule) (options : List (List ℕ)) (old new : List Rule)
        → Paired (ArePlacesOf pairs) options r.children → AddsEach bs told pairs r (product options) old new
        → AddsRules bs told pairs r old new
    adds_rules r options old new h a = record {
      more = a.0;
      is = a.1;
      from = in_every (λ (o : Rule). IsPairRule bs told pairs o r) a.0 (λ o i.
          let p = partner_of (StandsOver bs told pairs r) (product options) a.0 o a.2 i in
          stands_rule r o p.0 (pairs_chosen p.0 options r.children h (product_in p.0 options p.1)) p.2);
      all = λ ks c.
          let p = partner_for (StandsOver bs told pairs r) (product options) a.0 ks a.2
          (in_product ks options (chosen_pairs ks options r.children h c)) in
          (p.0, p.1, p.2.1, stands_rule r p.0 ks c p.2);
    }

    -- the rules over pairs with those of one more rule
    pub rules_push : (rs : List Rule) (r : Rule) (old new : List Rule) → ArePairRules bs told pairs rs old
        → AddsRules bs told pairs r old new → ArePairRules bs told pairs (rs ++ r ∷ []) new
    rules_push rs r old new h a = record {
      from = λ o i. elim (in_append o old a.more (subst (λ (v : List Rule). IsIn o v) a.is i)) [
        | inl j ↦ (let f = h.from o j in (f.0, in_left f.0 rs (r ∷ []) f.1, f.2))
        | inr j ↦ (r, in_last r rs, every_in (λ (x : Rule). IsPairRule bs told pairs x r) a.more o a.from j)
      ];
      all = λ x ks i c. elim (in_push r x rs i) [
        | inl j ↦ (let f = h.all x ks j c in
            (f.0, subst (λ (v : List Rule). IsIn f.0 v) (sym a.is) (in_left f.0 old a.more f.1), f.2, f.3))
        | inr e ↦ (
            let f = a.all ks (subst (λ (v : Rule). Paired (IsPairOf pairs) ks v.children) e c) in (
              f.0,
              subst (λ (v : List Rule). IsIn f.0 v) (sym a.is) (in_right f.0 old a.more f.1),
              f.2,
              subst (λ (v : Rule). IsPairRule bs told pairs f.0 v) (sym e) f.3,
            ))
      ];
    }

    -- the rules over pairs have states in range, and as many children as their symbols
    pub over_ranked : (n : ℕ) (rs over : List Rule) → ArePairRules bs told pairs rs over → Every (IsRankedRule n) rs
        → Every (IsRankedRule (length pairs)) over
    over_ranked n rs over h k = in_every (IsRankedRule (length pairs)) over (λ o i.
        let f = h.from o i in
        let g = every_in (IsRankedRule n) rs f.0 k f.1 in (
          slice_get_within pairs o.state (f.0.state, seen_over bs told pairs f.0 o.children) f.2.2,
          places_within o.children f.0.children f.2.1,
          paired_long (IsPairOf pairs) o.children f.0.children f.2.1 ∙ g.2 ∙ ap arity (sym f.2.0),
        ))

    -- one more choice, with its rule
    pub each_push : (r : Rule) (done : List (List ℕ)) (ks : List ℕ) (old mid new : List Rule)
        → AddsEach bs told pairs r done old mid → AddsRule bs told pairs r ks mid new
        → AddsEach bs told pairs r (done ++ ks ∷ []) old new
    each_push r done ks old mid new a b = (
      a.0 ++ b.0 ∷ [],
      b.2 ∙ ap (λ (v : List Rule). v ++ b.0 ∷ []) a.1 ∙ append_assoc old a.0 (b.0 ∷ []),
      paired_push (StandsOver bs told pairs r) done a.0 ks b.0 a.2 b.1,
    )

-- Places

below_or_same : (k n : ℕ) → k < n + 1 → (k < n) ⊎ (k ≡ n)
below_or_same k n l = grind (arith, l)

-- the numbers that meet P, up to one more number
pub places_push : (P : ℕ → Type 0) (places : List ℕ) (n : ℕ) → P n → ((k : ℕ) → IsIn k places ↔ ((k < n) × P k))
    → (k : ℕ) → IsIn k (places ++ n ∷ []) ↔ ((k < n + 1) × P k)
places_push P places n p h k = (
  λ i. elim (in_push n k places i) [
    | inl j ↦ (let w = (h k).0 j in (omega (arith, w.0), w.1))
    | inr e ↦ (omega (arith, e), subst P (sym e) p)
  ],
  λ w. elim (below_or_same k n w.0) [
    | inl l ↦ in_left k places (n ∷ []) ((h k).1 (l, w.1))
    | inr e ↦ subst (λ (m : ℕ). IsIn m (places ++ n ∷ [])) (sym e) (in_last n places)
  ],
)

pub places_skip : (P : ℕ → Type 0) (places : List ℕ) (n : ℕ) → (P n → ⊥) → ((k : ℕ) → IsIn k places ↔ ((k < n) × P k))
    → (k : ℕ) → IsIn k places ↔ ((k < n + 1) × P k)
places_skip P places n p h k = (
  λ i. let w = (h k).0 i in (omega (arith, w.0), w.1),
  λ w. elim (below_or_same k n w.0) [
    | inl l ↦ (h k).1 (l, w.1)
    | inr e ↦ absurd (p (subst P e w.1))
  ],
)

pub places_all : (P : ℕ → Type 0) (places : List ℕ) (n : ℕ) → ((k : ℕ) → P k → k < n)
    → ((k : ℕ) → IsIn k places ↔ ((k < n) × P k)) → (k : ℕ) → IsIn k places ↔ P k
places_all P places n l h k = (λ i. ((h k).0 i).1, λ p. (h k).1 (l k p, p))

-- a root state's pair is in the list
pub root_low : (pairs : List Pair) (roots : List ℕ) (marks : List RefMark) (k : ℕ) → IsRootPair pairs roots marks k
    → k < length pairs
root_low pairs roots marks k w = slice_get_within pairs k (w.0, w.1) w.3

pub roots_low : (pairs : List Pair) (roots : List ℕ) (marks : List RefMark) (places : List ℕ)
    → ((k : ℕ) → IsIn k places ↔ IsRootPair pairs roots marks k) → Every (λ (k : ℕ). k < length pairs) places
roots_low pairs roots marks places h =
    in_every (λ (k : ℕ). k < length pairs) places (λ k i. root_low pairs roots marks k ((h k).0 i))

-- Signatures of pairs with root states

pub has_in : (n : ℕ) (ns : List ℕ) → has n ns ≡ true → IsIn n ns
has_in n [] e = absurd (true≢false (sym e))
has_in n (m ∷ ns) e = elim (or_cases (eqb n m) (has n ns) e) [
  | inl here ↦ inl (eqb-true n m here)
  | inr later ↦ inr (has_in n ns later)
]

pub in_has : (n : ℕ) (ns : List ℕ) → IsIn n ns → has n ns ≡ true
in_has n [] i = absurd i
in_has n (m ∷ ns) (inl e) = let here : eqb n m ≡ true = eq-eqb n m e in rw here refl
in_has n (m ∷ ns) (inr i) = or_right (eqb n m) (has n ns) (in_has n ns i)

module _ (done : List Pair) (roots : List ℕ) (all : List (List RefMark)) (h : AreRootMarks done roots all) (x : Pair)
  where
    still_there : (m : List RefMark) → IsIn m all → (q : ℕ) × (y : Below) × IsIn q roots × IsIn (q, y) (done ++ x ∷ [])
        × (y.marks ≡ m)
    still_there m i = let w = (h m).0 i in (w.0, w.1, w.2, in_left (w.0, w.1) done (x ∷ []) w.3, w.4)

    -- one more pair, with its signature
    pub marks_push : IsIn x.0 roots → AreRootMarks (done ++ x ∷ []) roots (all ++ x.1.marks ∷ [])
    marks_push r m = (
      λ i. elim (in_push x.1.marks m all i) [
        | inl j ↦ still_there m j
        | inr e ↦ (x.0, x.1, r, in_last x done, sym e)
      ],
      λ w. elim (in_push x (w.0, w.1) done w.3) [
        | inl j ↦ in_left m all (x.1.marks ∷ []) ((h m).1 (w.0, w.1, w.2, j, w.4))
        | inr e ↦ subst (λ (s : List RefMark). IsIn s (all ++ x.1.marks ∷ []))
            (sym (ap (λ (p : Pair). p.1.marks) e) ∙ w.4) (in_last x.1.marks all)
      ],
    )

    -- one more pair, whose signature is there if its state is a root state
    pub marks_skip : (IsIn x.0 roots → IsIn x.1.marks all) → AreRootMarks (done ++ x ∷ []) roots all
    marks_skip f m = (
      λ i. still_there m i,
      λ w. elim (in_push x (w.0, w.1) done w.3) [
        | inl j ↦ (h m).1 (w.0, w.1, w.2, j, w.4)
        | inr e ↦ subst (λ (s : List RefMark). IsIn s all) (sym (ap (λ (p : Pair). p.1.marks) e) ∙ w.4)
            (f (subst (λ (q : ℕ). IsIn q roots) (ap (λ (p : Pair). p.0) e) w.2))
      ],
    )

-- in a list without repeats an item has one place
pub one_place : {X : Type 0} (xs : List X) (i j : ℕ) (x : X) → IsDistinct xs → slice_get xs i ≡ Some x
    → slice_get xs j ≡ Some x → i ≡ j
one_place [] i j x d e f = absurd cc
one_place (y ∷ ys) zero zero x d e f = refl
one_place {X} (y ∷ ys) zero (suc j) x d e f =
    absurd (d.0 (subst (λ (v : X). IsIn v ys) (sym (same_Some y x e)) (in_from_place ys j x f)))
one_place {X} (y ∷ ys) (suc i) zero x d e f =
    absurd (d.0 (subst (λ (v : X). IsIn v ys) (sym (same_Some y x f)) (in_from_place ys i x e)))
one_place (y ∷ ys) (suc i) (suc j) x d e f = ap suc (one_place ys i j x d.1 e f)
