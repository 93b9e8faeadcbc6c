-- Rules that match others are kept, from the last to the first and then the other way round.
use Rattle.std.proofs.Common.{◌≡◌, inl, inr, ℕ, ◌<◌, ◌+◌, List, [], ◌∷◌, ◌++◌, length, get_or, drop, reverse, sym, ap}
use Rattle.std.proofs.Common.{subst, ◌∙◌}
use Rattle.fore_base.specs.Lists.{IsIn, Every, Paired}
use Rattle.fore_base.proofs.ListLemmas.{in_left, in_last, in_push, in_every, every_in, every_at, every_weaker}
use Rattle.fore_base.proofs.ListLemmas.{drop_item}
use Rattle.ta_core.specs.Renumbered.{IsSublist, sub_none}
use Rattle.ta_core.specs.declared.auto.Rule.{Rule}
use Rattle.ta_sim.specs.Relations.{Table, Holds}
use Rattle.ta_reduce.specs.inner.Reduction.{IsPreorder}
use Rattle.ta_reduce.specs.inner.Thinned.{Matches, HasMatch, Misses, IsThinned, AreNeeded}
use Rattle.ta_reduce.proofs.Sublists.{reverse_cons, sub_in, sub_drop, sub_push, sub_through, sub_turned, later_push}
use Rattle.ta_reduce.proofs.Sublists.{later_sub, later_turned}

module _ (rel : Table) where
  pub thinned_none : IsThinned rel [] []
  thinned_none = record { part = sub_none; whole = tt; apart = tt }

  module _ (r : Rule) (rules made : List Rule) (h : IsThinned rel rules made) where
    -- a rule that is matched is left out
    pub thinned_skip : HasMatch rel made r → IsThinned rel (r ∷ rules) made
    thinned_skip m = record {
      part = subst (IsSublist made) (sym (reverse_cons r rules)) (sub_drop r h.part);
      whole = (m, h.whole);
      apart = h.apart;
    }

    -- another one is kept
    pub thinned_push : (HasMatch rel made r → ⊥) → Matches rel r r → IsThinned rel (r ∷ rules) (made ++ r ∷ [])
    thinned_push none m = record {
      part = subst (IsSublist (made ++ r ∷ [])) (sym (reverse_cons r rules)) (sub_push r h.part);
      whole = (
        (r, in_last r made, m),
        every_weaker (HasMatch rel made) (HasMatch rel (made ++ r ∷ [])) rules
            (λ s k. (k.0, in_left k.0 made (r ∷ []) k.1, k.2)) h.whole,
      );
      apart = later_push (λ x y. Misses rel y x) made r h.apart
          (in_every (λ y. Misses rel r y) made (λ y i k. none (y, i, k)));
    }

-- what matches a matching rule matches
paired_holds : (rel : Table) → IsPreorder rel → (ps qs rs : List ℕ) → Paired (Holds rel) ps qs
    → Paired (Holds rel) qs rs → Paired (Holds rel) ps rs
paired_holds rel p [] [] [] h k = tt
paired_holds rel p [] [] (z ∷ zs) h k = absurd k
paired_holds rel p [] (y ∷ ys) zs h k = absurd h
paired_holds rel p (x ∷ xs) [] zs h k = absurd h
paired_holds rel p (x ∷ xs) (y ∷ ys) [] h k = absurd k
paired_holds rel p (x ∷ xs) (y ∷ ys) (z ∷ zs) h k = (p.1 x y z h.0 k.0, paired_holds rel p xs ys zs h.1 k.1)

match_through : (rel : Table) → IsPreorder rel → (t s r : Rule) → Matches rel t s → Matches rel s r → Matches rel t r
match_through rel p t s r h k = (k.0 ∙ h.0, k.1 ∙ h.1, paired_holds rel p r.children s.children t.children k.2 h.2)

-- thinned twice
pub needed_from : (rel : Table) (rules turned made : List Rule) → IsPreorder rel → IsThinned rel rules turned
    → IsThinned rel turned made → AreNeeded rel rules made
needed_from rel rules turned made p h k = record {
  part = sub_through made k.part (sub_turned turned rules h.part);
  whole = every_weaker (HasMatch rel turned) (HasMatch rel made) rules
      (λ r m.
      (let n = every_in (HasMatch rel made) turned m.0 k.whole m.1 in
      (n.0, n.1, match_through rel p n.0 m.0 r n.2 m.2))) h.whole;
  ahead = k.apart;
  behind = later_sub (λ r s. Misses rel r s) k.part
      (later_turned (λ r s. Misses rel s r) (λ r s. Misses rel r s) (λ r s m. m) turned h.apart);
}

-- what is kept of rules that match themselves does too
pub same_turned : (rel : Table) (rules turned : List Rule) → Every (λ r. Matches rel r r) rules
    → IsThinned rel rules turned → Every (λ r. Matches rel r r) turned
same_turned rel rules turned h k =
    in_every (λ r. Matches rel r r) turned
    (λ r i. every_in (λ s. Matches rel s s) rules r h (turned_in rules r (sub_in r k.part i)))
  where
    turned_in : (xs : List Rule) (r : Rule) → IsIn r (reverse xs) → IsIn r xs
    turned_in [] r i = i
    turned_in (x ∷ xs) r i =
        elim (in_push x r (reverse xs) (subst (IsIn r) (reverse_cons x xs) i))
        [ inl j ↦ inr (turned_in xs r j) | inr e ↦ inl e ]

-- from place k on: the rule there is left out or kept
module _ (rel : Table) (rules made : List Rule) (k n : ℕ) (r : Rule) (at : k < length rules) (is : r ≡ get_or rules k r)
    (next : k + 1 ≡ n) (h : IsThinned rel (drop n rules) made) where
  from_here : drop k rules ≡ r ∷ drop n rules
  from_here = drop_item rules k r at is ∙ ap (λ (i : ℕ). r ∷ drop i rules) next

  pub skip_here : HasMatch rel made r → IsThinned rel (drop k rules) made
  skip_here m = subst (λ (rs : List Rule). IsThinned rel rs made) (sym from_here)
      (thinned_skip rel r (drop n rules) made h m)

  pub push_here : (HasMatch rel made r → ⊥) → Every (λ s. Matches rel s s) rules
      → IsThinned rel (drop k rules) (made ++ r ∷ [])
  push_here none same = subst (λ (rs : List Rule). IsThinned rel rs (made ++ r ∷ [])) (sym from_here)
      (thinned_push rel r (drop n rules) made h none (every_at (λ s. Matches rel s s) rules k r same at is))
