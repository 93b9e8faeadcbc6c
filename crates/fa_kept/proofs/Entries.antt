-- The answers of a map in order of pairs of numbers: which one is found, and which there are when one has come.
use Rattle.std.proofs.Common.{◌≡◌, inl, inr, ℕ, Bool, true, false, cond, List, [], ◌∷◌, Option, Some, None, refl, sym}
use Rattle.std.proofs.Common.{◌⊎◌, MatchOption, ap, ◌∙◌, nat_cmp}
use Rattle.std.specs.BTreeMap.{insert_entry, is_at}
use Rattle.std.specs.Cmp.{Equal-is, nat_cmp_is}
use Rattle.std.specs.Map.{lookup}
use Rattle.std.specs.Ordering.{is_eq, match_ordering, ordering_then}
use Rattle.std.specs.declared.cmp.Ordering.{Ordering}
use Rattle.std.specs.declared.cmp.Ordering.TheVariants.{Less, Equal, Greater}
use Rattle.std.proofs.lemmas.Bool.{false≢true}
use Rattle.std.proofs.lemmas.Map.Lookups.{exact_pairs, exact_unsigned}
use Rattle.std.proofs.lemmas.Option.{none-some, same_Some}
use Rattle.fore_base.specs.Lists.{IsIn}
use Rattle.fa_kept.specs.Memos.{Answer, Lacks}

-- pairs in order: by their first numbers, and then by their second
abbrev pub pair_cmp : ℕ × ℕ → ℕ × ℕ → Ordering
pair_cmp p q = ordering_then (nat_cmp p.0 q.0) (nat_cmp p.1 q.1)

one_pair : (p q : ℕ × ℕ) → pair_cmp p q ≡ Equal → p ≡ q
one_pair = exact_pairs nat_cmp nat_cmp exact_unsigned exact_unsigned

nat_itself : (n : ℕ) → nat_cmp n n ≡ Equal
nat_itself n = sym (nat_cmp_is n n Equal refl)

itself : (p : ℕ × ℕ) → pair_cmp p p ≡ Equal
itself p = ap (λ o. ordering_then o (nat_cmp p.1 p.1)) (nat_itself p.0) ∙ nat_itself p.1

-- an answer with this pair and this value
same_answer : (k : ℕ × ℕ) (holds : Bool) (e : Answer) → k ≡ e.0 → holds ≡ e.1 → (k, holds) ≡ e
same_answer k holds e p q = ap (λ (x : ℕ × ℕ). (x, holds)) p ∙ ap (λ (b : Bool). (e.0, b)) q

module _ (k : ℕ × ℕ) where
  found_here : (e : Answer) (es : List Answer) (holds : Bool) (rest : Option Bool) (b : Bool)
      → is_at (pair_cmp k) e.0 ≡ b → cond b (Some e.1) rest ≡ Some holds → (rest ≡ Some holds → IsIn (k, holds) es)
      → IsIn (k, holds) (e ∷ es)
  found_here e es holds rest true at is next =
      inl (same_answer k holds e (one_pair k e.0 ((Equal-is (pair_cmp k e.0)).0 at)) (sym (same_Some e.1 holds is)))
  found_here e es holds rest false at is next = inr (next is)

  -- what is found stands there
  pub found_is_in : (es : List Answer) (holds : Bool) → lookup (is_at (pair_cmp k)) es ≡ Some holds → IsIn (k, holds) es
  found_is_in [] holds is = absurd (none-some holds is)
  found_is_in (e ∷ es) holds is =
      found_here e es holds (lookup (is_at (pair_cmp k)) es) (is_at (pair_cmp k) e.0) refl is (found_is_in es holds)

  missed_here : (e : Answer) (es : List Answer) (holds : Bool) (rest : Option Bool) (b : Bool)
      → is_at (pair_cmp k) e.0 ≡ b → cond b (Some e.1) rest ≡ None → (rest ≡ None → IsIn (k, holds) es → ⊥)
      → IsIn (k, holds) (e ∷ es) → ⊥
  missed_here e es holds rest true at is next i = none-some e.1 (sym is)
  missed_here e es holds rest false at is next (inl same) =
      false≢true
      (sym at ∙ ap (λ (x : Answer). is_at (pair_cmp k) x.0) (sym same) ∙ ap (λ (o : Ordering). is_eq o) (itself k))
  missed_here e es holds rest false at is next (inr i) = next is i

  -- and where nothing is found, nothing stands there
  pub none_is_in : (es : List Answer) (holds : Bool) → lookup (is_at (pair_cmp k)) es ≡ None → IsIn (k, holds) es → ⊥
  none_is_in [] holds is i = absurd i
  none_is_in (e ∷ es) holds is i =
      missed_here e es holds (lookup (is_at (pair_cmp k)) es) (is_at (pair_cmp k) e.0) refl is (none_is_in es holds) i

  pub answered : (es : List Answer) (r : Option Bool) → r ≡ lookup (is_at (pair_cmp k)) es
      → MatchOption r (Lacks es k.0 k.1) (λ holds. IsIn (k, holds) es)
  answered es (Some holds) is = found_is_in es holds (sym is)
  answered es None is = λ holds i. none_is_in es holds (sym is) i

  module _ (v : Bool) where
    others_here : (e : Answer) (es : List Answer) (a : Answer) (r : Ordering) → pair_cmp k e.0 ≡ r
        → (IsIn a (insert_entry pair_cmp es k v) → IsIn a es ⊎ (a ≡ (k, v)))
        → IsIn a (match_ordering r ((k, v) ∷ e ∷ es) ((e.0, v) ∷ es) (e ∷ insert_entry pair_cmp es k v))
        → IsIn a (e ∷ es) ⊎ (a ≡ (k, v))
    others_here e es a Less at next (inl same) = inr same
    others_here e es a Less at next (inr i) = inl i
    others_here e es a Equal at next (inl same) =
        inr (same ∙ ap (λ (x : ℕ × ℕ). (x, v)) (sym (one_pair k e.0 at)))
    others_here e es a Equal at next (inr i) = inl (inr i)
    others_here e es a Greater at next (inl same) = inl (inl same)
    others_here e es a Greater at next (inr i) = elim (next i) [
      | inl was ↦ inl (inr was)
      | inr new ↦ inr new
    ]

    -- when one has come, the others were there
    pub others_were_there : (es : List Answer) (a : Answer) → IsIn a (insert_entry pair_cmp es k v)
        → IsIn a es ⊎ (a ≡ (k, v))
    others_were_there [] a (inl same) = inr same
    others_were_there [] a (inr i) = absurd i
    others_were_there (e ∷ es) a i =
        others_here e es a (pair_cmp k e.0) refl (others_were_there es a) i

    new_here : (e : Answer) (es : List Answer) (r : Ordering) → pair_cmp k e.0 ≡ r
        → IsIn (k, v) (insert_entry pair_cmp es k v)
        → IsIn (k, v) (match_ordering r ((k, v) ∷ e ∷ es) ((e.0, v) ∷ es) (e ∷ insert_entry pair_cmp es k v))
    new_here e es Less at next = inl refl
    new_here e es Equal at next = inl (ap (λ (x : ℕ × ℕ). (x, v)) (one_pair k e.0 at))
    new_here e es Greater at next = inr next

    -- and it is there
    pub new_is_there : (es : List Answer) → IsIn (k, v) (insert_entry pair_cmp es k v)
    new_is_there [] = inl refl
    new_is_there (e ∷ es) = new_here e es (pair_cmp k e.0) refl (new_is_there es)
