-- Automata and their numbers in a list that grows.
use Rattle.std.proofs.Common.{◌≡◌, inl, inr, ℕ, zero, suc, ◌+◌, ◌<◌, List, [], ◌∷◌, ◌++◌, length, get_or, take}
use Rattle.std.proofs.Common.{Option, Some, None, MatchOption, nat_cmp, sym, ap, ◌∙◌, subst}
use Rattle.std.specs.BTreeMap.{BTreeMap, get}
use Rattle.std.proofs.lemmas.List.{append_assoc, take_more}
use Rattle.std.proofs.lemmas.Option.{same_Some, slice_get_within}
use Rattle.fore_base.specs.Lists.{IsIn, Every, IsDistinct, Paired}
use Rattle.fore_base.proofs.ListLemmas.{distinct_push, every_in, every_push, every_weaker, in_last, in_left}
use Rattle.fore_base.proofs.ListLemmas.{paired_push, paired_weaker, place_of, take_item}
use Rattle.ta_core.specs.Auto.{Automaton}
use Rattle.fa_pool.specs.Indexes.{IsIndexed}
use Rattle.fa_pool.specs.Keys.{key_of}
use Rattle.fa_pool.specs.Pools.{IsNumber}
use Rattle.fa_pool.specs.inner.Numbered.{AreNumbered, IsPut}

-- an automaton keeps its number where others come behind it
pub number_stays : (pool more : List Automaton) (n : ℕ) (a : Automaton) → IsNumber pool n a
    → IsNumber (pool ++ more) n a
number_stays [] more n a e = absurd cc
number_stays (b ∷ pool) more zero a e = e
number_stays (b ∷ pool) more (suc n) a e = number_stays pool more n a e

-- numbers of automata are below the length of the pool
pub numbers_within : (pool : List Automaton) (ns : List ℕ) (autos : List Automaton) → Paired (IsNumber pool) ns autos
    → Every (λ n. n < length pool) ns
numbers_within pool [] [] h = tt
numbers_within pool [] (a ∷ autos) h = absurd h
numbers_within pool (n ∷ ns) [] h = absurd h
numbers_within pool (n ∷ ns) (a ∷ autos) h = (slice_get_within pool n a h.0, numbers_within pool ns autos h.1)

-- one number more, with its automaton
pub one_more_read : (pool : List Automaton) (ns : List ℕ) (i d : ℕ) (autos : List Automaton) (a : Automaton)
    → i < length ns → Paired (IsNumber pool) (take i ns) autos → IsNumber pool (get_or ns i d) a
    → Paired (IsNumber pool) (take (i + 1) ns) (autos ++ a ∷ [])
one_more_read pool ns i d autos a low h e =
    subst (λ ms. Paired (IsNumber pool) ms (autos ++ a ∷ [])) (sym (take_more ns i d low))
    (paired_push (IsNumber pool) (take i ns) autos (get_or ns i d) a h e)

-- where none of the numbers that are listed for an automaton is its own, it is not there
pub found_or_not_there : (index : BTreeMap ℕ (List ℕ)) (pool : List Automaton) (a : Automaton) (ns : List ℕ)
    (r : Option ℕ) → IsIndexed index pool → get nat_cmp index (key_of a) ≡ Some ns
    → MatchOption r (Every (λ n. IsNumber pool n a → ⊥) ns) (λ n. IsNumber pool n a)
    → MatchOption r (IsIn a pool → ⊥) (λ n. IsNumber pool n a)
found_or_not_there index pool a ns (Some n) indexed list found = found
found_or_not_there index pool a ns None indexed list none = λ i.
    let at = place_of pool a i in
    let listed = indexed at.0 a at.1 in
    let own : listed.0 ≡ ns = same_Some listed.0 ns (sym listed.1 ∙ list) in
    every_in (λ n. IsNumber pool n a → ⊥) ns at.0 none (subst (IsIn at.0) own listed.2) at.1

module _ (held old new : List Automaton) (a : Automaton) where
  stays_put : IsPut held a old new → (n : ℕ) (b : Automaton) → IsNumber (held ++ old) n b → IsNumber (held ++ new) n b
  stays_put (inl same) n b e = subst (λ (xs : List Automaton). IsNumber (held ++ xs) n b) (sym same) e
  stays_put (inr put) n b e =
      subst (λ (xs : List Automaton). IsNumber xs n b)
      (append_assoc held old (a ∷ []) ∙ ap (λ (xs : List Automaton). held ++ xs) (sym put.0))
      (number_stays (held ++ old) (a ∷ []) n b e)

  distinct_put : IsPut held a old new → IsDistinct (held ++ old) → IsDistinct (held ++ new)
  distinct_put (inl same) d = subst (λ (xs : List Automaton). IsDistinct (held ++ xs)) (sym same) d
  distinct_put (inr put) d =
      subst (λ (xs : List Automaton). IsDistinct xs)
      (append_assoc held old (a ∷ []) ∙ ap (λ (xs : List Automaton). held ++ xs) (sym put.0))
      (distinct_push (held ++ old) a d put.1)

  among_put : IsPut held a old new → (autos : List Automaton) → Every (λ b. IsIn b autos) old
      → Every (λ b. IsIn b (autos ++ a ∷ [])) new
  among_put p autos h =
      let wide : Every (λ b. IsIn b (autos ++ a ∷ [])) old =
      every_weaker (λ b. IsIn b autos) (λ b. IsIn b (autos ++ a ∷ [])) old (λ b i. in_left b autos (a ∷ []) i) h in
      elim p [
        | inl same ↦ subst (Every (λ b. IsIn b (autos ++ a ∷ []))) (sym same) wide
        | inr put ↦
            subst (Every (λ b. IsIn b (autos ++ a ∷ []))) (sym put.0)
            (every_push (λ b. IsIn b (autos ++ a ∷ [])) old a wide (in_last a autos))
      ]

-- one automaton more has its number
pub one_more_numbered : (before after : BTreeMap ℕ (List ℕ)) (held autos : List Automaton) (i : ℕ) (a : Automaton)
    (ns ms : List ℕ) (n : ℕ) (old new : List Automaton) → i < length autos → a ≡ get_or autos i a
    → AreNumbered before held (take i autos) ns old → IsPut held a old new → IsIndexed after (held ++ new)
    → IsNumber (held ++ new) n a → ms ≡ ns ++ n ∷ []
    → AreNumbered after held (take (i + 1) autos) ms new
one_more_numbered before after held autos i a ns ms n old new low at h put indexed number more =
    let read = paired_push (IsNumber (held ++ new)) ns (take i autos) n a
    (paired_weaker (IsNumber (held ++ old)) (IsNumber (held ++ new)) ns (take i autos) (stays_put held old new a put)
    h.numbers) number in
    rw (take_item autos i a low at, more) (record {
      numbers = read;
      among = among_put held old new a put (take i autos) h.among;
      distinct = distinct_put held old new a put h.distinct;
      indexed = indexed;
    })
