-- Numbers in the lists of keys: one list with a number more, and the numbers of automata by their keys.
use Rattle.std.proofs.Common.{◌≡◌, ℕ, Bool, true, false, cond, List, [], ◌∷◌, ◌++◌, Some, None}
use Rattle.std.proofs.Common.{Result, Ok, Err, OnOk, OnErr, refl, sym, ap, ◌∙◌, subst}
use Rattle.std.specs.Cmp.{Equal-is}
use Rattle.std.specs.Ordering.{nat_cmp}
use Rattle.std.specs.BTreeMap.{BTreeMap, get, is_at, UpdatesBy}
use Rattle.std.proofs.lemmas.Map.Lookups.{exact_unsigned}
use Rattle.std.proofs.lemmas.Option.{none-some, same_Some}
use Rattle.fore_base.specs.Lists.{IsIn}
use Rattle.fore_base.proofs.ListLemmas.{in_left, in_last, place_of}
use Rattle.ta_core.specs.Auto.{Automaton}
use Rattle.fa_pool.specs.Indexes.{IsListed, MoreListed, IsIndexed}
use Rattle.fa_pool.specs.Keys.{key_of}

module _ (before after : BTreeMap ℕ (List ℕ)) (key : ℕ) (old new : List ℕ) (was : get nat_cmp before key ≡ Some old)
    (is : UpdatesBy nat_cmp (nat_cmp key) before after (Some new)) where
  module _ (stay : (n : ℕ) → IsIn n old → IsIn n new) where
    listed_at : (other n : ℕ) (same : Bool) → is_at (nat_cmp key) other ≡ same → IsListed before other n
        → IsListed after other n
    listed_at other n true e h =
        let one : key ≡ other = exact_unsigned key other ((Equal-is (nat_cmp key other)).0 e) in
        let own : h.0 ≡ old =
        same_Some h.0 old (sym h.1 ∙ ap (get nat_cmp before) (sym one) ∙ was) in
        (new, is.0 other ∙ ap (λ b. cond b (Some new) (get nat_cmp before other)) e, stay n (subst (IsIn n) own h.2))
    listed_at other n false e h = (h.0, is.2 other e ∙ h.1, h.2)

    -- where the list of the key is another one, which has the numbers of the old one, each number stays
    pub more_listed : MoreListed before after
    more_listed = λ other n h. listed_at other n (is_at (nat_cmp key) other) refl h

  -- and each number of the new one is in the list of the key
  pub new_listed : (n : ℕ) → IsIn n new → IsListed after key n
  new_listed n i = (new, is.1, i)

module _ {E : Type 0} (old new : List ℕ) (number : ℕ) where
  -- one number more, or want of memory: each number stays
  pub pushed_stays : (r : Result (Unit {0}) E) → OnOk r (new ≡ old ++ number ∷ []) → OnErr r (new ≡ old)
      → (n : ℕ) → IsIn n old → IsIn n new
  pushed_stays (Ok u) ok err n i = subst (IsIn n) (sym ok) (in_left n old (number ∷ []) i)
  pushed_stays (Err e) ok err n i = subst (IsIn n) (sym err) i

  pub pushed_is_there : (r : Result (Unit {0}) E) (P : Type 0) → (IsIn number new → P)
      → OnOk r (new ≡ old ++ number ∷ []) → OnOk r P
  pushed_is_there (Ok u) P f ok = f (subst (IsIn number) (sym ok) (in_last number old))
  pushed_is_there (Err e) P f ok = tt

-- where the key of an automaton has no list, the automaton is not there
pub no_list_none_there : (index : BTreeMap ℕ (List ℕ)) (pool : List Automaton) (a : Automaton) → IsIndexed index pool
    → get nat_cmp index (key_of a) ≡ None → IsIn a pool → ⊥
no_list_none_there index pool a indexed none i =
    let at = place_of pool a i in
    let listed = indexed at.0 a at.1 in
    none-some listed.0 (sym none ∙ listed.1)
