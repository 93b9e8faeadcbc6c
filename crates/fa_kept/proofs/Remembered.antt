-- A memo that gets an answer which is right for the pool.
use Rattle.std.proofs.Common.{◌≡◌, ◌⊎◌, inl, inr, ℕ, ◌<◌, Bool, List, [], ◌∷◌, ◌++◌, length, get_or, Option, Some}
use Rattle.std.proofs.Common.{None, MatchOption}
use Rattle.std.proofs.Common.{Result, Ok, Err, OnOk, OnErr, sym, subst}
use Rattle.fore_base.specs.Lists.{IsIn, Every, Paired}
use Rattle.fore_base.proofs.ListLemmas.{every_get, every_in, every_push, in_every, in_place}
use Rattle.ta_core.specs.Auto.{Automaton}
use Rattle.fa_pool.specs.declared.kept.Kept.{Kept}
use Rattle.fa_kept.specs.declared.asking.Asked.{Asked}
use Rattle.fa_kept.specs.declared.asking.Found.{Found}
use Rattle.fa_kept.specs.Memos.{Answer, answer, Lacks, IsRight, Agrees}
use Rattle.fa_kept.specs.inner.Asking.{AreRight, IsAsked, found_is}

-- the answer is right for the pool
abbrev pub IsRightAnswer : List Automaton → Answer → Type 0
IsRightAnswer pool a = IsRight pool a.0.0 a.0.1 a.1

pub agrees_with_one_more : (pool : List Automaton) (old new : List Answer) (narrow wide : ℕ) (holds : Bool)
    → Agrees old pool → IsRight pool narrow wide holds
    → ((a : Answer) → IsIn a new → IsIn a old ⊎ (a ≡ answer narrow wide holds)) → Agrees new pool
agrees_with_one_more pool old new narrow wide holds agrees right others =
    in_every (IsRightAnswer pool) new (λ a i. elim (others a i) [
      | inl was ↦ every_in (IsRightAnswer pool) old a agrees was
      | inr same ↦ subst (IsRightAnswer pool) (sym same) right
    ])

-- an answer that the memo has is right
pub known_is_right : (pool : List Automaton) (memo : List Answer) (narrow wide : ℕ) (holds : Bool) → Agrees memo pool
    → IsIn (answer narrow wide holds) memo → IsRight pool narrow wide holds
known_is_right pool memo narrow wide holds agrees i =
    every_in (IsRightAnswer pool) memo (answer narrow wide holds) agrees i

pub answered_is_right : (pool : List Automaton) (memo : List Answer) (narrow wide : ℕ) (r : Option Bool)
    → Agrees memo pool → MatchOption r (Lacks memo narrow wide) (λ holds. IsIn (answer narrow wide holds) memo)
    → MatchOption r (Unit {0}) (IsRight pool narrow wide)
answered_is_right pool memo narrow wide None agrees lacks = tt
answered_is_right pool memo narrow wide (Some holds) agrees i = known_is_right pool memo narrow wide holds agrees i

-- what was found for two numbers is right
pub found_is_right : (pool : List Automaton) (found : List Found) (narrow wide : ℕ) (holds : Bool)
    → AreRight pool found → IsIn (found_is narrow wide holds) found → IsRight pool narrow wide holds
found_is_right pool found narrow wide holds right i =
    every_in (λ f. IsRight pool f.narrow f.wide f.within) found (found_is narrow wide holds) right i

pub one_more_found : {E X : Type 0} (pool : List Automaton) (old new : List Found) (narrow wide : ℕ) (holds : Bool)
    (r : Result X E) → AreRight pool old → IsRight pool narrow wide holds
    → OnOk r (new ≡ old ++ found_is narrow wide holds ∷ []) → OnErr r (new ≡ old) → AreRight pool new
one_more_found pool old new narrow wide holds (Ok x) right one ok err =
    subst (AreRight pool) (sym ok)
    (every_push (λ f. IsRight pool f.narrow f.wide f.within) old (found_is narrow wide holds) right one)
one_more_found pool old new narrow wide holds (Err e) right one ok err = subst (AreRight pool) (sym err) right

-- the answer at a place, which is for two numbers
pub found_at : (found : List Found) (i : ℕ) (d : Found) (narrow wide : ℕ) → i < length found
    → (get_or found i d).narrow ≡ narrow → (get_or found i d).wide ≡ wide
    → IsIn (found_is narrow wide (get_or found i d).within) found
found_at found i d narrow wide low p q =
    let f = get_or found i d in
    subst (λ (n : ℕ). IsIn (found_is n wide f.within) found) p
    (subst (λ (w : ℕ). IsIn (found_is f.narrow w f.within) found) q (in_place found i d low))

-- a memo gets what was found at a place
pub agrees_with_found : (pool : List Automaton) (old new : List Answer) (found : List Found) (i : ℕ) (d : Found)
    → i < length found → Agrees old pool → AreRight pool found
    → ((a : Answer) → IsIn a new
    → IsIn a old ⊎ (a ≡ answer (get_or found i d).narrow (get_or found i d).wide (get_or found i d).within))
    → Agrees new pool
agrees_with_found pool old new found i d low agrees right others =
    let f = get_or found i d in
    agrees_with_one_more pool old new f.narrow f.wide f.within agrees
    (every_get (λ g. IsRight pool g.narrow g.wide g.within) found i d right low) others

-- what was found at each node is right
pub all_found_right : (pool : List Automaton) (nodes : List Kept) (narrow : Kept) (asked : List Asked)
    → Paired (λ node one. IsAsked pool node narrow one) nodes asked → Every (λ one. AreRight pool one.found) asked
all_found_right pool [] narrow [] p = tt
all_found_right pool [] narrow (a ∷ asked) p = absurd p
all_found_right pool (n ∷ nodes) narrow [] p = tt
all_found_right pool (n ∷ nodes) narrow (a ∷ asked) p = (p.0.found, all_found_right pool nodes narrow asked p.1)
