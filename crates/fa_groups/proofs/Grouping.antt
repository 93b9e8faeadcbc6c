-- Groups of which one is opened, or has one number more.
use Rattle.std.proofs.Common.{◌≡◌, ◌⊎◌, ◌↔◌, ℕ, Bool, true, false, List, [], ◌∷◌, ◌++◌, Some, None, Option}
use Rattle.std.proofs.Common.{Result, Ok, Err, OnOk, OnErr, refl, sym, ap, ◌∙◌, subst, inl, inr, nat_cmp}
use Rattle.std.specs.BTreeMap.{is_at, UpdatesBy}
use Rattle.std.specs.Map.{lookup}
use Rattle.std.specs.Option.{is_some}
use Rattle.std.specs.Cmp.{Equal-is, nat_cmp_is}
use Rattle.std.specs.Ordering.{is_eq, ordering_then}
use Rattle.std.specs.declared.cmp.Ordering.{Ordering}
use Rattle.std.specs.declared.cmp.Ordering.TheVariants.{Equal}
use Rattle.std.proofs.lemmas.Bool.{false≢true}
use Rattle.std.proofs.lemmas.Map.Lookups.{exact_pairs, exact_unsigned}
use Rattle.fore_base.specs.Lists.{IsIn}
use Rattle.fore_base.proofs.ListLemmas.{in_last, in_left, in_push}
use Rattle.fa_groups.specs.Grouped.{Key, Grouped, key_cmp, numbers_if, numbers_of, AreSame, IsJoined}

one_key : (p q : Key) → key_cmp p q ≡ Equal → p ≡ q
one_key = exact_pairs nat_cmp nat_cmp exact_unsigned exact_unsigned

-- the key is the other one
same_key : (key other : Key) → is_at (key_cmp key) other ≡ true → other ≡ key
same_key key other e = sym (one_key key other ((Equal-is (key_cmp key other)).0 e))

-- the key is at itself
own_at : (key : Key) → is_at (key_cmp key) key ≡ true
own_at key =
    ap (λ (o : Ordering). is_eq (ordering_then o (nat_cmp key.1 key.1))) (sym (nat_cmp_is key.0 key.0 Equal refl))
    ∙ ap is_eq (sym (nat_cmp_is key.1 key.1 Equal refl))

differs : (key other : Key) → is_at (key_cmp key) other ≡ false → other ≡ key → ⊥
differs key other e same =
    false≢true (sym e ∙ subst (λ (k : Key). is_at (key_cmp key) k ≡ true) (sym same) (own_at key))

pub none_is : {X : Type 0} (o : Option X) → is_some o ≡ false → o ≡ None
none_is None e = refl
none_is (Some x) e = absurd (false≢true (sym e))

-- a map without entries has no numbers
pub none_grouped : (groups : Grouped) (key : Key) → groups.entries ≡ [] → numbers_of groups key ≡ []
none_grouped groups key none =
    ap (λ (es : List (Key × List ℕ)). numbers_if (lookup (is_at (key_cmp key)) es)) none

module _ (before after : Grouped) (key : Key) (new : List ℕ)
    (is : UpdatesBy key_cmp (key_cmp key) before after (Some new)) where
  here : numbers_of after key ≡ new
  here = ap numbers_if is.1

  elsewhere : (other : Key) → is_at (key_cmp key) other ≡ false → numbers_of after other ≡ numbers_of before other
  elsewhere other e = ap numbers_if (is.2 other e)

  -- the group of the key was opened, or has the same again
  module _ (same : new ≡ numbers_of before key) where
    same_at : (other : Key) (b : Bool) → is_at (key_cmp key) other ≡ b
        → numbers_of after other ≡ numbers_of before other
    same_at other true e =
        subst (λ (k : Key). numbers_of after k ≡ numbers_of before k) (sym (same_key key other e)) (here ∙ same)
    same_at other false e = elsewhere other e

    pub groups_same : AreSame before after
    groups_same other = same_at other (is_at (key_cmp key) other) refl

  -- the group of the key has a number more
  module _ (one : ℕ) (more : new ≡ numbers_of before key ++ one ∷ []) where
    other_at : (other : Key) (b : Bool) → is_at (key_cmp key) other ≡ b → (other ≡ key → ⊥)
        → numbers_of after other ≡ numbers_of before other
    other_at other true e differ = absurd (differ (same_key key other e))
    other_at other false e differ = elsewhere other e

    pub joined : IsJoined before key one after
    joined = record { own = here ∙ more; others = λ other. other_at other (is_at (key_cmp key) other) refl }

-- what was kept by an outcome
pub on_ok : {X E : Type 0} (r : Result X E) (P Q : Type 0) → (P → Q) → OnOk r P → OnOk r Q
on_ok (Ok x) P Q f h = f h
on_ok (Err e) P Q f h = tt

pub on_err : {X E : Type 0} (r : Result X E) (P Q : Type 0) → (P → Q) → OnErr r P → OnErr r Q
on_err (Ok x) P Q f h = tt
on_err (Err e) P Q f h = f h

-- joined after it was opened
pub joined_then : (before between after : Grouped) (key : Key) (one : ℕ) → AreSame before between
    → IsJoined between key one after → IsJoined before key one after
joined_then before between after key one same more = record {
  own = more.own ∙ ap (λ ns. ns ++ one ∷ []) (same key);
  others = λ other differ. more.others other differ ∙ same other;
}

pub same_then : (before between after : Grouped) → AreSame before between → AreSame between after
    → AreSame before after
same_then before between after same more key = more key ∙ same key

-- what is in the groups when one of them has a number more
module _ (before after : Grouped) (key : Key) (one : ℕ) (is : IsJoined before key one after) where
  in_own : (n : ℕ) → IsIn n (numbers_of after key) → IsIn n (numbers_of before key) ⊎ (n ≡ one)
  in_own n i = in_push one n (numbers_of before key) (subst (IsIn n) is.own i)

  was_in : (other : Key) (n : ℕ) (b : Bool) → is_at (key_cmp key) other ≡ b → IsIn n (numbers_of after other)
      → IsIn n (numbers_of before other) ⊎ ((other ≡ key) × (n ≡ one))
  was_in other n true e i =
      let same = same_key key other e in
      elim (in_own n (subst (λ (k : Key). IsIn n (numbers_of after k)) same i)) [
        | inl was ↦ inl (subst (λ (k : Key). IsIn n (numbers_of before k)) (sym same) was)
        | inr own ↦ inr (same, own)
      ]
  was_in other n false e i = inl (subst (IsIn n) (is.others other (differs key other e)) i)

  stays_in : (other : Key) (n : ℕ) (b : Bool) → is_at (key_cmp key) other ≡ b → IsIn n (numbers_of before other)
      → IsIn n (numbers_of after other)
  stays_in other n true e i =
      let same = same_key key other e in
      subst (λ (k : Key). IsIn n (numbers_of after k)) (sym same)
      (subst (IsIn n) (sym is.own)
      (in_left n (numbers_of before key) (one ∷ []) (subst (λ (k : Key). IsIn n (numbers_of before k)) same i)))
  stays_in other n false e i = subst (IsIn n) (sym (is.others other (differs key other e))) i

  own_in : (other : Key) (n : ℕ) → other ≡ key → n ≡ one → IsIn n (numbers_of after other)
  own_in other n at own =
      subst (λ (k : Key). IsIn n (numbers_of after k)) (sym at)
      (subst (IsIn n) (sym is.own)
      (subst (λ (m : ℕ). IsIn m (numbers_of before key ++ one ∷ [])) (sym own)
      (in_last one (numbers_of before key))))

  pub in_joined : (other : Key) (n : ℕ) → IsIn n (numbers_of after other)
      ↔ (IsIn n (numbers_of before other) ⊎ ((other ≡ key) × (n ≡ one)))
  in_joined other n = (
    was_in other n (is_at (key_cmp key) other) refl,
    (λ h. elim h [
      | inl was ↦ stays_in other n (is_at (key_cmp key) other) refl was
      | inr own ↦ own_in other n own.0 own.1
    ]),
  )
