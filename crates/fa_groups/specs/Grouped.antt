-- Numbers in groups by keys.
use Rattle.std.specs.Prelude.{◌≡◌, ℕ, List, [], ◌∷◌, ◌++◌, Option, Some, None}
use Rattle.std.specs.BTreeMap.{BTreeMap, get}
use Rattle.std.specs.Ordering.{nat_cmp, ordering_then}
use Rattle.std.specs.declared.cmp.Ordering.{Ordering}

-- the key of a group: two numbers
abbrev pub Key : Type 0
Key = ℕ × ℕ

-- keys in order: by their first numbers, and then by their second
abbrev pub key_cmp : Key → Key → Ordering
key_cmp p q = ordering_then (nat_cmp p.0 q.0) (nat_cmp p.1 q.1)

abbrev pub Grouped : Type 0
Grouped = BTreeMap Key (List ℕ)

-- the numbers of the group that may be there
abbrev pub numbers_if : Option (List ℕ) → List ℕ
numbers_if None = []
numbers_if (Some group) = group

-- the numbers of the group of the key, in the order in which they joined it; none where there is no such group
abbrev pub numbers_of : Grouped → Key → List ℕ
numbers_of groups key = numbers_if (get key_cmp groups key)

-- each group has what it had
abbrev pub AreSame : Grouped → Grouped → Type 0
AreSame before after = (key : Key) → numbers_of after key ≡ numbers_of before key

-- the group of the key has the number behind those that it had, and each other one has what it had
pub record IsJoined (before : Grouped) (key : Key) (number : ℕ) (after : Grouped) : Type 0 where
  pub own : numbers_of after key ≡ numbers_of before key ++ number ∷ []
  pub others : (other : Key) → (other ≡ key → ⊥) → numbers_of after other ≡ numbers_of before other
