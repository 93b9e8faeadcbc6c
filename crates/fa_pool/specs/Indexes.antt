-- The numbers of automata, listed by the keys of the automata.
use Rattle.std.specs.Prelude.{◌≡◌, ℕ, List, Some, slice_get}
use Rattle.std.specs.Ordering.{nat_cmp}
use Rattle.std.specs.BTreeMap.{BTreeMap, get}
use Rattle.fore_base.specs.Lists.{IsIn}
use Rattle.ta_core.specs.Auto.{Automaton}
use Rattle.fa_pool.specs.Keys.{key_of}

-- the number is in the list of the key
abbrev pub IsListed : BTreeMap ℕ (List ℕ) → ℕ → ℕ → Type 0
IsListed index key n = (ns : List ℕ) × (get nat_cmp index key ≡ Some ns) × IsIn n ns

-- each number stays in the list of its key
abbrev pub MoreListed : BTreeMap ℕ (List ℕ) → BTreeMap ℕ (List ℕ) → Type 0
MoreListed before after = (key n : ℕ) → IsListed before key n → IsListed after key n

-- the number of each automaton is in the list of its key; of other numbers in the lists nothing is said
abbrev pub IsIndexed : BTreeMap ℕ (List ℕ) → List Automaton → Type 0
IsIndexed index pool = (n : ℕ) (a : Automaton) → slice_get pool n ≡ Some a → IsListed index (key_of a) n
