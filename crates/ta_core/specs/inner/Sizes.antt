-- For each state the least number of nodes of a tree that has a run to it, as far as 64 bits count.
use Rattle.std.specs.Prelude.{◌≡◌, ℕ, ◌+◌, ◌<◌, ◌^◌, Bool, true, false, nat_lt, List, [], ◌∷◌, Option, Some, None}
use Rattle.std.specs.Prelude.{if◌then◌else◌, slice_index_or, slice_set, MatchBool, MatchOption, IsSome}
use Rattle.fore_base.specs.Lists.{IsIn, Every}
use Rattle.ta_core.specs.declared.auto.Rule.{Rule}
use Rattle.ta_core.specs.declared.tree.Tree.{Tree}
use Rattle.ta_core.specs.Language.{RunOf, nodes}

-- the size at a state, if the table has one
abbrev pub size_at : List (Option ℕ) → ℕ → Option ℕ
size_at sizes q = slice_index_or sizes q None

-- a number that 64 bits hold
abbrev pub capped : ℕ → Option ℕ
capped n = if nat_lt n (2 ^ 64) then Some n else None

-- the sum, where both are there and it fits
abbrev pub plus : Option ℕ → Option ℕ → Option ℕ
plus None b = None
plus (Some m) None = None
plus (Some m) (Some n) = capped (m + n)

-- the sum of a first number and the sizes at the states
abbrev pub total : List (Option ℕ) → Option ℕ → List ℕ → Option ℕ
total sizes first [] = first
total sizes first (q ∷ qs) = total sizes (plus first (size_at sizes q)) qs

-- the size of a tree of the rule over trees of the sizes at its children
abbrev pub rule_size : List (Option ℕ) → Rule → Option ℕ
rule_size sizes r = total sizes (Some 1) r.children

-- a is there, and b is not or is greater
abbrev pub is_less : Option ℕ → Option ℕ → Bool
is_less None b = false
is_less (Some m) None = true
is_less (Some m) (Some n) = nat_lt m n

-- the rule gives no smaller tree
abbrev pub IsSettled : List (Option ℕ) → Rule → Type 0
IsSettled sizes r = is_less (rule_size sizes r) (size_at sizes r.state) ≡ false

-- some tree of s nodes, which 64 bits count, has a run to q
abbrev pub HasTreeOf : List Rule → ℕ → ℕ → Type 0
HasTreeOf rules q s = (t : Tree) × RunOf rules q t × (nodes t ≡ s) × (s < 2 ^ 64)

-- each size is that of some tree
abbrev pub AreReal : List Rule → List (Option ℕ) → Type 0
AreReal rules sizes = (q s : ℕ) → size_at sizes q ≡ Some s → HasTreeOf rules q s

-- each size is that of some tree, and no rule gives a smaller one
pub record AreLeast (rules : List Rule) (sizes : List (Option ℕ)) : Type 0 where
  pub real : AreReal rules sizes
  pub settled : Every (IsSettled sizes) rules

-- the rule gave its state a smaller size, or gives none
abbrev pub Improves : Rule → List (Option ℕ) → List (Option ℕ) → Bool → Type 0
Improves r old new better =
    MatchBool better ((is_less (rule_size old r) (size_at old r.state) ≡ true)
    × (new ≡ slice_set old r.state (rule_size old r))) ((new ≡ old) × IsSettled old r)

-- the sum of the sizes, a missing one counted as more than any
abbrev pub size_sum : List (Option ℕ) → ℕ
size_sum [] = 0
size_sum (None ∷ sizes) = size_sum sizes + 2 ^ 64
size_sum (Some s ∷ sizes) = size_sum sizes + s

-- the rule is one of the state, and gives a tree of the size there
abbrev pub IsLeastRule : List (Option ℕ) → ℕ → Rule → Type 0
IsLeastRule sizes q r = (r.state ≡ q) × (rule_size sizes r ≡ size_at sizes q)

-- the tree has a run to q, and the size there
abbrev pub IsTreeAt : List Rule → List (Option ℕ) → ℕ → Tree → Type 0
IsTreeAt rules sizes q t = RunOf rules q t × (size_at sizes q ≡ Some (nodes t))

-- one of the states has the least size, or none has a size
abbrev pub IsBest : List (Option ℕ) → List ℕ → Option ℕ → Type 0
IsBest sizes qs best = MatchOption best (Every (λ q. size_at sizes q ≡ None) qs)
    (λ p. IsIn p qs × IsSome (size_at sizes p) × Every (λ q. is_less (size_at sizes q) (size_at sizes p) ≡ false) qs)

-- the size as a number
abbrev pub number : Option ℕ → ℕ
number None = 0
number (Some s) = s

-- the sum of the sizes at the states
abbrev pub sum_at : List (Option ℕ) → List ℕ → ℕ
sum_at sizes [] = 0
sum_at sizes (q ∷ qs) = number (size_at sizes q) + sum_at sizes qs
