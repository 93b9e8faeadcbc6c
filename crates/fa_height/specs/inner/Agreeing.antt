-- Agreement to a height, kept as a class for each state.
use Rattle.std.specs.Prelude.{◌≡◌, ◌↔◌, ℕ, ◌<◌, List, [], slice_index_or}
use Rattle.fore_base.specs.Lists.{IsIn, Every, Paired}
use Rattle.ta_core.specs.declared.auto.Rule.{Rule}
use Rattle.fa_height.specs.Quotients.{Agree}
use Rattle.ta_classes.specs.Classes.{IsOneClass}

-- the list has the rules of state q, and no others
abbrev pub AreRulesOf : List Rule → ℕ → List Rule → Type 0
AreRulesOf rules q list = (r : Rule) → IsIn r list ↔ (IsIn r rules × (r.state ≡ q))

-- the rules of state q in a table that has a list for each state
abbrev pub rules_at : List (List Rule) → ℕ → List Rule
rules_at table q = slice_index_or table q []

-- the table has the rules of each state below n
abbrev pub AreRulesEach : List Rule → ℕ → List (List Rule) → Type 0
AreRulesEach rules n table = (q : ℕ) → q < n → AreRulesOf rules q (rules_at table q)

-- the two rules have one symbol, and their children, place by place, one class
abbrev pub IsMatch : List ℕ → Rule → Rule → Type 0
IsMatch classes r s = (s.symbol ≡ r.symbol) × Paired (IsOneClass classes) r.children s.children

-- one of the rules matches the rule r
abbrev pub HasMatch : List ℕ → List Rule → Rule → Type 0
HasMatch classes rules r = (s : Rule) × IsIn s rules × IsMatch classes r s

-- each rule of state p is matched by one of state q
abbrev pub AreMatchedIn : List (List Rule) → List ℕ → ℕ → ℕ → Type 0
AreMatchedIn table classes p q = Every (HasMatch classes (rules_at table q)) (rules_at table p)

-- each rule of either state is matched by one of the other
abbrev pub AreAlike : List (List Rule) → List ℕ → ℕ → ℕ → Type 0
AreAlike table classes p q = AreMatchedIn table classes p q × AreMatchedIn table classes q p

-- two states below n have one new class exactly where they are alike by the old ones
abbrev pub IsRefined : List (List Rule) → List ℕ → ℕ → List ℕ → Type 0
IsRefined table old n new = (p q : ℕ) → p < n → q < n → IsOneClass new p q ↔ AreAlike table old p q

-- two states below n have one class exactly where they agree to height k
abbrev pub IsAgreement : List Rule → ℕ → ℕ → List ℕ → Type 0
IsAgreement rules n k classes = (p q : ℕ) → p < n → q < n → IsOneClass classes p q ↔ Agree rules k p q
