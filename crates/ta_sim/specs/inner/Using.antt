-- Where states are children of rules.
use Rattle.std.specs.Prelude.{ℕ, zero, suc, List, [], ◌∷◌, ◌++◌, length, slice_index}
use Rattle.ta_core.specs.declared.auto.Rule.{Rule}
use Rattle.ta_sim.specs.declared.grouping.Use.{Use}
use Rattle.ta_sim.specs.inner.Matching.{AreGrouped}

-- the rule at this place
abbrev pub placed : Rule → ℕ → Use
placed r i = record { child = slice_index r.children i; place = i; rule = r }

-- the rule at each place below n
abbrev pub uses_below : Rule → ℕ → List Use
uses_below r zero = []
uses_below r (suc n) = uses_below r n ++ placed r n ∷ []

-- the rule at each place of it
abbrev pub uses_in : Rule → List Use
uses_in r = uses_below r (length r.children)

-- each rule at each place of it
abbrev pub all_uses : List Rule → List Use
all_uses [] = []
all_uses (r ∷ rs) = uses_in r ++ all_uses rs

-- there is a list for each of n states, which has those of the uses in which it is the child
abbrev pub AreGroupedUses : List Use → ℕ → List (List Use) → Type 0
AreGroupedUses uses n groups = AreGrouped (λ u. u.child) uses n groups

-- there is a list for each of n states, which has its uses in the rules
abbrev pub AreByChild : List Rule → ℕ → List (List Use) → Type 0
AreByChild rules n groups = AreGroupedUses (all_uses rules) n groups
