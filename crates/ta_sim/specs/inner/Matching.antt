-- Which items of states are matched by others, by a relation in rows.
use Rattle.std.specs.Prelude.{◌≡◌, ℕ, Bool, true, false, ◌&&◌, List, [], ◌∷◌, length, slice_index_or}
use Rattle.fore_base.specs.Lists.{IsIn, Every, Paired}
use Rattle.ta_core.specs.declared.auto.Rule.{Rule}
use Rattle.ta_sim.specs.Relations.{entry, Relates}

-- the lists are as long as each other, and the rows relate the states in each place
abbrev pub related_each : List (List Bool) → List ℕ → List ℕ → Bool
related_each rows [] [] = true
related_each rows [] (q ∷ qs) = false
related_each rows (p ∷ ps) [] = false
related_each rows (p ∷ ps) (q ∷ qs) = entry rows p q && related_each rows ps qs

-- the items of a state, where there is a list of items for each
abbrev pub group_at : {X : Type 0} → List (List X) → ℕ → List X
group_at groups q = slice_index_or groups q []

-- there is a list for each of n states, which has the items of that state
pub record AreGrouped {X : Type 0} (key : X → ℕ) (items : List X) (n : ℕ) (groups : List (List X)) : Type 0 where
  pub long : length groups ≡ n
  pub only : (q : ℕ) (x : X) → IsIn x (group_at groups q) → IsIn x items × (key x ≡ q)
  pub each : (x : X) → IsIn x items → IsIn x (group_at groups (key x))

-- there is a list for each of n states, which has the rules of that state
abbrev pub AreByState : List Rule → ℕ → List (List Rule) → Type 0
AreByState rules n groups = AreGrouped (λ r. r.state) rules n groups

-- s matches r: it has the same symbol, and children to which those of r are related
abbrev pub IsMatch : List (List Bool) → Rule → Rule → Type 0
IsMatch rows r s = (s.symbol ≡ r.symbol) × Paired (Relates rows) r.children s.children

-- one of the items matches x
abbrev pub IsAnswered : {X : Type 0} → (X → X → Type 0) → List X → X → Type 0
IsAnswered {X} M others x = (y : X) × IsIn y others × M x y

-- p and q are related, and items of q match all of p
abbrev pub Stays : {X : Type 0} → (X → X → Type 0) → List (List X) → List (List Bool) → ℕ → ℕ → Type 0
Stays M groups rows p q = Relates rows p q × Every (IsAnswered M (group_at groups q)) (group_at groups p)
