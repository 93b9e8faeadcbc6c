-- Places of names in lists.
use Rattle.std.specs.Prelude.{ℕ, suc, Bool, List, [], ◌∷◌, length, cond, nat_eq, nat_lt}
use Rattle.std.specs.Cmp.Lexicographic.{pointwise}

abbrev pub Texts : Type 0
Texts = List (List ℕ)

-- the first place of the name in the list, the length of the list where it is not there
abbrev pub place : List ℕ → Texts → ℕ
place name [] = 0
place name (other ∷ others) = cond (pointwise nat_eq name other) 0 (suc (place name others))

abbrev pub is_there : List ℕ → Texts → Bool
is_there name names = nat_lt (place name names) (length names)
