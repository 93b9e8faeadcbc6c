-- Texts, and lists whose items have names.
use Rattle.std.specs.Prelude.{ℕ, suc, Bool, true, false, ◌||◌, cond, nat_eq, List, [], ◌∷◌, ◌++◌, Option, Some, None}
use Rattle.std.specs.Cmp.Lexicographic.{pointwise}

abbrev pub Text : Type 0
Text = List ℕ

-- two texts are the same
abbrev pub same : Text → Text → Bool
same = pointwise nat_eq

abbrev pub is_empty : {X : Type 0} → List X → Bool
is_empty [] = true
is_empty (x ∷ xs) = false

-- the text is one of these
abbrev pub has : Text → List Text → Bool
has x [] = false
has x (y ∷ ys) = same x y || has x ys

abbrev pub one_more : Option ℕ → Option ℕ
one_more None = None
one_more (Some n) = Some (suc n)

-- the position of the text; the first one counts
abbrev pub number_of : Text → List Text → Option ℕ
number_of x [] = None
number_of x (y ∷ ys) = cond (same x y) (Some 0) (one_more (number_of x ys))

-- those whose name is new: it is none of these, and no earlier one has it
abbrev pub firsts : {X : Type 0} → (X → Text) → List Text → List X → List X
firsts name seen [] = []
firsts name seen (x ∷ xs) = cond (has (name x) seen) (firsts name seen xs) (x ∷ firsts name (seen ++ name x ∷ []) xs)

-- the lists that come of each item, one after the other
abbrev pub each_of : {X Y : Type 0} → (X → List Y) → List X → List Y
each_of f [] = []
each_of f (x ∷ xs) = f x ++ each_of f xs

-- lists one after the other
abbrev pub joined : {X : Type 0} → List (List X) → List X
joined [] = []
joined (xs ∷ xss) = xs ++ joined xss
