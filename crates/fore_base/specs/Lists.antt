-- Words on lists that compute by cases.
use Rattle.std.specs.Prelude.{◌≡◌, ◌⊎◌, ℕ, zero, suc, ◌+◌, List, [], ◌∷◌}

-- x is an item of the list
abbrev pub IsIn : {X : Type 0} → X → List X → Type 0
IsIn x [] = ⊥
IsIn x (y ∷ ys) = (x ≡ y) ⊎ IsIn x ys

-- each item of the list meets P
abbrev pub Every : {X : Type 0} → (X → Type 0) → List X → Type 0
Every P [] = Unit {0}
Every P (x ∷ xs) = P x × Every P xs

-- no item stands twice
abbrev pub IsDistinct : {X : Type 0} → List X → Type 0
IsDistinct [] = Unit {0}
IsDistinct (x ∷ xs) = (IsIn x xs → ⊥) × IsDistinct xs

-- the lists are as long as each other, and the items in each place are related
abbrev pub Paired : {X Y : Type 0} → (X → Y → Type 0) → List X → List Y → Type 0
Paired R [] [] = Unit {0}
Paired R [] (y ∷ ys) = ⊥
Paired R (x ∷ xs) [] = ⊥
Paired R (x ∷ xs) (y ∷ ys) = R x y × Paired R xs ys

-- the lists are as long as each other, p and q stand at place i of them, and the items in each other place are related
abbrev pub PairedBut : {X Y : Type 0} → (X → Y → Type 0) → ℕ → X → Y → List X → List Y → Type 0
PairedBut R i p q [] ys = ⊥
PairedBut R i p q (x ∷ xs) [] = ⊥
PairedBut R zero p q (x ∷ xs) (y ∷ ys) = (x ≡ p) × (y ≡ q) × Paired R xs ys
PairedBut R (suc i) p q (x ∷ xs) (y ∷ ys) = R x y × PairedBut R i p q xs ys

-- the sum of the numbers
abbrev pub sum_of : List ℕ → ℕ
sum_of [] = 0
sum_of (n ∷ ns) = n + sum_of ns
