-- Lists of which each two items are so related.
use Rattle.std.proofs.Common.{◌≡◌, ℕ, suc, zero, List, [], ◌∷◌, ◌++◌, slice_get, Some, take}
use Rattle.fore_base.specs.Lists.{Every}
use Rattle.fore_base.proofs.ListLemmas.{every_append}
use Rattle.fix_core.proofs.Lists.{in_at, every_in}
use Rattle.fix_successors.specs.Arriving.{EachTwo}

pub before_each : {X : Type 0} (P : X → X → Type 0) (xs : List X) (i : ℕ) (x : X) → EachTwo P xs
    → slice_get xs i ≡ Some x → Every (λ y. P y x) (take i xs)
before_each P [] i x two h = cc
before_each P (y ∷ ys) zero x two h = tt
before_each P (y ∷ ys) (suc i) x two h = (every_in (P y) ys x two.0 (in_at ys i x h), before_each P ys i x two.1 h)

-- lists of which also each item of the first is so related to each of the second
pub each_two_append : {X : Type 0} (P : X → X → Type 0) (xs ys : List X) → EachTwo P xs → EachTwo P ys
    → Every (λ x. Every (P x) ys) xs → EachTwo P (xs ++ ys)
each_two_append P [] ys a b c = b
each_two_append P (x ∷ xs) ys a b c =
    (every_append (P x) xs ys a.0 c.0, each_two_append P xs ys a.1 b c.1)
