-- Copies of a list, and one more behind them.
use Rattle.std.specs.Prelude.{◌≡◌, ◌+◌, ℕ, zero, suc, List, ◌++◌}
use Rattle.std.specs.List.{repeat}
use Rattle.std.proofs.Common.{sym, ap, ◌∙◌}
use Rattle.std.proofs.lemmas.List.{append-nil, append_assoc}
use Rattle.std.proofs.Math.Numerals.{suc-eq-add-one}

one_behind : {A : Type 0} → (n : ℕ) (xs : List A) → repeat n xs ++ xs ≡ repeat (suc n) xs
one_behind zero xs = sym (append-nil xs)
one_behind (suc n) xs = append_assoc xs (repeat n xs) xs ∙ ap (λ rest. xs ++ rest) (one_behind n xs)

pub one_more : {A : Type 0} → (n : ℕ) (xs : List A) → repeat n xs ++ xs ≡ repeat (n + 1) xs
one_more n xs = one_behind n xs ∙ ap (λ k. repeat k xs) (suc-eq-add-one n)
