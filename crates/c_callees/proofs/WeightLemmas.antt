-- What the calls and weights of a file have for `main`, the last of its functions.
use Rattle.std.proofs.Common.{◌≡◌, ℕ, ◌+◌, List, [], ◌∷◌, length, map, min, codes, slice_index, sym, ap, ◌∙◌}
use Rattle.std.proofs.Common.{arith, inl, inr}
use Rattle.std.proofs.Math.Dec.{ltb}
use Rattle.std.proofs.Math.Nat.{min-eq_left, min-eq_right}
use Rattle.std.proofs.lemmas.Bool.{cases_lt, lt-ltb}
use Rattle.std.proofs.lemmas.List.{length-append, length-map}
use Rattle.c_ast.specs.declared.items.Item.{Item}
use Rattle.c_calls.specs.Weights.{AreWeights}
use Rattle.c_typing.specs.Globals.{calls_of, function_heads, head_name, names_of_calls}
use Rattle.c_typing.specs.Weights.{main_weight, statements_of}

-- `main` stands after the functions besides it
names_long : (items : List Item) → length (names_of_calls items) ≡ length (function_heads items) + 1
names_long items =
    length-append (map head_name (function_heads items)) (codes "main" ∷ [])
    ∙ ap (λ n. n + 1) (length-map (function_heads items) head_name)

pub calls_long : (items : List Item) → length (calls_of items) ≡ length (function_heads items) + 1
calls_long items = length-map (names_of_calls items) _ ∙ names_long items

pub statements_long : (items : List Item) → length (statements_of items) ≡ length (calls_of items)
statements_long items = length-map (names_of_calls items) _ ∙ sym (length-map (names_of_calls items) _)

module _ (items : List Item) (weights : List ℕ) (cap : ℕ) where
  abbrev Weights : Type 0
  Weights = AreWeights (statements_of items) (calls_of items) cap weights

  pub weights_long : Weights → length weights ≡ length (function_heads items) + 1
  weights_long are = are.long ∙ calls_long items

  pub main_last : Weights → slice_index weights (length (function_heads items)) ≡ min (main_weight items) cap
  main_last are = are.each (length (function_heads items)) (omega (arith, calls_long items))

-- a weight that is cut one above the limit tells whether it is above
pub cut_above : (w m : ℕ) → ltb m (min w (m + 1)) ≡ ltb m w
cut_above w m = elim (cases_lt m w) [
  | inl l ↦ ap (ltb m) (min-eq_right (omega (arith, l))) ∙ lt-ltb m (m + 1) (omega arith) ∙ sym (lt-ltb m w l)
  | inr l ↦ ap (ltb m) (min-eq_left (omega (arith, l)))
]
