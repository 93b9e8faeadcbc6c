-- The calls of a file are of functions that are there.
use Rattle.std.proofs.Common.{◌<◌, ℕ, List, [], ◌∷◌, length, map, Option, Some, None, sym, subst}
use Rattle.std.proofs.lemmas.List.{length-map}
use Rattle.fore_base.proofs.ListLemmas.{every_append}
use Rattle.fore_base.specs.Lists.{Every}
use Rattle.c_ast.specs.declared.items.Item.{Item}
use Rattle.c_calls.specs.Calls.{AreCalls}
use Rattle.c_typing.specs.Globals.{names_of_calls, body_named, maybe_number, numbers_among, body_callees, calls_of}
use Rattle.c_typing.specs.Texts.{Text, number_of}
use Rattle.c_typing.proofs.Sound.{number_below}
use Rattle.c_typing.proofs.Trees.{OfOption}

abbrev IsOne : List Text → ℕ → Type 0
IsOne names g = g < length names

one_below : (names : List Text) (o : Option ℕ) → OfOption (IsOne names) o → Every (IsOne names) (maybe_number o)
one_below names None below = tt
one_below names (Some n) below = (below, tt)

numbers_below : (names xs : List Text) → Every (IsOne names) (numbers_among names xs)
numbers_below names [] = tt
numbers_below names (x ∷ xs) =
    every_append (IsOne names) (maybe_number (number_of x names)) (numbers_among names xs)
    (one_below names (number_of x names) (number_below x names)) (numbers_below names xs)

bodies_below : (items : List Item) (names xs : List Text)
    → Every (Every (IsOne names)) (map (λ x. numbers_among names (body_callees (body_named x items))) xs)
bodies_below items names [] = tt
bodies_below items names (x ∷ xs) =
    (numbers_below names (body_callees (body_named x items)), bodies_below items names xs)

pub calls_within : (items : List Item) → AreCalls (calls_of items)
calls_within items =
    subst (λ n. Every (Every (λ g. g < n)) (calls_of items)) (sym (length-map (names_of_calls items) _))
    (bodies_below items (names_of_calls items) (names_of_calls items))
