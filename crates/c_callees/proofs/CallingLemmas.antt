-- What is called, one list of names after the other.
use Rattle.std.proofs.Common.{◌≡◌, ℕ, ◌+◌, ◌<◌, ◌≤◌, List, [], ◌∷◌, ◌++◌, length, map, drop, get_or, refl, sym, ap, ◌∙◌}
use Rattle.std.proofs.Common.{append_assoc, append-nil}
use Rattle.std.proofs.lemmas.List.{drop_all}
use Rattle.fore_base.proofs.ListLemmas.{drop_item}
use Rattle.c_ast.specs.declared.operands.Call.{Call, out-Call, roll-out-Call}
use Rattle.c_typing.specs.Callees.{call_callees, operand_callees}
use Rattle.c_typing.proofs.CalleeLayers.{callees-operands}
use Rattle.c_typing.specs.Globals.{maybe_number, numbers_among}
use Rattle.c_typing.specs.Texts.{Text, each_of, joined, number_of}
use Rattle.c_callees.specs.inner.Calling.{called, called_one}

module _ (names : List Text) where
  pub called-none : (found : List ℕ) → called names found [] ≡ found
  unfolding called
  called-none found = refl

  pub called-single : (found : List ℕ) (x : Text) → called names found (x ∷ []) ≡ called_one names found x
  unfolding called
  called-single found x = refl

  pub called-more : (found : List ℕ) (x : Text) (xs : List Text)
      → called names found (x ∷ xs) ≡ called names (called_one names found x) xs
  unfolding called
  called-more found x xs = refl

  pub called-append : (found : List ℕ) (xs ys : List Text)
      → called names found (xs ++ ys) ≡ called names (called names found xs) ys
  unfolding called
  called-append found [] ys = refl
  called-append found (x ∷ xs) ys = called-append (called_one names found x) xs ys

  pub called-three : (f0 f1 f2 f3 : List ℕ) (xs ys zs : List Text) → f1 ≡ called names f0 xs → f2 ≡ called names f1 ys
      → f3 ≡ called names f2 zs → f3 ≡ called names f0 (xs ++ ys ++ zs)
  called-three f0 f1 f2 f3 xs ys zs h k l =
      l ∙ ap (λ f. called names f zs) (k ∙ ap (λ f. called names f ys) h ∙ sym (called-append f0 xs ys))
      ∙ sym (called-append f0 (xs ++ ys) zs)

  -- a call, and then what its operands call
  pub called-call : (found : List ℕ) (c : Call) → called names found (call_callees c)
      ≡ called names (called_one names found (out-Call c).name.text)
      (joined (map operand_callees (out-Call c).operands))
  called-call found c =
      ap (called names found)
      (ap call_callees (sym (roll-out-Call c)) ∙ callees-operands (out-Call c).name (out-Call c).operands)
      ∙ called-more found (out-Call c).name.text (joined (map operand_callees (out-Call c).operands))

  -- all that is called are the numbers of the names, in order
  pub called-all : (found : List ℕ) (xs : List Text) → called names found xs ≡ found ++ numbers_among names xs
  unfolding called
  called-all found [] = sym (append-nil found)
  called-all found (x ∷ xs) = called-all (called_one names found x) xs
      ∙ append_assoc found (maybe_number (number_of x names)) (numbers_among names xs)

  module _ {X : Type 0} (f : X → List Text) (xs : List X) (i : ℕ) where
    pub each_called : (found : List ℕ) (x : X) → i < length xs → x ≡ get_or xs i x →
        called names found (joined (map f (drop i xs)))
        ≡ called names (called names found (f x)) (joined (map f (drop (i + 1) xs)))
    each_called found x within is =
        ap (λ ys. called names found (joined (map f ys))) (drop_item xs i x within is)
        ∙ called-append found (f x) (joined (map f (drop (i + 1) xs)))

    pub none_called : (found : List ℕ) → length xs ≤ i → called names found (joined (map f (drop i xs))) ≡ found
    none_called found past = ap (λ ys. called names found (joined (map f ys))) (drop_all i xs past) ∙ called-none found

    pub item_called : (found : List ℕ) (x : X) → i < length xs → x ≡ get_or xs i x →
        called names found (each_of f (drop i xs))
        ≡ called names (called names found (f x)) (each_of f (drop (i + 1) xs))
    item_called found x within is =
        ap (λ ys. called names found (each_of f ys)) (drop_item xs i x within is)
        ∙ called-append found (f x) (each_of f (drop (i + 1) xs))

    pub no_item_called : (found : List ℕ) → length xs ≤ i → called names found (each_of f (drop i xs)) ≡ found
    no_item_called found past = ap (λ ys. called names found (each_of f ys)) (drop_all i xs past) ∙ called-none found

pub ruleset calling = (called-none, called-single, called-more, called-append)
