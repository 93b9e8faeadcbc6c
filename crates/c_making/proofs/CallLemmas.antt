-- Arguments, one after the other.
use Rattle.std.proofs.Common.{◌≡◌, ℕ, ◌+◌, ◌<◌, ◌≤◌, ◌++◌, List, [], ◌∷◌, Some, None, length, drop, get_or, slice_get}
use Rattle.std.proofs.Common.{append_assoc, refl, sym, ap, ◌∙◌}
use Rattle.std.proofs.lemmas.List.{drop_all, get_or_default}
use Rattle.fore_base.proofs.ListLemmas.{drop_item}
use Rattle.c_ast.specs.declared.operands.Operand.{Operand}
use Rattle.c_types.specs.declared.program.Arg.{Arg}
use Rattle.c_typing.specs.Globals.{Globals}
use Rattle.c_typing.specs.Meanings.{meaning_of_operand}
use Rattle.c_typing.specs.Programs.{arg_of, args_of}
use Rattle.c_typing.specs.Scopes.{Scope}
use Rattle.c_typing.specs.declared.meaning.Kind.{Kind}
use Rattle.c_expressions.proofs.OperandLemmas.{drop_got, drop_past}

append_none : (xs : List Arg) → xs ++ [] ≡ xs
append_none [] = refl
append_none (x ∷ xs) = ap (λ (ys : List Arg). x ∷ ys) (append_none xs)

module _ (g : Globals) (scope : Scope) (ks : List Kind) (os : List Operand) (i : ℕ) where
  -- one argument more, where it was added
  pub args_step : (d : Kind) (o : Operand) (made : List Arg) (x : Arg) → i < length ks → slice_get os i ≡ Some o
      → x ≡ arg_of (get_or ks i d) (meaning_of_operand g scope o) →
      (made ++ x ∷ []) ++ args_of g scope (drop (i + 1) ks) (drop (i + 1) os)
      ≡ made ++ args_of g scope (drop i ks) (drop i os)
  args_step d o made x within got is =
      let k = get_or ks i d in
      let rest = args_of g scope (drop (i + 1) ks) (drop (i + 1) os) in
      append_assoc made (x ∷ []) rest
      ∙ ap (λ (y : Arg). made ++ y ∷ rest) is
      ∙ sym
      (ap (λ ls. made ++ args_of g scope ls (drop i os)) (drop_item ks i k within (get_or_default ks i d k within))
      ∙ ap (λ ps. made ++ args_of g scope (k ∷ drop (i + 1) ks) ps) (drop_got os i o got))

  no_operands : (ls : List Kind) → args_of g scope ls [] ≡ []
  no_operands [] = refl
  no_operands (l ∷ ls) = refl

  -- where no operand is left, or no parameter
  pub args_none : (made : List Arg) → slice_get os i ≡ None → made ++ args_of g scope (drop i ks) (drop i os) ≡ made
  args_none made none =
      ap (λ ps. made ++ args_of g scope (drop i ks) ps) (drop_past os i none)
      ∙ ap (λ xs. made ++ xs) (no_operands (drop i ks)) ∙ append_none made

  pub args_end : (made : List Arg) → length ks ≤ i → made ++ args_of g scope (drop i ks) (drop i os) ≡ made
  args_end made past =
      ap (λ ls. made ++ args_of g scope ls (drop i os)) (drop_all i ks past) ∙ append_none made
