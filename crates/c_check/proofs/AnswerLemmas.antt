-- What holds of the answer tells it.
use Rattle.std.proofs.Common.{◌≡◌, ◌⊎◌, inl, inr, Result, Ok, Err, IfOk, IfErr, ap}
use Rattle.c_ast.specs.declared.items.Unit as whole
use Rattle.c_types.specs.Program.{Program}
use Rattle.c_typing.specs.Typing.{IsFirstFault, TypedOf}
use Rattle.c_typing.proofs.TypingLaws.{one_first_fault, one_program, typed_or_fault}
use Rattle.c_typing.specs.declared.fault.TypeFault.{TypeFault}
use Rattle.c_typing.specs.declared.fault.TypeFault.TheVariants.{Memory}

abbrev pub IsAnswer : whole.Unit → TypeFault → Type 0
IsAnswer u e = (e ≡ Memory) ⊎ IsFirstFault u e

pub types_all : (u : whole.Unit) (r : Result Program TypeFault) → IfOk r (TypedOf u) → IfErr r (IsAnswer u)
    → (p : Program) → TypedOf u p → (r ≡ Ok p) ⊎ (r ≡ Err Memory)
types_all u (Ok q) ok err p typed = inl (ap (λ w. Ok w) (one_program u q p ok typed))
types_all u (Err e) ok (inl h) p typed = inr (ap (λ d. Err d) h)
types_all u (Err e) ok (inr first) p typed = absurd (typed_or_fault u p e typed first)

pub finds_all : (u : whole.Unit) (r : Result Program TypeFault) → IfOk r (TypedOf u) → IfErr r (IsAnswer u)
    → (e : TypeFault) → IsFirstFault u e → (r ≡ Err e) ⊎ (r ≡ Err Memory)
finds_all u (Ok q) ok err e first = absurd (typed_or_fault u q e ok first)
finds_all u (Err d) ok (inl h) e first = inr (ap (λ f. Err f) h)
finds_all u (Err d) ok (inr one) e first = inl (ap (λ f. Err f) (one_first_fault u d e one first))
