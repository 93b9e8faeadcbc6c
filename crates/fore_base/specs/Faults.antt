-- The numbers of faults.
use Rattle.std.specs.Prelude.{ℕ}
use Rattle.fore_base.specs.declared.fault.Fault.{Fault}
use Rattle.fore_base.specs.declared.fault.Fault.TheVariants.{NullDeref, UninitDeref, DanglingDeref, InvalidFree}
use Rattle.fore_base.specs.declared.fault.Fault.TheVariants.{DoubleFree, Leak, Assertion, IndetTest}

-- the number by which a fault is printed
abbrev pub number_of : Fault → ℕ
number_of NullDeref = 1
number_of UninitDeref = 2
number_of DanglingDeref = 3
number_of InvalidFree = 4
number_of DoubleFree = 5
number_of Leak = 6
number_of Assertion = 7
number_of IndetTest = 8
