-- Which of two faults is reported: the one at the earlier place, on one place a rule before a limit, and then the
-- lesser number.
use Rattle.std.specs.Prelude.{ℕ, Bool, true, false, ◌&&◌, ◌||◌, nat_eq, nat_lt, List, [], ◌∷◌}
use Rattle.c_typing.specs.declared.fault.TypeFault.{TypeFault}
use Rattle.c_typing.specs.declared.fault.TypeFault.TheVariants.{Rule, Limit, Memory}

-- Lines and columns come last: of one text they say nothing that the offset does not, and with them no two faults are
-- level.
abbrev pub ranks : TypeFault → List ℕ
ranks (Rule rule at) = at.offset ∷ 0 ∷ rule ∷ at.line ∷ at.column ∷ []
ranks (Limit limit at) = at.offset ∷ 1 ∷ limit ∷ at.line ∷ at.column ∷ []
ranks Memory = []

-- the first numbers that differ decide; a list comes after its beginnings
abbrev pub less : List ℕ → List ℕ → Bool
less [] [] = false
less [] (n ∷ ns) = true
less (m ∷ ms) [] = false
less (m ∷ ms) (n ∷ ns) = nat_lt m n || (nat_eq m n && less ms ns)

abbrev pub before : TypeFault → TypeFault → Bool
before e f = less (ranks e) (ranks f)
