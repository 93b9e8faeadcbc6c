-- What an answer on inclusion says, in one.
use Rattle.ta_core.specs.Auto.{Automaton}
use Rattle.ta_core.specs.Language.{IsWithin}
use Rattle.ta_incl.specs.Inclusions.{IsAntichain, IsClosed, MeetsRoots, IsMissing}
use Rattle.ta_incl.specs.declared.inclusion.Inclusion.{Inclusion}
use Rattle.ta_incl.specs.declared.inclusion.Inclusion.TheVariants.{Yes, No}

-- Yes comes where each tree of a is one of b, with an antichain of pairs that is closed under the rules and meets the
-- roots; No comes with a tree of a that is none of b
abbrev pub Answers : Automaton → Automaton → Inclusion → Type 0
Answers a b (Yes pairs) = IsWithin a b × IsAntichain pairs × IsClosed a b pairs × MeetsRoots a b pairs
Answers a b (No tree) = IsMissing a b tree
