use Rattle.std.proofs.Common.{length, ◌≤◌}
use Rattle.c_grammar.proofs.Enumerators.{Walks}
use Rattle.c_parser.proofs.enums.more_names.Given as goal

abbrev pub invariant-names : goal.invariant-names
invariant-names l = record
    { shorter : length l.rest ≤ length l.left; walks : Walks l.bounds.room l.bounds.end l.left l.rest l.all }

abbrev pub decreases-names : goal.decreases-names
decreases-names l = length l.rest
