use Rattle.std.proofs.Common.{◌≡◌, take, map}
use Rattle.ta_core.specs.Tables.{line_rule}
use Rattle.ta_core.proofs.tables.rules.Given as goal

abbrev pub invariant-loop-line : goal.invariant-loop-line
invariant-loop-line l = l.made ≡ map line_rule (take l.line-index l.lines)
