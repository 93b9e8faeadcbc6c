use Rattle.std.proofs.Common.{◌≡◌, ◌≤◌, ◌+◌, ◌-◌, ◌^◌, drop, map}
use Rattle.std.specs.Prelude.{min}
use Rattle.fix_core.specs.Counted.{rules_in}
use Rattle.fix_core.specs.Reads.{auto_at}
use Rattle.fix_core.proofs.counting.count_rules.Given as goal

abbrev pub invariant-loop-number : goal.invariant-loop-number
invariant-loop-number l = (l.rules ≤ 2 ^ 64 - 1)
    × (min (l.rules + rules_in (map (auto_at l.pool) (drop l.number-index l.numbers))) (2 ^ 64 - 1)
    ≡ min (rules_in (map (auto_at l.pool) l.numbers)) (2 ^ 64 - 1))
