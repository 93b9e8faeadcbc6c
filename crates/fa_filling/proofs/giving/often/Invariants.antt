use Rattle.std.proofs.Common.{◌≡◌, ◌≤◌, ◌+◌, drop}
use Rattle.fa_core.specs.Rearranged.{often}
use Rattle.fa_filling.proofs.giving.often.Given as goal

abbrev pub invariant-loop-other : goal.invariant-loop-other
invariant-loop-other l = (l.count ≤ l.other-index)
    × (l.count + often l.number (drop l.other-index l.numbers) ≡ often l.number l.numbers)
