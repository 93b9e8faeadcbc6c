use Rattle.std.proofs.Common.{◌≡◌, drop}
use Rattle.fa_order.specs.inner.Deciding.{rise_from}
use Rattle.fa_order.proofs.deciding.do_rise.Given as goal

abbrev pub invariant-loop-number : goal.invariant-loop-number
invariant-loop-number l = (l.next ≡ l.number-index)
    × (rise_from l.next (drop l.number-index l.numbers) ≡ rise_from 0 l.numbers)
