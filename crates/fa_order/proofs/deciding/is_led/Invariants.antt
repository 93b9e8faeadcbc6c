use Rattle.std.proofs.Common.{◌≡◌, drop}
use Rattle.fa_order.specs.inner.Deciding.{any_leads}
use Rattle.fa_order.proofs.deciding.is_led.Given as goal

abbrev pub invariant-loop-mark : goal.invariant-loop-mark
invariant-loop-mark l = any_leads l.root (drop l.mark-index l.own) ≡ any_leads l.root l.own
