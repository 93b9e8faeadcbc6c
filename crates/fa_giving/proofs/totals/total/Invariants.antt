use Rattle.std.proofs.Common.{◌≡◌, drop}
use Rattle.fa_giving.specs.inner.Totals.{total, none_given}
use Rattle.fa_giving.proofs.totals.total.Given as goal

abbrev pub invariant-loop-own : goal.invariant-loop-own
invariant-loop-own l = total l.sum (drop l.own-index l.all) ≡ total none_given l.all
