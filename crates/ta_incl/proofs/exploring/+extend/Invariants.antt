use Rattle.std.proofs.Common.{◌-◌, ◌++◌, length}
use Rattle.ta_incl.specs.inner.Founds.{HasUnder, IsFrom, Widens}
use Rattle.ta_incl.proofs.Extending.{CoversNext}
use Rattle.ta_incl.proofs.exploring.+extend.Given as goal

abbrev pub decreases-extend : goal.decreases-extend
decreases-extend l = length l.rule.now.children - length l.from.now

abbrev pub invariant-loop-next : goal.invariant-loop-next
invariant-loop-next l = record {
  widens : Widens l.orders.left
      (λ f. IsFrom l.right l.found l.place l.rule f × HasUnder l.right l.orders.right f) l.found
      l.initial.added l.added;
  covers : CoversNext l.right l.orders l.found l.turn (l.found ++ l.added) l.rule l.from l.next;
}
