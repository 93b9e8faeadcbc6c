use Rattle.std.proofs.Common.{[], ◌++◌, take}
use Rattle.fore_base.specs.Lists.{Every}
use Rattle.ta_incl.specs.inner.Founds.{HasUnder, IsDerived, CoversFrom, Widens}
use Rattle.ta_incl.proofs.exploring.step.Given as goal

abbrev pub invariant-loop-place : goal.invariant-loop-place
invariant-loop-place l = record {
  widens : Widens l.orders.left (λ f. IsDerived l.rules l.right l.found f × HasUnder l.right l.orders.right f) l.found
      []
      l.added;
  covers : Every (λ r. CoversFrom l.right l.orders l.found l.turn (l.found ++ l.added) r []) (take l.place l.rules);
}
