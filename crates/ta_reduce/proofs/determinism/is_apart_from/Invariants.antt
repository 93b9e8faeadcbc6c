use Rattle.std.proofs.Common.{◌↔◌, drop}
use Rattle.fore_base.specs.Lists.{Every}
use Rattle.ta_reduce.specs.inner.Determinism.{IsApart}
use Rattle.ta_reduce.proofs.determinism.is_apart_from.Given as goal

abbrev pub invariant-loop-other : goal.invariant-loop-other
invariant-loop-other l = Every (IsApart l.rule) (drop l.other-index l.others) ↔ Every (IsApart l.rule) l.others
