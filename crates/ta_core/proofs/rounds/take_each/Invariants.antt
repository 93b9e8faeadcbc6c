use Rattle.std.proofs.Common.{◌≡◌, ◌<◌, take}
use Rattle.std.specs.Bool.{MatchBool}
use Rattle.fore_base.specs.Lists.{Every}
use Rattle.ta_core.proofs.rounds.take_each.Given as goal

abbrev pub invariant-loop-item : goal.invariant-loop-item
invariant-loop-item g l = record {
  keeps : g.K.Taker.keeps l.taker l.value;
  changes : MatchBool l.changed (g.K.Taker.left l.taker l.value < g.K.Taker.left l.taker l.initial.value)
      ((l.value ≡ l.initial.value) × Every (g.K.Taker.is_taken l.taker l.value) (take l.item-index l.items));
}
