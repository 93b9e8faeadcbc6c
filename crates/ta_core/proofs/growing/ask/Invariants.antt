use Rattle.std.proofs.Common.{◌≡◌, ◌++◌, map, take}
use Rattle.ta_core.specs.inner.Growing.{seen}
use Rattle.ta_core.specs.inner.Tasks.{visit}
use Rattle.ta_core.proofs.growing.ask.Given as goal

abbrev pub invariant-loop-state : goal.invariant-loop-state
invariant-loop-state l = map seen l.tasks ≡ map seen l.fn.tasks ++ map visit (take l.state-index l.states)
