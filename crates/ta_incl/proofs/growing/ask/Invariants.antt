use Rattle.std.proofs.Common.{◌≡◌, ◌++◌, map, take}
use Rattle.ta_core.specs.inner.Tasks.{visit}
use Rattle.ta_incl.specs.inner.Tasks.{seen}
use Rattle.ta_incl.proofs.growing.ask.Given as goal

abbrev pub invariant-loop-place : goal.invariant-loop-place
invariant-loop-place l = map seen l.tasks ≡ map seen l.fn.tasks ++ map visit (take l.place-index l.places)
