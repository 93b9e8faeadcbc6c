use Rattle.std.proofs.Common.{◌≡◌, drop}
use Rattle.fa_sound.specs.inner.Owned.{own_of}
use Rattle.fa_sound.proofs.owning.own_of.Given as goal

abbrev pub invariant-loop-state : goal.invariant-loop-state
invariant-loop-state l = own_of l.list (drop l.state-index l.states) ≡ own_of l.list l.states
