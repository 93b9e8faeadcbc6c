use Rattle.std.proofs.Common.{◌≡◌, drop}
use Rattle.fa_sound.specs.Entries.{all_known}
use Rattle.fa_sound.proofs.entries.are_known.Given as goal

abbrev pub invariant-loop-state : goal.invariant-loop-state
invariant-loop-state g l = all_known l.table (drop l.state-index l.states) ≡ all_known l.table l.states
