use Rattle.std.proofs.Common.{◌≡◌, replicate, None}
use Rattle.fa_sound.proofs.entries.no_entries.Given as goal

abbrev pub invariant-loop-i : goal.invariant-loop-i
invariant-loop-i g l = l.table ≡ replicate l._i None
