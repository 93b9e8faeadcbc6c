use Rattle.std.proofs.Common.{◌≡◌, take}
use Rattle.fa_filling.specs.Parted.{all_tops}
use Rattle.fa_filling.proofs.choosing.all_tops.Given as goal

abbrev pub invariant-loop-own : goal.invariant-loop-own
invariant-loop-own l = l.all ≡ all_tops (take l.own-index l.parts)
