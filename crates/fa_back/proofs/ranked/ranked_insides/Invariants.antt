use Rattle.std.proofs.Common.{take}
use Rattle.fa_back.specs.Insides.{AreRankedInsides}
use Rattle.fa_back.proofs.ranked.ranked_insides.Given as goal

abbrev pub invariant-loop-place : goal.invariant-loop-place
invariant-loop-place l = AreRankedInsides (take l.place l.table.defs)
