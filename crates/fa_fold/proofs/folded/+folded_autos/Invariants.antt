use Rattle.std.proofs.Common.{length}
use Rattle.fa_fold.proofs.folded.+folded_autos.Given as goal

abbrev pub decreases-folded_autos : goal.decreases-folded_autos
decreases-folded_autos l = length l.roots.now
