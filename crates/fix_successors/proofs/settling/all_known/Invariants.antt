use Rattle.std.proofs.Common.{take}
use Rattle.fore_base.specs.Lists.{Every}
use Rattle.fa_sound.specs.Soundness.{IsSigned}
use Rattle.fix_successors.proofs.settling.all_known.Given as goal

abbrev pub invariant-loop-forest : goal.invariant-loop-forest
invariant-loop-forest l = Every IsSigned (take l.forest-index l.forests)
