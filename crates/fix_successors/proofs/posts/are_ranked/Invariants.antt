use Rattle.std.proofs.Common.{take}
use Rattle.fore_base.specs.Lists.{Every}
use Rattle.ta_core.specs.Auto.{IsRanked}
use Rattle.fix_successors.proofs.posts.are_ranked.Given as goal

abbrev pub invariant-loop-forest : goal.invariant-loop-forest
invariant-loop-forest l = Every (λ s. Every IsRanked s.forest.autos) (take l.forest-index l.forests)
