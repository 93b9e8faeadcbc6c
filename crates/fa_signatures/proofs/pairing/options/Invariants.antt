use Rattle.std.proofs.Common.{take}
use Rattle.fore_base.specs.Lists.{Paired}
use Rattle.fa_signatures.specs.inner.CutPairs.{ArePlacesOf}
use Rattle.fa_signatures.proofs.pairing.options.Given as goal

abbrev pub invariant-loop-state : goal.invariant-loop-state
invariant-loop-state l = Paired (ArePlacesOf l.pairs) l.options (take l.state-index l.states)
