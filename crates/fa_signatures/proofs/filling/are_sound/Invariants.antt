use Rattle.std.proofs.Common.{take}
use Rattle.fore_base.specs.Lists.{Every}
use Rattle.fa_core.specs.Filled.{IsSound}
use Rattle.fa_signatures.specs.inner.CutProducts.{with_autos}
use Rattle.fa_signatures.proofs.filling.are_sound.Given as goal

abbrev pub invariant-loop-autos : goal.invariant-loop-autos
invariant-loop-autos l = Every (λ autos. IsSound l.face (with_autos l.forest autos)) (take l.autos-index l.choices)
