use Rattle.std.proofs.Common.{take}
use Rattle.fore_base.specs.Lists.{Every}
use Rattle.fa_sound.specs.Soundness.{SoundForest}
use Rattle.sym_step.specs.inner.Topping.{IsToppedAt}
use Rattle.sym_step.proofs.topping.are_topped.Given as goal

abbrev pub invariant-loop-part : goal.invariant-loop-part
invariant-loop-part l = Every (λ (S : SoundForest). IsToppedAt l.root S S) (take l.part-index l.parts)
