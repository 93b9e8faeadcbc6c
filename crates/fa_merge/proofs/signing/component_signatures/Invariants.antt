use Rattle.std.proofs.Common.{take}
use Rattle.fore_base.specs.Lists.{Paired}
use Rattle.fa_merge.specs.Signed.{IsSignatureOf}
use Rattle.fa_merge.proofs.signing.component_signatures.Given as goal

abbrev pub invariant-loop-root : goal.invariant-loop-root
invariant-loop-root l = Paired (IsSignatureOf l.forest.face.boxes) (take l.root l.forest.forest.autos) l.all
