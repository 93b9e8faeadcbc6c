use Rattle.std.proofs.Common.{arith}
use Rattle.fore_base.proofs.ListLemmas.{paired_push}
use Rattle.fa_merge.specs.Signed.{IsSignatureOf}
use Rattle.fa_merge.proofs.Signatures.{one_more}
use Rattle.fa_merge.proofs.signing.component_signatures.Goals as goal

pub loop-root-preserved : goal.loop-root-preserved
loop-root-preserved c =
    let low = c.loop-root-test.true in
    let size = c.requires in
    let k = one_more c.args.forest.now.forest.autos c.loop-root.root (omega (arith, low, size)) in
    rw (k.2, c.in_ok-push.ensures.ok)
    (paired_push (IsSignatureOf c.args.forest.now.face.boxes) _ _ k.0 _ c.loop-root.invariant
    (c.in_ok-signature.ensures k.0 k.1))
