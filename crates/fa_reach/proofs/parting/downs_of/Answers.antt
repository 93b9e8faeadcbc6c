use Rattle.std.proofs.Common.{take}
use Rattle.fore_base.proofs.ListLemmas.{take_item}
use Rattle.fa_reach.proofs.Signed.{downs_push}
use Rattle.fa_reach.proofs.parting.downs_of.Goals as goal

pub loop-signature-preserved : goal.loop-signature-preserved
loop-signature-preserved c =
    rw (take_item c.args.signatures.now c.loop-signature.signature-index c.signature-item.result
    c.loop-signature-test.true c.signature-item.is)
    (downs_push c.args.place c.args.hops.now (take c.loop-signature.signature-index c.args.signatures.now)
    c.signature-item.result c.loop-signature.downs c.add_down.new.downs c.loop-signature.invariant
    c.in_ok-add_down.ensures)
