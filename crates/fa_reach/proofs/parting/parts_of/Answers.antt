use Rattle.std.proofs.Common.{take}
use Rattle.fore_base.proofs.ListLemmas.{take_item, in_at}
use Rattle.fa_reach.proofs.Signed.{parts_push}
use Rattle.fa_reach.proofs.parting.parts_of.Goals as goal

pub loop-signature-preserved : goal.loop-signature-preserved
loop-signature-preserved c =
    rw (take_item c.args.signatures.now c.loop-signature.signature-index c.signature-item.result
    c.loop-signature-test.true c.signature-item.is)
    (parts_push c.args.place c.args.signatures.now (take c.loop-signature.signature-index c.args.signatures.now)
    c.signature-item.result c.loop-signature.parts c.add_part.new.parts c.loop-signature.invariant
    c.in_ok-add_part.ensures)

pub add_part-requires : goal.add_part-requires
add_part-requires c = in_at c.args.signatures.now c.loop-signature.signature-index c.signature-item.result
    c.loop-signature-test.true c.signature-item.is
