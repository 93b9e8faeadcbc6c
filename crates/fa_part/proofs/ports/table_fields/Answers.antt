use Rattle.std.proofs.Common.{arith}
use Rattle.std.proofs.lemmas.Result.{IfOk-at_ok}
use Rattle.fore_base.proofs.ListLemmas.{paired_push}
use Rattle.fa_merge.proofs.Signatures.{one_more}
use Rattle.fa_part.specs.Ports.{AreFieldsOf}
use Rattle.fa_part.proofs.ports.table_fields.Goals as goal

pub loop-box_no-preserved : goal.loop-box_no-preserved
loop-box_no-preserved c =
    let low = c.loop-box_no-test.true in
    let size = c.len-box_no-end.ensures in
    let R = AreFieldsOf c.args.table.now.face.boxes in
    let k = one_more c.args.table.now.defs c.loop-box_no.box_no (omega (arith, low, size)) in
    rw (k.2, c.in_ok-push.ensures.ok)
    (paired_push R _ _ k.0 _ c.loop-box_no.invariant
    (IfOk-at_ok (R k.0) c.in_ok-box_fields.was (c.box_fields.ensures k.0 k.1)))
