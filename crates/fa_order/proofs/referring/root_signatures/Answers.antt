use Rattle.std.proofs.Common.{◌<◌, ◌^◌, List, length, arith}
use Rattle.std.proofs.lemmas.Result.{IfOk-weaker}
use Rattle.fore_base.specs.Lists.{Paired}
use Rattle.fore_base.proofs.ListLemmas.{paired_long}
use Rattle.fa_core.specs.declared.signature.Signature.{Signature}
use Rattle.fa_merge.specs.Signed.{IsSignatureOf}
use Rattle.fa_order.proofs.referring.root_signatures.Goals as goal

pub returns-clause-few : goal.returns-clause-few
returns-clause-few c =
    let autos = c.args.forest.now.forest.autos in
    let signed = IsSignatureOf c.args.forest.now.face.boxes in
    IfOk-weaker c.component_signatures.result (Paired signed autos) (λ (all : List Signature). length all < 2 ^ 32)
    (λ all h.
    let long = paired_long signed autos all h in
    let size = rw c.forest.ensures at c.in_ok-count.ensures.value in
    let few = c.in_ok-count.ensures.few in
    omega (arith, long, size, few))
    c.component_signatures.ensures
