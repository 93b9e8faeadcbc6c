use Rattle.std.proofs.Common.{◌≡◌, ◌∙◌, ap, length, sym}
use Rattle.std.proofs.lemmas.Result.{IfOk-weaker}
use Rattle.fore_base.proofs.ListLemmas.{paired_long}
use Rattle.fa_core.specs.Canonical.{var_roots}
use Rattle.fa_merge.specs.Signed.{IsSignatureOf}
use Rattle.fa_order.specs.Placing.{IsWalkOrder}
use Rattle.fa_order.specs.inner.Backs.{refs_of}
use Rattle.fa_order.proofs.WalkOrder.{vars_below, all_refs_below, all_led_within, is_walk, refs_long}
use Rattle.fa_order.proofs.roots.walk_order.Goals as goal

pub walk-requires-clause-from : goal.walk-requires-clause-from
walk-requires-clause-from c =
    let F = c.args.forest.now.forest in
    let bs = c.args.forest.now.face.boxes in
    let ss = c.in_ok-signatures.signatures in
    let from : c.as_slice-3.result.now ≡ var_roots F.vars =
    rw (c.as_slice-2.ensures, c.forest.ensures) at (c.as_slice-3.ensures ∙ c.in_ok-from.ensures) in
    let long : length F.autos ≡ length c.in_ok-refers.refers =
    paired_long (IsSignatureOf bs) F.autos ss c.in_ok-signatures.ensures.signed
    ∙ sym (refs_long ss) ∙ ap length (sym (rw c.as_slice.ensures at c.in_ok-refers.ensures)) in
    rw (from, ← long) (vars_below c.args.forest.now.face F c.known.ensures.sound)

pub walk-requires-clause-refers : goal.walk-requires-clause-refers
walk-requires-clause-refers c =
    let F = c.args.forest.now.forest in
    let bs = c.args.forest.now.face.boxes in
    let ss = c.in_ok-signatures.signatures in
    let refs : c.in_ok-refers.refers ≡ refs_of ss = rw c.as_slice.ensures at c.in_ok-refers.ensures in
    let long : length F.autos ≡ length (refs_of ss) =
    paired_long (IsSignatureOf bs) F.autos ss c.in_ok-signatures.ensures.signed ∙ sym (refs_long ss) in
    rw (refs, ← long)
    (all_refs_below c.args.forest.now.face F c.known.ensures.sound ss c.in_ok-signatures.ensures.signed)

pub walk-requires-clause-long : goal.walk-requires-clause-long
walk-requires-clause-long c =
    let ss = c.in_ok-signatures.signatures in
    ap length c.as_slice-4.ensures ∙ sym (refs_long ss)
    ∙ ap length (sym (rw c.as_slice.ensures at c.in_ok-refers.ensures))

pub walk-requires-clause-few : goal.walk-requires-clause-few
walk-requires-clause-few c = rw c.as_slice-4.ensures c.in_ok-signatures.ensures.few

pub walk-requires-clause-within : goal.walk-requires-clause-within
walk-requires-clause-within c =
    let F = c.args.forest.now.forest in
    let ss = c.in_ok-signatures.signatures in
    let refs : c.in_ok-refers.refers ≡ refs_of ss = rw c.as_slice.ensures at c.in_ok-refers.ensures in
    rw (c.as_slice-4.ensures, refs)
    (all_led_within c.args.forest.now.face F c.known.ensures.sound ss c.in_ok-signatures.ensures.signed)

pub returns : goal.returns
returns c =
    let F = c.args.forest.now.forest in
    let face = c.args.forest.now.face in
    let ss = c.in_ok-signatures.signatures in
    let from : c.as_slice-3.result.now ≡ var_roots F.vars =
    rw (c.as_slice-2.ensures, c.forest.ensures) at (c.as_slice-3.ensures ∙ c.in_ok-from.ensures) in
    let refs : c.in_ok-refers.refers ≡ refs_of ss = rw c.as_slice.ensures at c.in_ok-refers.ensures in
    IfOk-weaker c.walk.result _ (IsWalkOrder face F)
    (λ order w. is_walk face F ss c.in_ok-signatures.ensures.signed order
    (rw (c.as_slice-4.ensures, refs, from) at w))
    c.walk.ensures
