use Rattle.std.proofs.Common.{arith}
use Rattle.std.proofs.lemmas.Result.{IfOk-weaker}
use Rattle.fore_base.proofs.ListLemmas.{paired_long}
use Rattle.fa_merge.specs.Signed.{IsSignatureOf}
use Rattle.fa_merge.proofs.LeaksDecided.{signs_name_below, vars_name_below, signed_marks}
use Rattle.fa_merge.proofs.leaking.marks_by.Goals as goal

pub reached-requires-clause-count : goal.reached-requires-clause-count
reached-requires-clause-count c =
    let long = paired_long (IsSignatureOf c.args.forest.now.face.boxes) c.args.forest.now.forest.autos
    c.args.signatures.now c.requires.signed in
    let count = c.requires.count in
    let fits = c.ranges._count.fits in
    omega (arith, long, count, fits)

pub reached-requires-clause-within : goal.reached-requires-clause-within
reached-requires-clause-within c =
    signs_name_below c.args.forest.now.face c.args.forest.now.forest c.args.signatures.now c.requires.signed
    c.known.ensures.sound

pub reached-requires-clause-from : goal.reached-requires-clause-from
reached-requires-clause-from c =
    rw (c.as_slice-2.ensures, c.in_ok-from.ensures, c.as_slice.ensures, c.forest.ensures) (
    vars_name_below c.args.forest.now.face c.args.forest.now.forest c.args.signatures.now c.requires.signed
    c.known.ensures.sound)

pub returns : goal.returns
returns c =
    let h =
    rw (c.as_slice-2.ensures, c.in_ok-from.ensures, c.as_slice.ensures, c.forest.ensures) at c.reached.ensures in
    IfOk-weaker c.reached.result _ _
    (λ marks m. signed_marks c.args.forest.now.face c.args.forest.now.forest c.args.signatures.now c.requires.signed
    marks m) h
