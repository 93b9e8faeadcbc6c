use Rattle.std.proofs.Common.{◌≡◌, List, slice_set, subst, sym}
use Rattle.fore_base.specs.Lists.{Paired}
use Rattle.fa_core.specs.declared.signature.Signature.{Signature}
use Rattle.fa_sound.specs.Signatures.{AreSignatures}
use Rattle.fa_sound.proofs.ComponentLemmas.{set_paired}
use Rattle.fa_sound.proofs.sound.signatures_with.Goals as goal

pub returns : goal.returns
returns c = λ autos h.
    let R = AreSignatures c.args.boxes.now in
    let a = c.args.auto.now in
    let r = c.args.root in
    let own = c.in_ok-own.own in
    let made : c.set.new.self ≡ slice_set c.args.old.now r own = rw c.in_ok-all.ensures at c.set.ensures in
    subst (λ (all : List (List Signature)). Paired R (slice_set autos r a) all) (sym made)
    (set_paired R autos c.args.old.now r a own h c.in_ok-own.ensures)
