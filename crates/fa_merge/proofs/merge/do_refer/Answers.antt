use Rattle.fa_sound.specs.Components.{component_at}
use Rattle.fa_merge.proofs.LoneFound.{refer_or_not}
use Rattle.fa_sound.proofs.ComponentLemmas.{component_got}
use Rattle.fa_merge.proofs.merge.do_refer.Goals as goal

pub returns : goal.returns
returns c =
    let F = c.args.forest.now.forest in
    let signed = c.in_ok-signature.ensures (component_at F.autos c.args.other)
    (component_got F.autos c.args.other c.requires) in
    let e = rw c.as_slice.ensures at c.is_marked_root.ensures in
    refer_or_not c.args.forest.now.face.boxes (component_at F.autos c.args.other) c.in_ok-signature.signature
    c.args.root c.is_marked_root.result signed e
