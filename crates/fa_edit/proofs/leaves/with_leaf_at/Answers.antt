use Rattle.fa_edit.proofs.LeafSound.{put_sound}
use Rattle.fa_edit.proofs.PlainFields.{can}
use Rattle.fa_edit.proofs.leaves.with_leaf_at.Goals as goal

pub fix_leaf-requires-clause-can : goal.fix_leaf-requires-clause-can
fix_leaf-requires-clause-can c =
    let r = c.requires in
    can c.args.forest.now.face.shapes.structs c.args.forest.now.forest c.args.root c.args.field c.known.ensures.ranked
    r.at c.args.place r.place

pub fix_leaf-requires-clause-sound : goal.fix_leaf-requires-clause-sound
fix_leaf-requires-clause-sound c =
    let s = c.args.forest.now in
    let r = c.requires in
    let k = c.known.ensures in
    put_sound s.face s.forest c.args.root c.args.field k.ranked k.sound r.at c.args.place r.place c.args.leaf r.fits
    r.gives
