use Rattle.fa_split.proofs.SplitLeaves.{leaf_sound}
use Rattle.fa_split.proofs.splitting.with_leaf.Goals as goal

pub fix_leaf-requires-clause-sound : goal.fix_leaf-requires-clause-sound
fix_leaf-requires-clause-sound c =
    let s = c.args.forest.now in
    let r = c.requires in
    let k = c.known.ensures in
    leaf_sound s.forest c.args.root c.args.place k.ranked r.can c.args.leaf r.may s.face k.sound
