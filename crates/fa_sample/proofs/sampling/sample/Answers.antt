use Rattle.std.proofs.Common.{sym}
use Rattle.fa_sample.proofs.Sampled.{sampled}
use Rattle.fa_sample.proofs.sampling.sample.Goals as goal

pub returns : goal.returns
returns c =
    let k = rw (c.as_slice.ensures, c.forest.ensures) at c.in_ok-trees.ensures.choice in
    let r = rw (c.as_slice.ensures, c.forest.ensures) at c.in_ok-trees.ensures.ranked in
    let s = rw (c.as_slice-2.ensures, c.as_slice-3.ensures, c.len-depth.ensures, c.forest-2.ensures)
    at c.in_ok-store.ensures in
    let f = c.requires.face in
    let d = rw (sym f) at c.known.ensures.sound in
    rw (s, sym f)
    (sampled c.args.table.now c.known-2.ensures c.ranked_insides.ensures c.args.forest.now.forest d r
    c.in_ok-boxes.boxes c.in_ok-boxes.ensures c.in_ok-trees.trees k)
