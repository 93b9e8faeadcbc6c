use Rattle.std.proofs.Common.{◌≡◌, slice_index_or, true, false}
use Rattle.fa_reach.proofs.Known.{gains_none, gains_mark, hop_back}
use Rattle.fa_reach.proofs.spreading.spread_hop.Goals as goal

pub returns-then-not-is_marked : goal.returns-then-not-is_marked
returns-then-not-is_marked c = gains_none c.args._parts.now c.args.known.now

pub returns : goal.returns
returns c =
    let ps = c.args._parts.now in
    let m : slice_index_or c.args.known.now c.args.hop.from false ≡ true =
    cc (c.is_marked.ensures, c.as_slice.ensures, c.if-not-is_marked.false) in
    rw (c.mark.ensures) (gains_mark ps c.args.known.now c.args.hop.to
    (hop_back ps c.args.known.now c.args._part.now c.args.hop c.requires.part c.requires.hop m))
