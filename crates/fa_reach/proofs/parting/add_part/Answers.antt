use Rattle.fa_reach.proofs.Signed.{part_there, part_added}
use Rattle.fa_reach.proofs.parting.add_part.Goals as goal

pub returns-then-has_hops : goal.returns-then-has_hops
returns-then-has_hops c =
    let h = rw (c.as_slice.ensures, c.as_slice-2.ensures, c.in_ok-hops.ensures) at
    c.has_hops.ensures c.if-has_hops.true in
    part_there c.args.place c.args.all.now c.args.one.now c.args.parts.now h

pub returns : goal.returns
returns c =
    let d = rw (c.as_slice-3.ensures) at c.in_ok-downs.ensures in
    rw (c.in_ok-push.ensures.ok)
    (part_added c.args.place c.args.all.now c.args.one.now c.args.parts.now
    (record { hops = c.in_ok-hops.hops; downs = c.in_ok-downs.downs }) c.requires c.in_ok-hops.ensures d)
