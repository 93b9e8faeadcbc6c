use Rattle.std.proofs.Common.{◌<◌, length, arith}
use Rattle.std.specs.Vec.{vec_capacity}
use Rattle.c_heap.proofs.Marked.{counted_more, fresh_room}
use Rattle.c_heap.proofs.leak.add.Goals as goal

pub unreachable-requires : goal.unreachable-requires
unreachable-requires c =
    let m = c.args.marks.now in
    let room : length m.order.items < vec_capacity m.order =
    fresh_room m.order.items m.reached.items c.args.at (vec_capacity m.order) c.requires.counted
    c.requires.fresh in
    omega (arith, room, m.order.ok, c.in-Err.ensures.full)

pub returns-clause-counted : goal.returns-clause-counted
returns-clause-counted c =
    let m = c.args.marks.now in
    rw c.in-Ok.ensures.items
    (counted_more m.order.items m.reached.items c.args.at (vec_capacity m.order) (vec_capacity c.push.new.self)
    c.requires.counted c.in-Ok.ensures.capacity c.requires.fresh)
