use Rattle.std.proofs.Common.{arith}
use Rattle.fa_boxes.proofs.AllParts.{all_given, apart_given, fields_once, given_rising}
use Rattle.fa_boxes.proofs.ports.fields_of_port.Goals as goal

pub returns-in-None : goal.returns-in-None
returns-in-None c =
    let p = rw (c.as_slice.ensures, c.in-None.is) at c.in_ok-all_fields.ensures in
    apart_given c.args.face.now.boxes c.args.port c.args.autos.now c.requires.full p

pub returns-in_ok-fields-in-Some : goal.returns-in_ok-fields-in-Some
returns-in_ok-fields-in-Some c =
    let bs = c.args.face.now.boxes in
    let r = c.args.port in
    let p = rw (c.as_slice.ensures, c.in-Some.is) at c.in_ok-all_fields.ensures in
    let e = rw c.as_slice-in-Some.ensures at c.in_ok-fields-in-Some.ensures in
    let g = all_given bs r c.args.autos.now c.in-Some.fields p in
    let l = c.requires.port in
    let k = c.requires.ports in
    let d = fields_once c.args.face.now c.args.autos.now _ r c.requires.cells l (omega (arith, l, k))
    c.requires.right in
    rw e (g, given_rising bs r c.args.autos.now c.in-Some.fields c.requires.full g d)
