use Rattle.fa_part.proofs.PartRoots.{inner_below}
use Rattle.fa_part.proofs.parts.part_autos.Goals as goal

pub inner_components-requires-clause-inner : goal.inner_components-requires-clause-inner
inner_components-requires-clause-inner c =
    rw (c.as_slice-2.ensures, c.forest-2.ensures)
    (inner_below c.args.forest.now.face c.args.forest.now.forest c.known.ensures.sound c.args.ports.now
    c.args.inner.now c.requires.ports c.requires.inner)

pub returns : goal.returns
returns c =
    let at_ports = rw (c.as_slice.ensures, c.in_ok-order.ensures.order, c.forest.ensures)
    at c.in_ok-autos.ensures in
    let at_inner = rw (c.as_slice-3.ensures, c.as_slice-2.ensures, c.in_ok-order.ensures.order, c.forest-2.ensures)
    at c.in_ok-more.ensures in
    record {
      port_autos = c.in_ok-autos.autos;
      inner_autos = c.in_ok-more.more;
      are = c.in_ok-append.ensures.ok;
      at_ports = at_ports;
      at_inner = at_inner;
    }
