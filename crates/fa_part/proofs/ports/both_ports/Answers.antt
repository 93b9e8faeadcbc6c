use Rattle.fa_part.proofs.BoxFields.{two_ports}
use Rattle.fa_part.proofs.ports.both_ports.Goals as goal

pub returns : goal.returns
returns c =
    rw (c.in_ok-push-2.ensures.ok, c.in_ok-push.ensures.ok, c.new-ports.ensures)
    (two_ports c.args.def.now c.args.fields.now c.args.input c.args.output c.args.shape c.in_ok-port_at.field-0
    c.in_ok-port_at-2.field-0 c.requires c.in_ok-port_at.ensures c.in_ok-port_at-2.ensures)
