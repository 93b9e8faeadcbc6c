use Rattle.fa_part.proofs.BoxFields.{one_port}
use Rattle.fa_part.proofs.ports.input_alone.Goals as goal

pub returns : goal.returns
returns c =
    rw (c.in_ok-push.ensures.ok, c.new-ports.ensures)
    (one_port c.args.def.now c.args.fields.now c.args.input c.in_ok-port_at.field-0 c.requires c.in_ok-port_at.ensures)
