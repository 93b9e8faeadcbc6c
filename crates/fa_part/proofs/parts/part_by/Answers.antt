use Rattle.std.proofs.Common.{length}
use Rattle.fa_part.proofs.BoxFields.{ports_made, roots_there}
use Rattle.fa_part.proofs.parts.part_by.Goals as goal

pub part_at-requires : goal.part_at-requires
part_at-requires c =
    rw c.as_slice.ensures
    (roots_there c.args.def.now c.args.fields.now c.args.input c.args.output c.in_ok-ports.ports
    (length c.args.forest.now.forest.autos) c.in_ok-ports.ensures c.requires.input c.requires.output)

pub returns : goal.returns
returns c = λ bs h.
    c.part_at.ensures bs c.args.input c.args.output
    (rw c.as_slice.ensures
    (ports_made bs c.args.def.now c.args.fields.now c.args.input c.args.output c.in_ok-ports.ports c.requires.fits h
    c.in_ok-ports.ensures))
