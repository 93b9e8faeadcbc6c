use Rattle.fa_giving.proofs.StructParts.{adds_struct}
use Rattle.fa_giving.proofs.shapes.add_struct.Goals as goal

pub returns-in_ok-add-in-Cell : goal.returns-in_ok-add-in-Cell
returns-in_ok-add-in-Cell c =
    adds_struct c.args.symbol.now c.in-Cell.shape c.in-Cell.datums c.in-Cell.slots c.args.structs.now c.add.new.once
    c.in-Cell.is c.in_ok-add-in-Cell.ensures
