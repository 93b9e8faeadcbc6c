use Rattle.std.proofs.Common.{Some, sym, subst}
use Rattle.fore_read.specs.Readings.{shelf_view, reading_of}
use Rattle.fore_words.specs.declared.asked.Asked.TheVariants.{Verify}
use Rattle.fore_call.specs.Verdict.{IsRightFor}
use Rattle.fore_call.proofs.JudgeLemmas.{not_with_boxes, right_for_both, reads_both}
use Rattle.fore_call.proofs.judge.verify_by_boxes.Goals as goal

pub returns-in-Ok-clause-right : goal.returns-in-Ok-clause-right
returns-in-Ok-clause-right g c =
    right_for_both (shelf_view g.L.Shelf c.args.shelf.now) (shelf_view g.L.Shelf c.read_program.new.shelf)
    (shelf_view g.L.Shelf c.answer_boxes.new.shelf) c.args.file.now c.in-Ok.program c.in-Ok.ensures.ok
    c.read_program.ensures.reads c.args.boxes.now c.args.settings c.answer_boxes.result c.answer_boxes.ensures.right

pub returns-in-Ok-clause-reads : goal.returns-in-Ok-clause-reads
returns-in-Ok-clause-reads g c =
    reads_both (shelf_view g.L.Shelf c.args.shelf.now) (shelf_view g.L.Shelf c.read_program.new.shelf)
    (shelf_view g.L.Shelf c.answer_boxes.new.shelf) c.args.file.now c.in-Ok.program c.in-Ok.ensures.ok
    c.read_program.ensures.reads c.args.boxes.now c.args.settings c.answer_boxes.ensures.reads

pub returns-in-Err-clause-right : goal.returns-in-Err-clause-right
returns-in-Err-clause-right g c =
    let r = reading_of g.L.Shelf c.args.shelf.now c.read_program.new.shelf in
    subst (IsRightFor r (Verify c.args.file.now (Some c.args.boxes.now) c.args.settings)) (sym c.answer_to.ensures)
    (not_with_boxes r c.args.file.now c.args.boxes.now c.args.settings c.in-Err.fault c.in-Err.ensures.err)
