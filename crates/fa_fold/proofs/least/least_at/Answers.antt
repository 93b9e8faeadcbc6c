use Rattle.fa_fold.proofs.Seeking.{has_output, least_by_end, none_by_end}
use Rattle.fa_fold.proofs.least.least_at.Goals as goal

pub returns-in-None-2 : goal.returns-in-None-2
returns-in-None-2 c =
    let T = c.args.table.now in
    let has = has_output T c.args.box_no c.in-Some.field-0 c.box_def.result.now c.box_def.ensures c.in-Some.is in
    none_by_end T c.args.forest.now.forest c.args.box_no c.args.input has
    (rw c.in-None-2.is at c.in_ok-least_end-in-Some.ensures)

pub returns-in-Some-2 : goal.returns-in-Some-2
returns-in-Some-2 c =
    let T = c.args.table.now in
    let has = has_output T c.args.box_no c.in-Some.field-0 c.box_def.result.now c.box_def.ensures c.in-Some.is in
    least_by_end T c.args.forest.now.forest c.args.box_no c.args.input c.in-Some-2.end has
    (rw c.in-Some-2.is at c.in_ok-least_end-in-Some.ensures)
