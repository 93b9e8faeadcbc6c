use Rattle.std.proofs.Common.{sym, subst}
use Rattle.fore_read.specs.Readings.{reading_of}
use Rattle.fore_words.specs.declared.asked.Asked.TheVariants.{Run}
use Rattle.fore_call.specs.Verdict.{IsRightFor}
use Rattle.fore_call.proofs.JudgeLemmas.{not_run}
use Rattle.fore_call.proofs.judge.run_file.Goals as goal

pub returns-in-Err-clause-right : goal.returns-in-Err-clause-right
returns-in-Err-clause-right g c =
    let r = reading_of g.L.Shelf c.args.shelf.now c.read_program.new.shelf in
    subst (IsRightFor r (Run c.args.path.now c.args.choices.now c.args.steps c.args.malloc)) (sym c.answer_to.ensures)
    (not_run r c.args.path.now c.args.choices.now c.args.steps c.args.malloc c.in-Err.fault c.in-Err.ensures.err)
