use Rattle.std.proofs.Common.{None, sym, subst}
use Rattle.fore_read.specs.Readings.{reading_of}
use Rattle.fore_words.specs.declared.asked.Asked.TheVariants.{Verify}
use Rattle.fore_call.specs.Verdict.{IsRightFor}
use Rattle.fore_call.proofs.JudgeLemmas.{not_verified}
use Rattle.fore_call.proofs.judge.verify_file.Goals as goal

pub returns-in-Err-clause-right : goal.returns-in-Err-clause-right
returns-in-Err-clause-right g c =
    let r = reading_of g.L.Shelf c.args.shelf.now c.read_program.new.shelf in
    subst (IsRightFor r (Verify c.args.path.now None c.args.settings)) (sym c.answer_to.ensures)
    (not_verified r c.args.path.now c.args.settings c.in-Err.fault c.in-Err.ensures.err)
