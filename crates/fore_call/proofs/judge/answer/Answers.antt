use Rattle.fore_call.specs.Calls.{request_of}
use Rattle.fore_call.proofs.JudgeLemmas.{right_for_words, reads_for_words}
use Rattle.fore_call.proofs.judge.answer.Goals as goal

pub returns-in-Ok-clause-right : goal.returns-in-Ok-clause-right
returns-in-Ok-clause-right g c =
    right_for_words (request_of g.L.Shelf c.args.words.now c.args.shelf.now c.answer_asked.new.shelf) c.in-Ok.asked
    c.in-Ok.ensures.ok c.answer_asked.result c.answer_asked.ensures.right

pub returns-in-Ok-clause-reads_only : goal.returns-in-Ok-clause-reads_only
returns-in-Ok-clause-reads_only g c =
    reads_for_words (request_of g.L.Shelf c.args.words.now c.args.shelf.now c.answer_asked.new.shelf) c.in-Ok.asked
    c.in-Ok.ensures.ok c.answer_asked.ensures.reads
