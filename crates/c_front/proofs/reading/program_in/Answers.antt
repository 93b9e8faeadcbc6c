use Rattle.c_front.proofs.FileLaws.{reads_all, finds_all}
use Rattle.c_front.proofs.reading.program_in.Goals as goal

pub returns-clause-reads : goal.returns-clause-reads
returns-clause-reads c = reads_all c.args.bytes.now c.answer.result c.answer.ensures.ok c.answer.ensures.err

pub returns-clause-finds : goal.returns-clause-finds
returns-clause-finds c = finds_all c.args.bytes.now c.answer.result c.answer.ensures.ok c.answer.ensures.err
