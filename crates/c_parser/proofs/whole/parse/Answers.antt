use Rattle.c_parser.proofs.ParseLemmas.{reads_all, finds_all}
use Rattle.c_parser.proofs.whole.parse.Goals as goal

pub returns-clause-reads : goal.returns-clause-reads
returns-clause-reads c = reads_all c.args.tokens.now c.args.end c.answer.result c.answer.ensures.ok c.answer.ensures.err

pub returns-clause-finds : goal.returns-clause-finds
returns-clause-finds c = finds_all c.args.tokens.now c.args.end c.answer.result c.answer.ensures.ok c.answer.ensures.err
