use Rattle.c_lexer.proofs.ReadingLemmas.{read_whole}
use Rattle.c_lexer.proofs.reader.read_pieces.Goals as goal

pub returns-clause-ok : goal.returns-clause-ok
returns-clause-ok c = read_whole c.args.text.now c.pieces.at c.pieces.found c.pieces.invariant.within
    c.pieces-test.false c.pieces.invariant.leads
