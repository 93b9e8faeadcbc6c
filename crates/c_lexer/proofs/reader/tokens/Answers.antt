use Rattle.c_lexer.proofs.ReadingLemmas.{only_tokens, only_no_token, only_unclosed}
use Rattle.c_lexer.proofs.reader.tokens.Goals as goal

pub returns-clause-read : goal.returns-clause-read
returns-clause-read c = only_tokens c.args.text.now c.read_pieces.result c.read_pieces.ensures.ok
    c.read_pieces.ensures.err

pub returns-clause-no_token : goal.returns-clause-no_token
returns-clause-no_token c =
    only_no_token c.args.text.now c.read_pieces.result c.read_pieces.ensures.ok c.read_pieces.ensures.err

pub returns-clause-unclosed : goal.returns-clause-unclosed
returns-clause-unclosed c =
    only_unclosed c.args.text.now c.read_pieces.result c.read_pieces.ensures.ok c.read_pieces.ensures.err
