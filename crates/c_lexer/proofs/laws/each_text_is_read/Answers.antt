use Rattle.c_lexer.proofs.Unique.{read_somehow}
use Rattle.c_lexer.proofs.laws.each_text_is_read.Goals as goal

pub returns : goal.returns
returns c = λ text. read_somehow text
