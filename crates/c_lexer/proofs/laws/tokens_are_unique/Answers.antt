use Rattle.c_lexer.proofs.Unique.{one_reading}
use Rattle.c_lexer.proofs.laws.tokens_are_unique.Goals as goal

pub returns : goal.returns
returns c = λ text ts us p q. (one_reading text p q).0
