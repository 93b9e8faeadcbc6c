use Rattle.c_lexer.proofs.Unique.{one_reading, whole_no_token, whole_unclosed}
use Rattle.c_lexer.proofs.laws.tokens_exclude_refusals.Goals as goal

pub returns-clause-token : goal.returns-clause-token
returns-clause-token c = λ text ts place p q. whole_no_token (one_reading text p q.1).1

pub returns-clause-close : goal.returns-clause-close
returns-clause-close c = λ text ts place p q. whole_unclosed (one_reading text p q.1).1
