use Rattle.c_lexer.proofs.Unique.{one_reading, same_no_token, same_unclosed, no_token_unclosed}
use Rattle.c_lexer.proofs.laws.refusals_are_unique.Goals as goal

pub returns-clause-token : goal.returns-clause-token
returns-clause-token c = λ text here there p q. same_no_token (one_reading text p.1 q.1).1

pub returns-clause-close : goal.returns-clause-close
returns-clause-close c = λ text here there p q. same_unclosed (one_reading text p.1 q.1).1

pub returns-clause-apart : goal.returns-clause-apart
returns-clause-apart c = λ text here there p q. no_token_unclosed (one_reading text p.1 q.1).1
