use Rattle.fa_written.proofs.WholeLemmas.{one_first}
use Rattle.fa_written.proofs.laws.one_line_is_first.Goals as goal

pub returns : goal.returns
returns c = λ text one other p q. one_first c.lines_say_one_thing.ensures text one other p q
