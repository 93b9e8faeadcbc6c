use Rattle.fa_written.proofs.WholeLemmas.{texts_alike}
use Rattle.fa_written.proofs.laws.texts_write_one_list.Goals as goal

pub returns : goal.returns
returns c = λ text one other p q. texts_alike c.lines_say_one_thing.ensures text one other p q
