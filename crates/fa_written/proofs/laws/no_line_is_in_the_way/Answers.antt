use Rattle.fa_written.proofs.WholeLemmas.{text_not_bad}
use Rattle.fa_written.proofs.laws.no_line_is_in_the_way.Goals as goal

pub returns : goal.returns
returns c = λ text boxes line p q. text_not_bad c.lines_say_one_thing.ensures text boxes line p q
