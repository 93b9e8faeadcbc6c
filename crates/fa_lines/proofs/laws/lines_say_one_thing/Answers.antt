use Rattle.fa_lines.proofs.WrittenLines.{said_once}
use Rattle.fa_lines.proofs.laws.lines_say_one_thing.Goals as goal

pub returns : goal.returns
returns c = λ bytes one other p q. said_once bytes one other p q
