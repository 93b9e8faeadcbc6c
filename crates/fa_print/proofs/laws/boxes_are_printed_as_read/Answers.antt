use Rattle.fa_print.proofs.ReturnedLemmas.{printed_as_read}
use Rattle.fa_print.proofs.laws.boxes_are_printed_as_read.Goals as goal

pub returns : goal.returns
returns c = printed_as_read
