use Rattle.fa_print.proofs.ReadLemmas.{read_as_printed}
use Rattle.fa_print.proofs.laws.lines_are_read_as_printed.Goals as goal

pub returns : goal.returns
returns c = read_as_printed
