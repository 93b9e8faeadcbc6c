use Rattle.std.proofs.Common.{sym}
use Rattle.c_names.proofs.NameLemmas.{has_in, has_out}
use Rattle.fore_base.proofs.NameLemmas.{in_at}
use Rattle.c_names.proofs.naming.is_there.Goals as goal

pub returns-in-Some : goal.returns-in-Some
returns-in-Some c =
    sym (has_in c.args.text.now c.args.names.now (in_at c.args.names.now _ c.args.text.now c.in-Some.ensures))

pub returns-in-None : goal.returns-in-None
returns-in-None c = sym (has_out c.args.text.now c.args.names.now c.in-None.ensures)
