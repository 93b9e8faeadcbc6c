use Rattle.std.proofs.Common.{sym}
use Rattle.c_names.proofs.NameLemmas.{number_at, number_none}
use Rattle.c_names.proofs.naming.find.Goals as goal

pub returns-in-Some : goal.returns-in-Some
returns-in-Some c = sym (number_at c.args.text.now c.args.names.now _ c.known_distinct.ensures c.in-Some.ensures)

pub returns-in-None : goal.returns-in-None
returns-in-None c = sym (number_none c.args.text.now c.args.names.now c.in-None.ensures)
