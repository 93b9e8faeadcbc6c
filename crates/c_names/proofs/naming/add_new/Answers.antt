use Rattle.c_names.proofs.NameLemmas.{out_has}
use Rattle.c_names.proofs.naming.add_new.Goals as goal

pub returns-clause-ok : goal.returns-clause-ok
returns-clause-ok c = c.in_ok-_number.ensures.added (out_has c.args.text.now c.args.names.now c.requires)
