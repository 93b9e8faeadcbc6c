use Rattle.std.proofs.Common.{sym}
use Rattle.c_defined.proofs.DirectoryLemmas.{look_up_at, look_up_none}
use Rattle.c_defined.proofs.structs.found.Goals as goal

pub returns-in-Some : goal.returns-in-Some
returns-in-Some c =
    let found = look_up_at c.args.name.now c.args.names.now c.args.uses.now _ c.known_distinct.ensures c.in-Some.ensures
    in
    cc

pub returns-in-None : goal.returns-in-None
returns-in-None c = sym (look_up_none c.args.name.now c.args.names.now c.args.uses.now c.in-None.ensures)
