use Rattle.std.proofs.Common.{sym, ap, ◌∙◌}
use Rattle.c_scopes.specs.inner.Entries.{what_of}
use Rattle.c_scopes.proofs.ScopeLemmas.{table_finds, table_lacks}
use Rattle.c_scopes.proofs.scopes.Table.find.Goals as goal

pub returns-in-Some-get_or : goal.returns-in-Some-get_or
returns-in-Some-get_or c =
    ap what_of (sym c.in-Some-get_or.is ∙ c.get_or.ensures)
    ∙ table_finds c.args.self.now c.in-Some.number c.args.name.now c.requires c.known_distinct.ensures c.in-Some.ensures

pub returns-in-None-get_or : goal.returns-in-None-get_or
returns-in-None-get_or c =
    ap what_of (sym c.in-None-get_or.is ∙ c.get_or.ensures)
    ∙ table_finds c.args.self.now c.in-Some.number c.args.name.now c.requires c.known_distinct.ensures c.in-Some.ensures

pub returns-in-None : goal.returns-in-None
returns-in-None c = table_lacks c.args.self.now c.args.name.now c.requires c.in-None.ensures
