use Rattle.std.proofs.Common.{ap, ◌∙◌, length}
use Rattle.c_scopes.specs.inner.Entries.{is_at}
use Rattle.c_scopes.proofs.ScopeLemmas.{taken_as, not_taken}
use Rattle.c_scopes.proofs.scopes.Table.is_taken.Goals as goal

pub returns-in-Some : goal.returns-in-Some
returns-in-Some c =
    c.is_at.ensures
    ∙ ap (λ n. is_at c.get_or.result n) c.len.ensures
    ∙ ap (λ m. is_at m (length c.args.self.now.blocks)) c.get_or.ensures
    ∙ taken_as c.args.self.now c.in-Some.number c.args.name.now c.requires c.known_distinct.ensures c.in-Some.ensures

pub returns-in-None : goal.returns-in-None
returns-in-None c = not_taken c.args.self.now c.args.name.now c.requires c.in-None.ensures
