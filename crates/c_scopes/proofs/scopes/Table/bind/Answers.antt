use Rattle.std.proofs.Common.{◌∙◌, ap, sym, length}
use Rattle.c_scopes.specs.inner.Entries.{is_shut}
use Rattle.c_scopes.proofs.ScopeLemmas.{shut_same, open_pushes}
use Rattle.c_scopes.proofs.scopes.Table.bind.Goals as goal

pub returns-then-is_shut-clause-ok : goal.returns-then-is_shut-clause-ok
returns-then-is_shut-clause-ok c =
    shut_same c.args.self.now c.args.name c.args.what c.requires.kept c.requires.distinct c.requires.within
    (sym (ap (λ n. is_shut c.get_or-under.result n) c.len.ensures
    ∙ ap (λ m. is_shut m (length c.args.self.now.blocks)) c.get_or-under.ensures) ∙ sym c.is_shut.ensures
    ∙ c.if-is_shut.true)

pub returns-clause-ok : goal.returns-clause-ok
returns-clause-ok c = c.in_ok-push.ensures.ok
    ∙ open_pushes c.args.self.now c.args.name c.args.what c.requires.kept c.requires.distinct c.requires.within
    (sym (ap (λ n. is_shut c.get_or-under.result n) c.len.ensures
    ∙ ap (λ m. is_shut m (length c.args.self.now.blocks)) c.get_or-under.ensures) ∙ sym c.is_shut.ensures
    ∙ c.if-is_shut.false)
