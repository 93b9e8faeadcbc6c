use Rattle.std.proofs.Common.{ℕ, Some, ap, ◌∙◌}
use Rattle.std.specs.Prelude.{slice_set}
use Rattle.c_scopes.specs.ScopeTables.{turned}
use Rattle.c_scopes.specs.inner.Entries.{with_entry}
use Rattle.c_scopes.proofs.ScopeLemmas.{pushed_kept}
use Rattle.c_scopes.proofs.scopes.Table.push.Goals as goal

pub returns-clause-kept : goal.returns-clause-kept
returns-clause-kept c =
    let t = c.args.self.now in
    pushed_kept t c.args.name c.args.what c.args.under c.put.new.blocks c.set_within.new.self c.requires.kept
    c.requires.within c.requires.under c.requires.open
    (c.in_ok-put.ensures.ok ∙ ap
    (λ (n : ℕ).
    with_entry
    (record { name = c.args.name; meant = record { what = c.args.what; block = n }; under = c.args.under })
    (turned t.blocks)) c.len.ensures)
    (c.set_within.ensures ∙ ap
    (λ (n : ℕ). slice_set t.meant c.args.name (Some (record { what = c.args.what; block = n }))) c.len.ensures)
