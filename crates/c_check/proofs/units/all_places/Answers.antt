use Rattle.std.proofs.Common.{ap, ◌∙◌}
use Rattle.c_typing.specs.Scopes.{empty_scope}
use Rattle.c_typing.specs.Sites.{Ends, Overflows}
use Rattle.c_check.specs.inner.Items.{any_main, kept_items_sites, nothing_kept}
use Rattle.c_expressions.specs.Meeting.{met, noted}
use Rattle.c_check.proofs.KeptLemmas.{whole_met}
use Rattle.c_check.proofs.units.all_places.Goals as goal

pub returns : goal.returns
returns c =
    let g = c.args.tables.now in
    let u = c.args.unit.now in
    let main = c.in_ok-main.main in
    c.overflows.ensures
    ∙ ap (λ o. noted g o (Overflows u.over)) c.ends.ensures
    ∙ ap (λ o. noted g (noted g o (Ends main u.end)) (Overflows u.over))
    (c.in_ok-main.ensures.found
    ∙ ap (λ is. met g c.args.found.now (kept_items_sites g nothing_kept is empty_scope)) c.as_slice.ensures)
    ∙ whole_met g c.args.found.now u main (c.in_ok-main.ensures.main ∙ ap any_main c.as_slice.ensures)
