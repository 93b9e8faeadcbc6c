use Rattle.std.proofs.Common.{◌≡◌, false, get_or, ap, sym, ◌∙◌, Bool, List}
use Rattle.fore_search.proofs.Searches.{visits_new}
use Rattle.fore_search.proofs.searching.visit_one.Goals as goal

pub returns-in_ok-push : goal.returns-in_ok-push
returns-in_ok-push c =
    let none : get_or c.args.marks.now c.args.number false ≡ false =
    ap (λ (m : List Bool). get_or m c.args.number false) (sym c.as_slice.ensures)
    ∙ sym c.is_marked.ensures ∙ c.if-not-is_marked.true in
    rw (c.mark.ensures, c.in_ok-push.ensures.ok)
    (visits_new c.args.marks.now c.args.todo.now c.args.number c.requires none)
