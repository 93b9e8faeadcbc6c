use Rattle.std.proofs.Common.{◌≡◌, length, sym, ap, subst, ◌∙◌}
use Rattle.std.proofs.lemmas.Result.{on_ok_weaker}
use Rattle.ta_sim.proofs.Rounds.{lent}
use Rattle.ta_sim.specs.Relations.{AreSquare, AreRowsOf}
use Rattle.ta_sim.proofs.filling.fill_table.Goals as goal

pub returns-clause-square : goal.returns-clause-square
returns-clause-square g c =
    let rows = c.fill_each.new.rows in
    let square = c.fill_each.ensures.square in
    let long : length rows ≡ c.args.table.now.len =
    square.0 ∙ sym c.requires.square.0 ∙ sym (ap length c.as_mut_slice.ensures.value) ∙ c.as_mut_slice.ensures.len in
    subst (AreSquare c.args.size) (sym (lent c.args.table.now.len rows _ long)) square

pub returns-clause-filled : goal.returns-clause-filled
returns-clause-filled g c =
    let rows = c.fill_each.new.rows in
    let square = c.fill_each.ensures.square in
    let long : length rows ≡ c.args.table.now.len =
    square.0 ∙ sym c.requires.square.0 ∙ sym (ap length c.as_mut_slice.ensures.value) ∙ c.as_mut_slice.ensures.len in
    on_ok_weaker c.fill_each.result
    (λ made. subst (AreRowsOf c.args.size (g.P.Pairs.relates c.args.pairs.now))
    (sym (lent c.args.table.now.len rows _ long)) made) c.fill_each.ensures.filled
