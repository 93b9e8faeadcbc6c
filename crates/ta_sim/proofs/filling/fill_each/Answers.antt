use Rattle.std.proofs.lemmas.Result.{on_ok_weaker}
use Rattle.ta_sim.proofs.Rounds.{kept_square, rows_filled}
use Rattle.ta_sim.proofs.filling.fill_each.Goals as goal

pub returns-clause-square : goal.returns-clause-square
returns-clause-square g c =
    let kept = c.fill_rows.ensures.kept in
    kept_square c.args.size c.args.rows.now c.fill_rows.new.rows c.requires.square kept.0 (λ k l. (kept.1 k l).0)

pub returns-clause-filled : goal.returns-clause-filled
returns-clause-filled g c =
    let kept = c.fill_rows.ensures.kept in
    on_ok_weaker c.fill_rows.result
    (λ f. rows_filled c.args.size (g.P.Pairs.relates c.args.pairs.now) c.fill_rows.new.rows
    (kept_square c.args.size c.args.rows.now c.fill_rows.new.rows c.requires.square kept.0 (λ k l. (kept.1 k l).0)).0
    f) c.fill_rows.ensures.filled
