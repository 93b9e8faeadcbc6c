use Rattle.std.proofs.Common.{[], ◌∷◌, codes, flat_map}
use Rattle.fa_print.specs.Lines.{line}
use Rattle.fa_print.specs.Texts.{forest_text}
use Rattle.fore_explored.specs.Texts.{fold_line}
use Rattle.fore_explored.proofs.NodeLemmas.{three_put}
use Rattle.fore_explored.proofs.states.put_settled.Goals as goal

pub returns : goal.returns
returns c = three_put c.args.text.now c.put_folds.new.text c.put.new.self c.put_forest.new.text
    (flat_map (fold_line c.args.table.now) c.args.folds.now) (line (codes "middle" ∷ []))
    (forest_text c.args.table.now c.args.program.now c.args.middle.now.forest) c.in_ok-put_folds.ensures
    c.in_ok-put.ensures.ok c.in_ok-put_forest.ensures
