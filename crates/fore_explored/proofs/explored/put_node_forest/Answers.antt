use Rattle.std.proofs.Common.{◌++◌, ap, ◌∙◌}
use Rattle.fa_print.specs.Texts.{forest_text}
use Rattle.fix_core.proofs.Lists.{at_within}
use Rattle.fore_explored.proofs.NodeLemmas.{forest_printed}
use Rattle.fore_explored.proofs.explored.put_node_forest.Goals as goal

pub put_forest-requires : goal.put_forest-requires
put_forest-requires c =
    let n = at_within c.args.nodes.now c.args.number c.requires.number in
    let same = c.in_ok-forest.ensures n.0 n.1 in
    forest_printed c.args.table.now c.args.program.now n.0.state c.in_ok-forest.forest (c.requires.state n.0 n.1) same.0
    same.1

pub returns : goal.returns
returns c = λ n is. c.in_ok-put_forest.ensures
    ∙ ap (λ F. c.args.text.now ++ forest_text c.args.table.now c.args.program.now F) (c.in_ok-forest.ensures n is).0
