use Rattle.fa_cover.proofs.FirstOnes.{if_first}
use Rattle.fa_cover.proofs.covering.first_cover.Goals as goal

pub returns : goal.returns
returns g c =
    if_first c.args.nodes.now c.args.forest.now.forest c.first_index.result c.first_index.ensures
