use Rattle.fore_base.specs.Lists.{Every}
use Rattle.ta_core.specs.Auto.{IsRanked}
use Rattle.fa_split.proofs.ChildEnds.{cell_decided}
use Rattle.fa_split.proofs.splitting.may_be_cell.Goals as goal

pub returns : goal.returns
returns c =
    let F = c.args.forest.now.forest in
    let ranked : Every IsRanked F.autos = c.known.ensures.ranked in
    let k = cell_decided F c.args.root c.args.place ranked c.known.ensures.sound.full c.requires in
    let m = rw (c.rules_of.ensures, c.state_at.ensures, c.component-auto.ensures, c.forest.ensures) at
    c.has_cell_at.ensures in
    ((λ t. k.0 (m.0 t)), (λ h. m.1 (k.1 h)))
