use Rattle.std.proofs.lemmas.Result.{IfOk-weaker}
use Rattle.fore_base.specs.Lists.{Every}
use Rattle.ta_core.specs.Auto.{IsRanked}
use Rattle.fa_sound.specs.Components.{component_at}
use Rattle.fa_split.specs.Split.{AreThose, MayBeLeaf, child_state}
use Rattle.fa_split.specs.inner.Ends.{HasLeafRule}
use Rattle.fa_split.proofs.ChildEnds.{leaves_may}
use Rattle.fa_split.proofs.splitting.leaves_of_child.Goals as goal

pub returns : goal.returns
returns c =
    let F = c.args.forest.now.forest in
    let a = component_at F.autos c.args.root in
    let ranked : Every IsRanked F.autos = c.known.ensures.ranked in
    IfOk-weaker c.leaves_at.result (AreThose (HasLeafRule a.rules (child_state a c.args.place)))
    (AreThose (MayBeLeaf F c.args.root c.args.place))
    (λ ys h. leaves_may F c.args.root c.args.place ranked c.known.ensures.sound.full c.requires ys h)
    (rw (c.rules_of.ensures, c.state_at.ensures, c.component-auto.ensures, c.forest.ensures) at c.leaves_at.ensures)
