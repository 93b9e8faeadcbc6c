use Rattle.std.proofs.Common.{◌≡◌, ℕ, List}
use Rattle.std.proofs.lemmas.Result.{IfOk-weaker}
use Rattle.ta_core.specs.declared.auto.Rule.{Rule}
use Rattle.fa_core.specs.declared.forest.Target.TheVariants.{At}
use Rattle.fa_sound.specs.Components.{component_at}
use Rattle.fa_unfold.specs.Unfolding.{AreTops}
use Rattle.fa_unfold.proofs.MadeUnfoldings.{end_tops}
use Rattle.fa_unfold.proofs.replacing.tops_of.Goals as goal

pub component-requires : goal.component-requires
component-requires c = c.requires c.in-At.number c.in-At.is

pub returns-in-At : goal.returns-in-At
returns-in-At c =
    let F = c.args.forest.now in
    IfOk-weaker c.tops.result (AreTops (component_at F.autos c.in-At.number))
    (λ (rs : List Rule). (j : ℕ) → c.args.end ≡ At j → AreTops (component_at F.autos j) rs)
    (end_tops F c.args.end c.in-At.number c.in-At.is) (rw c.component.ensures at c.tops.ensures)
