use Rattle.std.proofs.Common.{◌≡◌, ◌<◌, ◌∙◌, ap, sym, subst, ℕ}
use Rattle.ta_core.specs.Auto.{Automaton, IsRanked}
use Rattle.fa_sound.specs.Components.{component_at}
use Rattle.fa_split.specs.Split.{child_state}
use Rattle.fa_split.proofs.ChildStates.{child_within}
use Rattle.fa_split.proofs.children.child_of.Goals as goal

pub returns-clause-below : goal.returns-clause-below
returns-clause-below c =
    let F = c.args.forest.now in
    let a = component_at F.autos c.args.root in
    let ranked : IsRanked a = rw c.component-auto.ensures at c.known.ensures in
    let is : c.state_at.result ≡ child_state a c.args.place = c.state_at.ensures
    ∙ ap (λ (z : Automaton). child_state z c.args.place) c.component-auto.ensures in
    subst (λ (n : ℕ). n < a.states) (sym is) (child_within F c.args.root c.args.place c.requires ranked)
