use Rattle.std.proofs.Common.{◌≡◌, ◌<◌, sym, subst}
use Rattle.fore_base.proofs.ListLemmas.{every_in}
use Rattle.ta_core.specs.Auto.{Automaton, IsRanked, IsRankedRule}
use Rattle.fa_sound.specs.Components.{component_at}
use Rattle.fa_lift.proofs.lifting.rest_of.Goals as goal

pub hatted-requires : goal.hatted-requires
hatted-requires c =
    let a = component_at c.args.forest.now.forest.autos c.args.from in
    let is : c.component-auto.result.now ≡ a = rw c.forest-2.ensures at c.component-auto.ensures in
    let ranked : IsRanked a = subst (λ (b : Automaton). IsRanked b) is c.known.ensures in
    subst (λ (b : Automaton). c.args.rule.now.state < b.states) (sym is)
    (every_in (IsRankedRule a.states) a.rules c.args.rule.now ranked.1 c.requires.rule).0
