use Rattle.std.proofs.Common.{◌≡◌, ◌∙◌, ap, sym, subst}
use Rattle.std.proofs.lemmas.Result.{IfOk-weaker}
use Rattle.ta_core.specs.Auto.{Automaton}
use Rattle.fa_core.specs.Filled.{IsSound}
use Rattle.fa_sound.specs.Components.{component_at, with_component}
use Rattle.fa_split.specs.Chosen.{chosen, chosen_at}
use Rattle.fa_split.proofs.ChosenForests.{chosen_sound}
use Rattle.fa_split.proofs.choosing.with_rule.Goals as goal

pub with_component-requires-clause-sound : goal.with_component-requires-clause-sound
with_component-requires-clause-sound c =
    let s = c.args.forest.now in
    let F = s.forest in
    let r = c.args.root in
    let x = c.args.rule.now in
    let q = c.requires in
    let k = c.known.ensures in
    let a = chosen (component_at F.autos r) x in
    let made : c.in_ok-auto.auto ≡ a = rw (c.component.ensures, c.forest.ensures) at c.in_ok-auto.ensures in
    subst (λ (z : Automaton). IsSound s.face (with_component F r z)) (sym made)
    (chosen_sound F r x k.ranked q.root q.rule q.top.0 s.face k.sound q.top.1.0 q.top.1.1)

pub returns-clause-forest : goal.returns-clause-forest
returns-clause-forest c =
    let F = c.args.forest.now.forest in
    let r = c.args.root in
    let a = chosen (component_at F.autos r) c.args.rule.now in
    let made : c.in_ok-auto.auto ≡ a = rw (c.component.ensures, c.forest.ensures) at c.in_ok-auto.ensures in
    IfOk-weaker c.with_component.result (λ s. s.forest ≡ with_component F r c.in_ok-auto.auto)
    (λ s. s.forest ≡ chosen_at F r c.args.rule.now)
    (λ s e. e ∙ ap (with_component F r) made) c.with_component.ensures.forest
