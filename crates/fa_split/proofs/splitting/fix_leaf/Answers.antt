use Rattle.std.proofs.Common.{◌≡◌, ◌∙◌, ap, sym, subst}
use Rattle.std.proofs.lemmas.Result.{IfOk-weaker}
use Rattle.ta_core.specs.Auto.{Automaton}
use Rattle.fa_core.specs.Filled.{IsSound}
use Rattle.fa_sound.specs.Components.{component_at, with_component}
use Rattle.fa_split.specs.Split.{fixed, split_leaf}
use Rattle.fa_split.proofs.splitting.fix_leaf.Goals as goal

pub with_component-requires-clause-sound : goal.with_component-requires-clause-sound
with_component-requires-clause-sound c =
    let s = c.args.forest.now in
    let r = c.args.root in
    let a = fixed (component_at s.forest.autos r) c.args.place c.args.leaf in
    let made : c.in_ok-auto.auto ≡ a = rw (c.component.ensures, c.forest.ensures) at c.in_ok-auto.ensures in
    subst (λ (z : Automaton). IsSound s.face (with_component s.forest r z)) (sym made) c.requires.sound

pub returns-clause-forest : goal.returns-clause-forest
returns-clause-forest c =
    let F = c.args.forest.now.forest in
    let r = c.args.root in
    let a = fixed (component_at F.autos r) c.args.place c.args.leaf in
    let made : c.in_ok-auto.auto ≡ a = rw (c.component.ensures, c.forest.ensures) at c.in_ok-auto.ensures in
    IfOk-weaker c.with_component.result (λ s. s.forest ≡ with_component F r c.in_ok-auto.auto)
    (λ s. s.forest ≡ split_leaf F r c.args.place c.args.leaf)
    (λ s e. e ∙ ap (with_component F r) made) c.with_component.ensures.forest
