use Rattle.std.proofs.Common.{◌≡◌, ◌∙◌, ap, sym, subst}
use Rattle.std.proofs.lemmas.Result.{IfOk-weaker}
use Rattle.ta_core.specs.Auto.{Automaton}
use Rattle.fa_core.specs.Filled.{IsSound}
use Rattle.fa_sound.specs.Components.{component_at, with_component}
use Rattle.fa_edit.specs.inner.Edited.{dated, dated_at}
use Rattle.fa_edit.proofs.DatumSound.{datum_sound}
use Rattle.fa_edit.proofs.data.sound_dated.Goals as goal

pub with_component-requires-clause-sound : goal.with_component-requires-clause-sound
with_component-requires-clause-sound c =
    let s = c.args.forest.now in
    let F = s.forest in
    let r = c.args.root in
    let f = c.args.field in
    let x = c.args.datum in
    let q = c.requires in
    let k = c.known.ensures in
    let a = dated (component_at F.autos r) f x in
    let made : c.in_ok-auto.auto ≡ a = rw (c.component.ensures, c.forest.ensures) at c.in_ok-auto.ensures in
    subst (λ (z : Automaton). IsSound s.face (with_component F r z)) (sym made)
    (datum_sound s.face F r f x k.ranked q.root q.top q.fits k.sound)

pub returns-clause-forest : goal.returns-clause-forest
returns-clause-forest c =
    let F = c.args.forest.now.forest in
    let r = c.args.root in
    let a = dated (component_at F.autos r) c.args.field c.args.datum in
    let made : c.in_ok-auto.auto ≡ a = rw (c.component.ensures, c.forest.ensures) at c.in_ok-auto.ensures in
    IfOk-weaker c.with_component.result (λ s. s.forest ≡ with_component F r c.in_ok-auto.auto)
    (λ s. s.forest ≡ dated_at F r c.args.field c.args.datum)
    (λ s e. e ∙ ap (with_component F r) made) c.with_component.ensures.forest
