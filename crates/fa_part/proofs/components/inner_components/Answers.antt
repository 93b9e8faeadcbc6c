use Rattle.std.proofs.Common.{◌≡◌, ◌<◌, ℕ, Some, get_or, length, slice_get}
use Rattle.std.proofs.lemmas.List.{take_more}
use Rattle.fore_base.proofs.ListLemmas.{every_get, paired_push}
use Rattle.ta_core.specs.Auto.{Automaton}
use Rattle.fa_core.specs.Folding.{IsLanguageOf, moved_tree, position}
use Rattle.fa_sound.specs.Components.{component_at}
use Rattle.fa_sound.proofs.ComponentLemmas.{component_got}
use Rattle.fa_part.proofs.components.inner_components.Goals as goal

pub loop-root-preserved : goal.loop-root-preserved
loop-root-preserved c =
    let autos = c.args.forest.now.autos in
    let f = position c.args.order.now in
    let inner = c.args.inner.now in
    let i = c.loop-root.root-index in
    let l = every_get (λ (k : ℕ). k < length autos) inner i 0 c.requires.inner c.loop-root-test.true in
    rw (take_more inner i 0 c.loop-root-test.true, c.in_ok-push.ensures.ok)
    (paired_push (λ (r : ℕ) (b : Automaton). (a : Automaton) × (slice_get autos r ≡ Some a)
    × IsLanguageOf (moved_tree f) a b) _ _ _ _ c.loop-root.invariant (
      component_at autos (get_or inner i 0),
      component_got autos (get_or inner i 0) l,
      rw c.component.ensures at c.in_ok-inner_component.ensures,
    ))
