use Rattle.std.proofs.Common.{◌≡◌, ◌<◌, ◌+◌, ℕ, length, List, [], ◌∷◌, sym, subst, arith}
use Rattle.fa_sound.specs.Components.{component_at}
use Rattle.fa_merge.proofs.PlacedForests.{component_has}
use Rattle.fa_sound.specs.Soundness.{SoundForest}
use Rattle.fa_split.specs.Split.{top_rule}
use Rattle.ta_core.specs.Single.{HasOneTop}
use Rattle.fa_canon.specs.inner.Cutting.{HasWidth, IsCutting}
use Rattle.fa_canon.specs.inner.Knots.{CanCut, HasCut, HasCutAt}
use Rattle.fa_canon.specs.inner.Steps.{IsSplitEach}
use Rattle.fa_canon.proofs.CutForests.{root_cutting}
use Rattle.fa_canon.proofs.KnotSteps.{width_is}
use Rattle.fa_canon.proofs.Splits.{each_piece, gives_on, split_same, split_twice, split_weaker}
use Rattle.fa_canon.proofs.cutting.cut_children.Goals as goal

pub component-requires : goal.component-requires
component-requires c =
    let few = c.requires.ready.2.few in
    rw c.forest.ensures (omega (arith, few, c.requires.root))

pub count_children-width-requires : goal.count_children-width-requires
count_children-width-requires c =
    let F = c.args.forest.forest in
    let few = c.requires.ready.2.few in
    rw (c.component.ensures, c.forest.ensures)
    (component_has HasOneTop F.autos c.args.root c.requires.ready.1 (omega (arith, few, c.requires.root)))

pub loop-place-init : goal.loop-place-init
loop-place-init c =
    let F = c.args.forest in
    let n = c.args.count in
    let r = c.args.root in
    let w = c.count_children-width.result in
    let few = c.requires.ready.2.few in
    let less : r < length F.forest.autos = omega (arith, few, c.requires.root) in
    let width : w ≡ length (top_rule (component_at F.forest.autos r)).children =
    rw (c.component.ensures, c.forest.ensures) at c.count_children-width.ensures in
    let wide : HasWidth F.forest r w =
    subst (λ (m : ℕ). HasWidth F.forest r m) (sym width)
    (width_is F.forest r less (component_has HasOneTop F.forest.autos r c.requires.ready.1 less)) in
    subst (λ (z : List SoundForest). IsSplitEach (HasCutAt n r 0 w) (F ∷ []) z) (sym c.in_ok-list.ensures)
    (split_same (HasCutAt n r 0 w) F (c.requires.ready.1, c.requires.ready.2, wide, c.requires.shared))

pub on_each-requires : goal.on_each-requires
on_each-requires c =
    let n = c.args.count in
    let r = c.args.root in
    let p = c.loop-place.place in
    let w = c.count_children-width.result in
    each_piece (HasCutAt n r p w) (CanCut n r p w) c.args.forest c.loop-place.list c.loop-place.invariant
    (λ G piece h. (
      (gives_on c.args.forest G piece c.requires.ready.0, h.0, h.1),
      (h.2, h.3),
      c.requires.root,
      c.loop-place-test.true,
    ))

pub loop-place-preserved : goal.loop-place-preserved
loop-place-preserved c =
    let n = c.args.count in
    let r = c.args.root in
    let p = c.loop-place.place in
    let w = c.count_children-width.result in
    split_twice (HasCutAt n r p w) (HasCutAt n r (p + 1) w) (HasCutAt n r (p + 1) w) (c.args.forest ∷ [])
    c.loop-place.list c.in_ok-list-2.list
    (λ F G H i x a y b. b) c.loop-place.invariant c.in_ok-list-2.ensures

pub returns : goal.returns
returns c =
    let n = c.args.count in
    let r = c.args.root in
    let p = c.loop-place.place in
    let w = c.count_children-width.result in
    let e : p ≡ w = omega (arith, c.loop-place.auto.place-end, c.loop-place-test.false) in
    split_weaker (HasCutAt n r p w) (HasCut n (r + 1) 0) (c.args.forest ∷ []) c.loop-place.list
    (λ F G i x h. (h.0, root_cutting n r w G.forest h.2 (subst (λ (m : ℕ). IsCutting n r m G.forest) e h.1)))
    c.loop-place.invariant
