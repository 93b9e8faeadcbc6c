use Rattle.std.proofs.Common.{◌≡◌, ◌<◌, ◌+◌, length, List, [], ◌∷◌, sym, subst, arith}
use Rattle.fa_sound.specs.Soundness.{SoundForest}
use Rattle.fa_canon.specs.inner.Steps.{HasChosen, IsChosenAt, IsSplitEach}
use Rattle.fa_canon.proofs.SplitSteps.{chosen_start, chosen_step, covers_long}
use Rattle.fa_canon.proofs.Splits.{each_piece, split_same, split_twice, split_weaker}
use Rattle.fa_canon.proofs.choosing.choose_rules.Goals as goal

pub loop-root-init : goal.loop-root-init
loop-root-init c =
    let F = c.args.forest in
    subst (λ (z : List SoundForest). IsSplitEach (HasChosen c.args.from) (F ∷ []) z) (sym c.in_ok-list.ensures)
    (split_same (HasChosen c.args.from) F (chosen_start c.args.from F c.requires))

pub on_each-requires : goal.on_each-requires
on_each-requires c =
    let F = c.args.forest in
    each_piece (HasChosen c.loop-root.root)
    (λ (G : SoundForest). c.loop-root.root < length G.forest.autos) F
    c.loop-root.list c.loop-root.invariant
    (λ G piece h.
    (let l = covers_long F.forest G.forest h.0 in
    let e : c.in_ok-count.count ≡ length F.forest.autos = rw c.forest-2.ensures at c.in_ok-count.ensures.value in
    omega (arith, l, e, c.loop-root-test.true)))

pub loop-root-preserved : goal.loop-root-preserved
loop-root-preserved c =
    split_twice (HasChosen c.loop-root.root) (λ (x y : SoundForest). IsChosenAt c.loop-root.root x.forest y.forest)
    (HasChosen (c.loop-root.root + 1)) (c.args.forest ∷ []) c.loop-root.list c.in_ok-list-2.list
    (λ F G H i p a q b. chosen_step c.loop-root.root F G H a b) c.loop-root.invariant c.in_ok-list-2.ensures

pub returns : goal.returns
returns c =
    let F = c.args.forest in
    let e : c.in_ok-count.count ≡ length F.forest.autos = rw c.forest-2.ensures at c.in_ok-count.ensures.value in
    split_weaker (HasChosen c.loop-root.root) (HasChosen (length c.args.forest.forest.autos)) (c.args.forest ∷ [])
    c.loop-root.list
    (λ F G i p h. (h.0, λ k l. h.1 k (omega (arith, l, e, c.loop-root-test.false)))) c.loop-root.invariant
