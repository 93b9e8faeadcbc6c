use Rattle.std.proofs.Common.{◌≡◌, ◌+◌, ℕ, length, [], ◌∷◌, sym, subst}
use Rattle.std.proofs.lemmas.Result.{IfOk-weaker}
use Rattle.fore_base.specs.Lists.{Every}
use Rattle.ta_core.specs.Auto.{IsRanked}
use Rattle.fa_sound.specs.Soundness.{SoundForest}
use Rattle.fa_canon.specs.inner.Knots.{HasCutAt, IsSplitAt}
use Rattle.fa_canon.specs.inner.Steps.{HasChosen, HaveTops, IsSplitEach}
use Rattle.fa_canon.proofs.KnotSteps.{can_split, edges_give, knot_cut}
use Rattle.fa_canon.proofs.SplitSteps.{split_step}
use Rattle.fa_canon.proofs.Splits.{each_piece, only_one, split_twice}
use Rattle.fa_canon.proofs.cutting.cut_knot.Goals as goal

pub split_child-requires-clause-can : goal.split_child-requires-clause-can
split_child-requires-clause-can c =
    let s = c.args.step.now in
    can_split s.count s.root s.place s.width c.args.forest.now c.known.ensures.sound c.requires.can

pub split_child-requires-clause-gives : goal.split_child-requires-clause-gives
split_child-requires-clause-gives c =
    (let F = c.args.forest.now in edges_give F.face F.forest c.requires.can.0.0)

pub on_each-requires : goal.on_each-requires
on_each-requires c =
    let s = c.args.step.now in
    let F = c.args.forest.now in
    let e = c.in_ok-list.ensures in
    let from : c.in_ok-from.from ≡ length F.forest.autos = rw c.forest.ensures at c.in_ok-from.ensures.value in
    let split = split_step s.root s.place F c.in_ok-list.list c.requires.can.0.1 e.value
    e.plain e.face e.vars e.tops e.regroups e.whole in
    each_piece (IsSplitAt s.root s.place)
    (λ (G : SoundForest). HaveTops c.in_ok-from.from G.forest) F c.in_ok-list.list
    split
    (λ G piece h. subst (λ (n : ℕ). HaveTops n G.forest) (sym from) h.1)

pub returns : goal.returns
returns c =
    let s = c.args.step.now in
    let F = c.args.forest.now in
    let e = c.in_ok-list.ensures in
    let list = c.in_ok-list.list in
    let ranked : Every IsRanked F.forest.autos = c.known.ensures.ranked in
    let split = split_step s.root s.place F list c.requires.can.0.1 e.value e.plain e.face e.vars
    e.tops e.regroups e.whole in
    IfOk-weaker c.on_each.result
    (λ made. IsSplitEach (λ (x : SoundForest). HasChosen (length x.forest.autos) x) list made)
    (λ made. IsSplitEach (HasCutAt s.count s.root (s.place + 1) s.width) (F ∷ []) made)
    (λ made h. split_twice (IsSplitAt s.root s.place) (λ (x : SoundForest). HasChosen (length x.forest.autos) x)
    (HasCutAt s.count s.root (s.place + 1) s.width) (F ∷ []) list made
    (λ x G H i p a q b. knot_cut s.count s.root s.place s.width F c.known.ensures.sound c.requires.can ranked
    c.requires.tied G H (subst (λ (z : SoundForest). IsSplitAt s.root s.place z G) (only_one x F i) a) b)
    split h)
    c.on_each.ensures
