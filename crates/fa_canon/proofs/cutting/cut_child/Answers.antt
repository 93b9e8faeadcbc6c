use Rattle.std.proofs.Common.{◌≡◌, ◌+◌, List, [], ◌∷◌, sym, subst}
use Rattle.std.proofs.lemmas.Result.{IfOk-weaker}
use Rattle.fore_base.specs.Lists.{Every}
use Rattle.ta_core.specs.Auto.{IsRanked}
use Rattle.fa_sound.specs.Soundness.{SoundForest}
use Rattle.fa_canon.specs.inner.Knots.{HasCutAt}
use Rattle.fa_canon.specs.inner.Steps.{IsSplitEach}
use Rattle.fa_canon.proofs.KnotSteps.{can_split, loose_child}
use Rattle.fa_canon.proofs.Splits.{split_same}
use Rattle.fa_canon.proofs.cutting.cut_child.Goals as goal

pub is_tied-requires : goal.is_tied-requires
is_tied-requires c =
    let s = c.args.step.now in
    can_split s.count s.root s.place s.width c.args.forest c.known.ensures.sound c.requires

pub returns-else-is_tied : goal.returns-else-is_tied
returns-else-is_tied c =
    let s = c.args.step.now in
    let F = c.args.forest in
    let ranked : Every IsRanked F.forest.autos = c.known.ensures.ranked in
    IfOk-weaker c.alone.result (λ made. made ≡ F ∷ [])
    (λ made. IsSplitEach (HasCutAt s.count s.root (s.place + 1) s.width) (F ∷ []) made)
    (λ made e. subst (λ (z : List SoundForest). IsSplitEach (HasCutAt s.count s.root (s.place + 1) s.width) (F ∷ []) z)
    (sym e)
    (split_same (HasCutAt s.count s.root (s.place + 1) s.width) F
    (loose_child s.count s.root s.place s.width F c.known.ensures.sound c.requires ranked c.if-is_tied.ensures)))
    c.alone.ensures
