use Rattle.std.proofs.Common.{◌≡◌, List, [], ◌∷◌, sym, subst}
use Rattle.std.proofs.lemmas.Result.{IfOk-weaker}
use Rattle.fore_base.specs.Lists.{Every}
use Rattle.ta_core.specs.Auto.{IsRanked}
use Rattle.fa_sound.specs.Soundness.{SoundForest}
use Rattle.fa_canon.specs.inner.Steps.{IsChosenAt, IsSplitEach}
use Rattle.fa_canon.proofs.SplitSteps.{chosen_already, chosen_each, divided}
use Rattle.fa_canon.proofs.Splits.{split_same}
use Rattle.fa_canon.proofs.choosing.ChooseStep.apply.Goals as goal

pub returns-then-has_one_top : goal.returns-then-has_one_top
returns-then-has_one_top c =
    let F = c.args.forest in
    let r = c.args.self.now.root in
    let chosen : SoundForest → SoundForest → Type 0 = λ x y. IsChosenAt r x.forest y.forest in
    let here = rw c.forest-2.ensures at c.component.ensures in
    let top = rw here at (c.has_one_top.ensures.0 c.if-has_one_top.true) in
    IfOk-weaker c.alone.result (λ made. made ≡ F ∷ []) (λ made. IsSplitEach chosen (F ∷ []) made)
    (λ made e. subst (λ (z : List SoundForest). IsSplitEach chosen (F ∷ []) z) (sym e)
    (split_same chosen F (chosen_already r F.forest top)))
    c.alone.ensures

pub returns : goal.returns
returns c =
    let F = c.args.forest in
    let e = c.in_ok-made.ensures in
    let ranked : Every IsRanked F.forest.autos = c.known.ensures.ranked in
    divided (λ (x y : SoundForest). IsChosenAt c.args.self.now.root x.forest y.forest) F c.in_ok-made.made
    e.plain e.face e.vars e.regroups e.whole
    (chosen_each F.forest c.args.self.now.root c.in_ok-made.made c.requires ranked e.value)
