use Rattle.std.proofs.Common.{◌≡◌, ◌+◌, List, [], ◌∷◌, sym, subst}
use Rattle.std.proofs.lemmas.Result.{IfOk-weaker}
use Rattle.fa_sound.specs.Soundness.{SoundForest}
use Rattle.fa_canon.specs.inner.Knots.{HasCut}
use Rattle.fa_canon.specs.inner.Steps.{IsSplitEach}
use Rattle.fa_canon.proofs.CutForests.{unshared_cutting}
use Rattle.fa_canon.proofs.Splits.{split_same}
use Rattle.fa_canon.proofs.cutting.cut_root.Goals as goal

pub is_shared_root-requires : goal.is_shared_root-requires
is_shared_root-requires c = c.requires.ready.1

pub cut_children-requires-clause-shared : goal.cut_children-requires-clause-shared
cut_children-requires-clause-shared c = rw c.if-is_shared.true at c.in_ok-is_shared.ensures

pub returns-else-is_shared : goal.returns-else-is_shared
returns-else-is_shared c =
    let F = c.args.forest in
    let n = c.args.count in
    let r = c.args.root in
    let none = rw c.if-is_shared.false at c.in_ok-is_shared.ensures in
    IfOk-weaker c.alone.result (λ made. made ≡ F ∷ [])
    (λ made. IsSplitEach (HasCut n (r + 1) 0) (F ∷ []) made)
    (λ made e. subst (λ (z : List SoundForest). IsSplitEach (HasCut n (r + 1) 0) (F ∷ []) z) (sym e)
    (split_same (HasCut n (r + 1) 0) F
    (c.requires.ready.1, unshared_cutting n r F.forest none c.requires.ready.2)))
    c.alone.ensures
