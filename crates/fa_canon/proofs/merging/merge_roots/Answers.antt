use Rattle.std.proofs.Common.{◌≡◌, sym, subst}
use Rattle.std.proofs.lemmas.Result.{IfOk-weaker}
use Rattle.fa_sound.specs.Soundness.{SoundForest}
use Rattle.fa_canon.specs.inner.Merges.{IsRegrouped, NoneMerges}
use Rattle.fa_canon.proofs.MergedRoots.{regrouped_on, regrouped_same}
use Rattle.fa_canon.proofs.merging.merge_roots.Goals as goal

pub returns-in_ok-merged-in-Some-clause-regrouped : goal.returns-in_ok-merged-in-Some-clause-regrouped
returns-in_ok-merged-in-Some-clause-regrouped c =
    let F = c.args.forest.now in
    let M = c.in_ok-merged-in-Some.merged in
    IfOk-weaker c.merge_others.result (IsRegrouped M) (IsRegrouped F)
    (λ made h. regrouped_on F M made c.in_ok-merged-in-Some.ensures.regrouped h) c.merge_others.ensures.regrouped

pub returns-in-None-clause-regrouped : goal.returns-in-None-clause-regrouped
returns-in-None-clause-regrouped c =
    let F = c.args.forest.now in
    IfOk-weaker c.copy.result (λ made. made ≡ F) (IsRegrouped F)
    (λ made e. subst (λ (z : SoundForest). IsRegrouped F z) (sym e) (regrouped_same F)) c.copy.ensures

pub returns-in-None-clause-none : goal.returns-in-None-clause-none
returns-in-None-clause-none c =
    let F = c.args.forest.now in
    IfOk-weaker c.copy.result (λ made. made ≡ F) (λ made. NoneMerges made.forest)
    (λ made e. subst (λ (z : SoundForest). NoneMerges z.forest) (sym e) (rw c.in-None.is at c.in_ok-root.ensures))
    c.copy.ensures
