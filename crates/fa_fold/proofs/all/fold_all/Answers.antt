use Rattle.std.proofs.Common.{List, sym, subst, ◌∙◌}
use Rattle.fa_core.specs.Filled.{IsSound}
use Rattle.fa_core.specs.declared.faces.Face.{Face}
use Rattle.fa_core.specs.declared.folds.FoldStep.{FoldStep}
use Rattle.fa_fold.proofs.AllFolds.{IsFoldedSoFar, folds_variables, never_leaks, one_more}
use Rattle.fa_fold.proofs.all.fold_all.Goals as goal

pub folds-preserved : goal.folds-preserved
folds-preserved c =
    let e = c.in_ok-push.ensures.ok in
    subst (λ (xs : List FoldStep). IsFoldedSoFar c.args.table.now c.args.forest.now c.in_ok-next.next xs) (sym e)
    (one_more c.args.table.now c.args.forest.now c.folds.folded c.in_ok-next.next c.folds.steps c.in_ok-next.step
    c.folds.invariant c.in_ok-next.ensures.fold c.in_ok-next.ensures.face c.in_ok-next.ensures.members)

pub returns-clause-variables : goal.returns-clause-variables
returns-clause-variables c =
    folds_variables c.args.table.now c.args.forest.now.forest c.folds.folded.forest c.folds.steps
    c.folds.invariant.folds

pub returns-clause-leaks : goal.returns-clause-leaks
returns-clause-leaks c =
    let T = c.args.table.now in
    let F = c.args.forest.now in
    let G = c.folds.folded in
    let made = c.folds.invariant in
    let sound = subst (λ (z : Face). IsSound z G.forest) (made.face ∙ sym c.requires) c.known-3.ensures.sound in
    let sound_before = subst (λ (z : Face). IsSound z F.forest) (sym c.requires) c.known.ensures.sound in
    never_leaks T F G c.folds.steps c.known-2.ensures c.ranked_insides.ensures
    (c.all_leak_or_none.ensures T.face G.forest sound)
    (c.sound_forests_have_members.ensures.members T.face F.forest sound_before c.known.ensures.ranked) made
