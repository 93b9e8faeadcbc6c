use Rattle.std.proofs.Common.{◌≡◌, ◌∙◌, ap, subst}
use Rattle.std.proofs.lemmas.Result.{IfOk-weaker}
use Rattle.fa_core.specs.declared.forest.Forest.{Forest}
use Rattle.fa_merge.specs.Merged.{HasTreesOf, merged_at}
use Rattle.fa_merge.proofs.MergedCut.{equal_trees}
use Rattle.fa_merge.proofs.grafting.merge_at.Goals as goal

pub returns-then-have_no_boxes-clause-trees : goal.returns-then-have_no_boxes-clause-trees
returns-then-have_no_boxes-clause-trees c =
    let F = c.args.forest.now.forest in
    let made : c.in_ok-made.made ≡ merged_at c.args.root c.args.into F = c.in_ok-made.ensures
    ∙ ap (merged_at c.args.root c.args.into) c.forest.ensures in
    IfOk-weaker c.plain_sound.result (λ s. s.forest ≡ c.in_ok-made.made)
    (λ s. HasTreesOf (merged_at c.args.root c.args.into F) s.forest)
    (λ s e. equal_trees (merged_at c.args.root c.args.into F) s.forest (e ∙ made)) c.plain_sound.ensures.forest

pub returns-then-have_no_boxes-clause-plain : goal.returns-then-have_no_boxes-clause-plain
returns-then-have_no_boxes-clause-plain c = λ plain.
    (let F = c.args.forest.now.forest in
    let made : c.in_ok-made.made ≡ merged_at c.args.root c.args.into F = c.in_ok-made.ensures
    ∙ ap (merged_at c.args.root c.args.into) c.forest.ensures in
    IfOk-weaker c.plain_sound.result (λ s. s.forest ≡ c.in_ok-made.made)
    (λ s. s.forest ≡ merged_at c.args.root c.args.into F) (λ s e. e ∙ made) c.plain_sound.ensures.forest)

pub returns-clause-trees : goal.returns-clause-trees
returns-clause-trees c =
    let F = c.args.forest.now.forest in
    let made : c.in_ok-made.made ≡ merged_at c.args.root c.args.into F = c.in_ok-made.ensures
    ∙ ap (merged_at c.args.root c.args.into) c.forest.ensures in
    IfOk-weaker c.boxed_sound.result (λ s. HasTreesOf c.in_ok-made.made s.forest)
    (λ s. HasTreesOf (merged_at c.args.root c.args.into F) s.forest)
    (λ s e. subst (λ (z : Forest). HasTreesOf z s.forest) made e) c.boxed_sound.ensures.trees
