use Rattle.std.proofs.Common.{◌≡◌, ◌∙◌, ap, sym, subst, length, List}
use Rattle.std.proofs.lemmas.Result.{IfOk-weaker}
use Rattle.fore_base.specs.Lists.{Every}
use Rattle.ta_core.specs.Auto.{IsRanked}
use Rattle.fa_core.specs.Filled.{IsSound}
use Rattle.fa_core.specs.Member.{Regroups}
use Rattle.fa_core.specs.declared.boxes.BoxDef.{BoxDef}
use Rattle.fa_core.specs.declared.forest.Forest.{Forest}
use Rattle.fa_merge.specs.Reordered.{place_of, reordered}
use Rattle.fa_merge.proofs.MergedAnywhere.{an_order}
use Rattle.fa_merge.proofs.OtherOrders.{reorder_onto, reorder_back}
use Rattle.fa_merge.proofs.ReorderedSound.{reordered_sound}
use Rattle.fa_merge.proofs.merge.reorder.Goals as goal

pub of-requires : goal.of-requires
of-requires c =
    let F = c.args.forest.now.forest in
    let made : c.in_ok-made.made ≡ reordered c.args.order.now F = c.in_ok-made.ensures
    ∙ ap (reordered c.args.order.now) c.forest-2.ensures in
    let ranked : Every IsRanked F.autos = c.known.ensures.ranked in
    rw c.face.ensures
    (subst (λ (z : Forest). IsSound c.args.forest.now.face z) (sym made)
    (reordered_sound c.args.forest.now.face F c.args.order.now c.requires ranked c.known.ensures.sound))

pub returns-clause-whole : goal.returns-clause-whole
returns-clause-whole c =
    let F = c.args.forest.now.forest in
    let order = c.args.order.now in
    let made : c.in_ok-made.made ≡ reordered order F = c.in_ok-made.ensures ∙ ap (reordered order) c.forest-2.ensures in
    IfOk-weaker c.of.result (λ s. s.forest ≡ c.in_ok-made.made) (λ s. (T : List BoxDef) → Regroups T s.forest F)
    (λ s e T. subst (λ (z : Forest). Regroups T z F) (sym (e ∙ made))
    (reorder_onto T F (place_of order) order (an_order (length F.autos) order c.requires)))
    c.of.ensures.forest

pub returns-clause-regroups : goal.returns-clause-regroups
returns-clause-regroups c =
    let F = c.args.forest.now.forest in
    let order = c.args.order.now in
    let made : c.in_ok-made.made ≡ reordered order F = c.in_ok-made.ensures ∙ ap (reordered order) c.forest-2.ensures in
    IfOk-weaker c.of.result (λ s. s.forest ≡ c.in_ok-made.made) (λ s. (T : List BoxDef) → Regroups T F s.forest)
    (λ s e T. subst (λ (z : Forest). Regroups T F z) (sym (e ∙ made))
    (reorder_back F (place_of order) order (an_order (length F.autos) order c.requires) T))
    c.of.ensures.forest
