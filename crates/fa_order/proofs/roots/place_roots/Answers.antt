use Rattle.std.proofs.Common.{◌≡◌, ◌∙◌, ℕ, List, ap, sym, subst}
use Rattle.std.proofs.lemmas.Result.{IfOk-weaker}
use Rattle.fore_base.specs.Lists.{Every}
use Rattle.ta_core.specs.Auto.{IsRanked}
use Rattle.fa_core.specs.Boxless.{HasNoBoxes}
use Rattle.fa_core.specs.Canonical.{IsCanonical}
use Rattle.fa_core.specs.declared.faces.Face.{Face}
use Rattle.fa_core.specs.declared.forest.Forest.{Forest}
use Rattle.fa_merge.specs.Reordered.{IsOrderOf, reordered}
use Rattle.fa_merge.proofs.ReorderedSound.{new_plain}
use Rattle.fa_order.specs.Placing.{IsPlaced}
use Rattle.fa_order.proofs.BothOk.{both_ok}
use Rattle.fa_order.proofs.Concluding.{placed_canonical}
use Rattle.fa_order.proofs.NoWays.{ways_give}
use Rattle.fa_order.proofs.WalkOrder.{is_order, in_order_walks, reordered_same}
use Rattle.fa_order.proofs.roots.place_roots.Goals as goal

pub reorder-requires : goal.reorder-requires
reorder-requires c =
    let F = c.args.forest.now.forest in
    let face = c.args.forest.now.face in
    let sound = c.known.ensures.sound in
    let ranked : Every IsRanked F.autos = c.known.ensures.ranked in
    subst (IsOrderOf F) (sym c.as_slice.ensures)
    (is_order face F sound (ways_give face F c.requires.giving) c.requires.reached
    c.in_ok-order.order c.in_ok-order.ensures)

pub returns-clause-canonical : goal.returns-clause-canonical
returns-clause-canonical c =
    let F = c.args.forest.now.forest in
    let face = c.args.forest.now.face in
    let sound = c.known.ensures.sound in
    let order = c.in_ok-order.order in
    let ranked : Every IsRanked F.autos = c.known.ensures.ranked in
    let all : IsOrderOf F order =
    is_order face F sound (ways_give face F c.requires.giving) c.requires.reached
    order c.in_ok-order.ensures in
    both_ok c.reorder.result (λ s. s.forest ≡ reordered c.as_slice.result.now F) (λ s. s.face ≡ face)
    (λ s. IsCanonical s.face s.forest)
    (λ s value same.
    subst (λ (x : Face). IsCanonical x s.forest) (sym same)
    (subst (IsCanonical face) (sym (value ∙ ap (λ (ks : List ℕ). reordered ks F) c.as_slice.ensures))
    (placed_canonical face F sound ranked c.requires.kinds order c.in_ok-order.ensures all)))
    c.reorder.ensures.value c.reorder.ensures.face

pub returns-clause-value : goal.returns-clause-value
returns-clause-value c =
    let F = c.args.forest.now.forest in
    let face = c.args.forest.now.face in
    let sound = c.known.ensures.sound in
    let order = c.in_ok-order.order in
    let ranked : Every IsRanked F.autos = c.known.ensures.ranked in
    let all : IsOrderOf F order =
    is_order face F sound (ways_give face F c.requires.giving) c.requires.reached
    order c.in_ok-order.ensures in
    IfOk-weaker c.reorder.result (λ s. s.forest ≡ reordered c.as_slice.result.now F) (λ s. IsPlaced face F s.forest)
    (λ s value. (order, all, c.in_ok-order.ensures, value ∙ ap (λ (ks : List ℕ). reordered ks F) c.as_slice.ensures))
    c.reorder.ensures.value

pub returns-clause-plain : goal.returns-clause-plain
returns-clause-plain c plain =
    let F = c.args.forest.now.forest in
    let face = c.args.forest.now.face in
    let sound = c.known.ensures.sound in
    let order = c.in_ok-order.order in
    let ranked : Every IsRanked F.autos = c.known.ensures.ranked in
    let all : IsOrderOf F order =
    is_order face F sound (ways_give face F c.requires.giving) c.requires.reached
    order c.in_ok-order.ensures in
    IfOk-weaker c.reorder.result (λ s. s.forest ≡ reordered c.as_slice.result.now F)
    (λ s. Every HasNoBoxes s.forest.autos)
    (λ s value. subst (λ (x : Forest). Every HasNoBoxes x.autos)
    (sym (value ∙ ap (λ (ks : List ℕ). reordered ks F) c.as_slice.ensures))
    (new_plain face F order all ranked sound plain))
    c.reorder.ensures.value

pub returns-clause-same : goal.returns-clause-same
returns-clause-same c =
    let F = c.args.forest.now.forest in
    let face = c.args.forest.now.face in
    let order = c.in_ok-order.order in
    IfOk-weaker c.reorder.result (λ s. s.forest ≡ reordered c.as_slice.result.now F)
    (λ s. IsCanonical face F → s.forest ≡ F)
    (λ s value can. value ∙ ap (λ (ks : List ℕ). reordered ks F)
    (c.as_slice.ensures ∙ in_order_walks face F c.known.ensures.sound order c.in_ok-order.ensures
    can) ∙ reordered_same F)
    c.reorder.ensures.value
