use Rattle.std.proofs.Common.{◌≡◌, ◌∙◌, sym, subst}
use Rattle.std.proofs.lemmas.Result.{IfOk-weaker}
use Rattle.fore_base.specs.Lists.{Every, Paired}
use Rattle.fa_core.specs.Boxless.{HasNoBoxes}
use Rattle.fa_core.specs.Canonical.{IsCanonical}
use Rattle.fa_core.specs.Covering.{Covers, Reduced}
use Rattle.fa_core.specs.Filled.{IsSound}
use Rattle.fa_core.specs.declared.faces.Face.{Face}
use Rattle.fa_core.specs.declared.forest.Forest.{Forest}
use Rattle.fa_order.specs.inner.Reduced.{IsReduction}
use Rattle.fa_order.proofs.BothOk.{both_ok}
use Rattle.fa_order.proofs.Reduced.{G, covers_first, first_covers, is_reduced, plain_made, sound_made, canonical_made}
use Rattle.fa_order.proofs.reducing.reduce_forest.Goals as goal

pub of-requires : goal.of-requires
of-requires g c =
    let F = c.args.forest.now.forest in
    let face = c.args.forest.now.face in
    let h : Paired IsReduction F.autos c.in_ok-autos.autos = rw (c.as_slice.ensures, c.forest.ensures) at
    c.in_ok-autos.ensures.reductions in
    let made : c.in_ok-made.made ≡ G face F c.in_ok-autos.autos h = rw c.forest-2.ensures at c.in_ok-made.ensures in
    subst (λ (f : Face). IsSound f c.in_ok-made.made) (sym c.face.ensures)
    (subst (IsSound face) (sym made) (sound_made face F c.in_ok-autos.autos h c.in_ok-autos.ensures.ranked
    c.known.ensures.sound))

pub returns-clause-covers : goal.returns-clause-covers
returns-clause-covers g c =
    let F = c.args.forest.now.forest in
    let face = c.args.forest.now.face in
    let h : Paired IsReduction F.autos c.in_ok-autos.autos = rw (c.as_slice.ensures, c.forest.ensures) at
    c.in_ok-autos.ensures.reductions in
    let made : c.in_ok-made.made ≡ G face F c.in_ok-autos.autos h = rw c.forest-2.ensures at c.in_ok-made.ensures in
    IfOk-weaker c.of.result (λ s. s.forest ≡ _) (λ s. Covers s.forest F)
    (λ s e. subst (λ (z : Forest). Covers z F) (sym (e ∙ made)) (covers_first face F c.in_ok-autos.autos h))
    c.of.ensures.forest

pub returns-clause-covered : goal.returns-clause-covered
returns-clause-covered g c =
    let F = c.args.forest.now.forest in
    let face = c.args.forest.now.face in
    let h : Paired IsReduction F.autos c.in_ok-autos.autos = rw (c.as_slice.ensures, c.forest.ensures) at
    c.in_ok-autos.ensures.reductions in
    let made : c.in_ok-made.made ≡ G face F c.in_ok-autos.autos h = rw c.forest-2.ensures at c.in_ok-made.ensures in
    IfOk-weaker c.of.result (λ s. s.forest ≡ _) (λ s. Covers F s.forest)
    (λ s e. subst (λ (z : Forest). Covers F z) (sym (e ∙ made)) (first_covers face F c.in_ok-autos.autos h))
    c.of.ensures.forest

pub returns-clause-reduced : goal.returns-clause-reduced
returns-clause-reduced g c =
    let F = c.args.forest.now.forest in
    let face = c.args.forest.now.face in
    let h : Paired IsReduction F.autos c.in_ok-autos.autos = rw (c.as_slice.ensures, c.forest.ensures) at
    c.in_ok-autos.ensures.reductions in
    let made : c.in_ok-made.made ≡ G face F c.in_ok-autos.autos h = rw c.forest-2.ensures at c.in_ok-made.ensures in
    IfOk-weaker c.of.result (λ s. s.forest ≡ _) (λ s. Reduced s.forest)
    (λ s e. subst Reduced (sym (e ∙ made)) (is_reduced face F c.in_ok-autos.autos h))
    c.of.ensures.forest

pub returns-clause-plain : goal.returns-clause-plain
returns-clause-plain g c plain =
    let F = c.args.forest.now.forest in
    let face = c.args.forest.now.face in
    let h : Paired IsReduction F.autos c.in_ok-autos.autos = rw (c.as_slice.ensures, c.forest.ensures) at
    c.in_ok-autos.ensures.reductions in
    let made : c.in_ok-made.made ≡ G face F c.in_ok-autos.autos h = rw c.forest-2.ensures at c.in_ok-made.ensures in
    IfOk-weaker c.of.result (λ s. s.forest ≡ _) (λ s. Every HasNoBoxes s.forest.autos)
    (λ s e. subst (λ (z : Forest). Every HasNoBoxes z.autos) (sym (e ∙ made))
    (plain_made face F c.in_ok-autos.autos h c.in_ok-autos.ensures.ranked plain))
    c.of.ensures.forest

pub returns-clause-canonical : goal.returns-clause-canonical
returns-clause-canonical g c =
    let F = c.args.forest.now.forest in
    let face = c.args.forest.now.face in
    let h : Paired IsReduction F.autos c.in_ok-autos.autos = rw (c.as_slice.ensures, c.forest.ensures) at
    c.in_ok-autos.ensures.reductions in
    let made : c.in_ok-made.made ≡ G face F c.in_ok-autos.autos h = rw c.forest-2.ensures at c.in_ok-made.ensures in
    both_ok c.of.result (λ s. s.forest ≡ _) (λ s. s.face ≡ _) (λ s. IsCanonical face F → IsCanonical s.face s.forest)
    (λ s e f can. subst (λ (x : Face). IsCanonical x s.forest) (sym (f ∙ c.face.ensures))
    (subst (IsCanonical face) (sym (e ∙ made)) (canonical_made face F c.in_ok-autos.autos h
    c.in_ok-autos.ensures.ranked c.known.ensures.sound can)))
    c.of.ensures.forest c.of.ensures.face
