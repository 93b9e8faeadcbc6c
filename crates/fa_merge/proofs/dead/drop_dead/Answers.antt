use Rattle.std.proofs.Common.{◌≡◌, ◌∙◌, ap, sym, subst, List}
use Rattle.std.proofs.lemmas.Result.{IfOk-weaker}
use Rattle.fore_base.specs.Lists.{Every}
use Rattle.fa_core.specs.Boxes.{IsTableOf}
use Rattle.fa_core.specs.Boxless.{HasNoBoxes}
use Rattle.fa_core.specs.Filled.{IsSound}
use Rattle.fa_core.specs.declared.boxes.BoxDef.{BoxDef}
use Rattle.fa_core.specs.declared.forest.Forest.{Forest}
use Rattle.fa_merge.specs.Dropped.{IsCut, Removes, Restores, dropped_forest}
use Rattle.fa_merge.proofs.DroppedBack.{store_restored}
use Rattle.fa_merge.proofs.DroppedStores.{store_removed}
use Rattle.fa_merge.proofs.DroppedSound.{dropped_plain, dropped_sound, cut_of}
use Rattle.fa_merge.proofs.dead.drop_dead.Goals as goal

pub of-requires : goal.of-requires
of-requires c =
    let F = c.args.forest.now.forest in
    let r = c.args.root in
    let made : c.in_ok-made.made ≡ dropped_forest r F = c.in_ok-made.ensures ∙ ap (dropped_forest r) c.forest.ensures in
    rw c.face.ensures
    (subst (λ (z : Forest). IsSound c.args.forest.now.face z) (sym made)
    (dropped_sound c.args.forest.now.face F r c.requires.root c.known.ensures.ranked c.known.ensures.sound
    c.requires.idle))

pub returns-clause-plain : goal.returns-clause-plain
returns-clause-plain c = λ plain.
    let F = c.args.forest.now.forest in
    let r = c.args.root in
    let made : c.in_ok-made.made ≡ dropped_forest r F = c.in_ok-made.ensures ∙ ap (dropped_forest r) c.forest.ensures in
    IfOk-weaker c.of.result (λ s. s.forest ≡ c.in_ok-made.made) (λ s. Every HasNoBoxes s.forest.autos)
    (λ s e. subst (λ (z : Forest). Every HasNoBoxes z.autos) (sym (e ∙ made))
    (dropped_plain c.args.forest.now.face F r c.requires.root c.known.ensures.ranked c.known.ensures.sound plain))
    c.of.ensures.forest

pub returns-clause-cut : goal.returns-clause-cut
returns-clause-cut c = λ dead.
    let F = c.args.forest.now.forest in
    let r = c.args.root in
    let made : c.in_ok-made.made ≡ dropped_forest r F = c.in_ok-made.ensures ∙ ap (dropped_forest r) c.forest.ensures in
    IfOk-weaker c.of.result (λ s. s.forest ≡ c.in_ok-made.made) (λ s. (T : List BoxDef) → IsCut T F s.forest r)
    (λ s e T. subst (λ (z : Forest). IsCut T F z r) (sym (e ∙ made))
    (cut_of c.args.forest.now.face F r c.requires.root c.known.ensures.ranked c.known.ensures.sound T dead))
    c.of.ensures.forest

pub returns-clause-removes : goal.returns-clause-removes
returns-clause-removes c = λ dead.
    let F = c.args.forest.now.forest in
    let face = c.args.forest.now.face in
    let hs = face.shapes.structs in
    let r = c.args.root in
    let made : c.in_ok-made.made ≡ dropped_forest r F = c.in_ok-made.ensures ∙ ap (dropped_forest r) c.forest.ensures in
    IfOk-weaker c.of.result (λ s. s.forest ≡ c.in_ok-made.made) (λ s. (T : List BoxDef) → IsTableOf face T
    → Removes hs T F s.forest r)
    (λ s e T t. subst (λ (z : Forest). Removes hs T F z r) (sym (e ∙ made))
    (store_removed face T F (dropped_forest r F) r t c.known.ensures.sound.well_formed.filled c.requires.idle
    (cut_of face F r c.requires.root c.known.ensures.ranked c.known.ensures.sound T dead)))
    c.of.ensures.forest

pub returns-clause-restores : goal.returns-clause-restores
returns-clause-restores c = λ dead.
    let F = c.args.forest.now.forest in
    let face = c.args.forest.now.face in
    let hs = face.shapes.structs in
    let r = c.args.root in
    let made : c.in_ok-made.made ≡ dropped_forest r F = c.in_ok-made.ensures ∙ ap (dropped_forest r) c.forest.ensures in
    IfOk-weaker c.of.result (λ s. s.forest ≡ c.in_ok-made.made) (λ s. (T : List BoxDef) → IsTableOf face T
    → Restores hs T F s.forest r)
    (λ s e T t. subst (λ (z : Forest). Restores hs T F z r) (sym (e ∙ made))
    (store_restored T face F (dropped_forest r F) r t c.known.ensures.sound.well_formed.filled c.requires.idle
    (cut_of face F r c.requires.root c.known.ensures.ranked c.known.ensures.sound T dead)))
    c.of.ensures.forest
