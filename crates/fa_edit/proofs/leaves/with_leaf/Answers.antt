use Rattle.std.proofs.Common.{◌≡◌, List, Some, sym, subst}
use Rattle.std.proofs.lemmas.Result.{IfOk-weaker}
use Rattle.fore_base.specs.Lists.{Every}
use Rattle.ta_core.specs.Auto.{IsRanked}
use Rattle.fa_core.specs.Boxless.{HasNoBoxes}
use Rattle.fa_core.specs.declared.boxes.BoxDef.{BoxDef}
use Rattle.fa_core.specs.declared.forest.Forest.{Forest}
use Rattle.fa_core.specs.declared.forest.Target.{Target}
use Rattle.fa_edit.specs.Leaves.{AllHaveLeaf, IsPut}
use Rattle.fa_edit.specs.Plain.{place_at}
use Rattle.fa_edit.proofs.LeafPuts.{is_put}
use Rattle.fa_edit.proofs.LeafSound.{put_plain}
use Rattle.fa_edit.proofs.leaves.with_leaf.Goals as goal
use Rattle.fa_split.specs.Split.{split_leaf}

pub returns-clause-put : goal.returns-clause-put
returns-clause-put c =
    let F = c.args.forest.now.forest in
    let r = c.args.root in
    let f = c.args.field in
    let p = c.in-Some.place in
    let ranked : Every IsRanked F.autos = c.known.ensures.ranked in
    let place : Some p ≡ place_at F r f = rw (c.component.ensures, c.forest.ensures) at c.in-Some.ensures in
    let t = c.requires.at.leaf p (sym place) in
    IfOk-weaker c.with_leaf_at.result
    (λ made. made.forest ≡ split_leaf F r p c.args.leaf)
    (λ made. (T : List BoxDef) (old : Target) → AllHaveLeaf T F r f old → IsPut T F made.forest r f old c.args.leaf)
    (λ made e T old all. subst (λ (G : Forest). IsPut T F G r f old c.args.leaf) (sym e)
    (is_put c.args.forest.now.face.shapes.structs F r f ranked c.requires.at p (sym place) t.0 t.1 c.args.leaf T old
    all))
    c.with_leaf_at.ensures.forest

pub returns-clause-plain : goal.returns-clause-plain
returns-clause-plain c = λ plain.
    let F = c.args.forest.now.forest in
    let r = c.args.root in
    let f = c.args.field in
    let p = c.in-Some.place in
    let ranked : Every IsRanked F.autos = c.known.ensures.ranked in
    let place : Some p ≡ place_at F r f = rw (c.component.ensures, c.forest.ensures) at c.in-Some.ensures in
    IfOk-weaker c.with_leaf_at.result
    (λ made. made.forest ≡ split_leaf F r p c.args.leaf)
    (λ made. Every HasNoBoxes made.forest.autos)
    (λ made e. subst (λ (G : Forest). Every HasNoBoxes G.autos) (sym e)
    (put_plain c.args.forest.now.face F r f ranked c.known.ensures.sound c.requires.at p (sym place) c.args.leaf
    c.requires.fits plain))
    c.with_leaf_at.ensures.forest
