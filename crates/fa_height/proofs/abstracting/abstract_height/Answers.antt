use Rattle.std.proofs.Common.{◌≡◌, ◌∙◌, List, ap₂, sym, subst}
use Rattle.std.proofs.lemmas.Result.{IfOk-weaker}
use Rattle.fore_base.specs.Lists.{Every}
use Rattle.fore_base.specs.declared.shape.Shape.{Shape}
use Rattle.fore_base.specs.declared.store.Datum.{Datum}
use Rattle.fore_base.specs.declared.store.Store.{Store}
use Rattle.ta_core.specs.Auto.{IsRanked}
use Rattle.fa_core.specs.Boxless.{HasNoBoxes}
use Rattle.fa_core.specs.Covering.{Covers}
use Rattle.fa_core.specs.Filled.{IsSound}
use Rattle.fa_core.specs.Member.{Stands}
use Rattle.fa_core.specs.declared.boxes.BoxDef.{BoxDef}
use Rattle.fa_core.specs.declared.faces.Face.{Face}
use Rattle.fa_core.specs.declared.forest.Forest.{Forest}
use Rattle.fa_core.specs.declared.forest.Target.{Target}
use Rattle.fa_height.proofs.Sound.{G, made_covers, made_plain, made_sound}
use Rattle.fa_height.proofs.abstracting.abstract_height.Goals as goal

pub of-requires : goal.of-requires
of-requires c =
    let F = c.args.forest.now.forest in
    let face = c.args.forest.now.face in
    let autos = c.in_ok-autos.autos in
    let ranked : Every IsRanked F.autos = c.known.ensures.ranked in
    let right : Every IsRanked autos = c.in_ok-autos.ensures.ranked in
    let vars : c.in_ok-vars.vars ≡ F.vars = rw c.forest.ensures at c.in_ok-vars.ensures in
    let datums : c.in_ok-data_vars.data_vars ≡ F.data_vars = rw c.forest-2.ensures at c.in_ok-data_vars.ensures in
    let made : record { autos = autos; vars = c.in_ok-vars.vars; data_vars = c.in_ok-data_vars.data_vars } ≡ G face F
    c.args.height c.requires.height autos c.in_ok-autos.ensures.quotients ranked c.requires.trim = ap₂
    (λ (v : List Target) (d : List Datum). record { autos = autos; vars = v; data_vars = d }) vars datums in
    subst
    (λ (f : Face). IsSound f
    (record { autos = autos; vars = c.in_ok-vars.vars; data_vars = c.in_ok-data_vars.data_vars }))
    (sym c.face.ensures)
    (subst (IsSound face) (sym made) (made_sound face F c.args.height c.requires.height autos
    c.in_ok-autos.ensures.quotients ranked c.requires.trim c.requires.structs right
    c.known.ensures.sound))

pub returns-clause-members : goal.returns-clause-members
returns-clause-members c =
    let F = c.args.forest.now.forest in
    let face = c.args.forest.now.face in
    let autos = c.in_ok-autos.autos in
    let ranked : Every IsRanked F.autos = c.known.ensures.ranked in
    let vars : c.in_ok-vars.vars ≡ F.vars = rw c.forest.ensures at c.in_ok-vars.ensures in
    let datums : c.in_ok-data_vars.data_vars ≡ F.data_vars = rw c.forest-2.ensures at c.in_ok-data_vars.ensures in
    let made : record { autos = autos; vars = c.in_ok-vars.vars; data_vars = c.in_ok-data_vars.data_vars } ≡ G face F
    c.args.height c.requires.height autos c.in_ok-autos.ensures.quotients ranked c.requires.trim = ap₂
    (λ (v : List Target) (d : List Datum). record { autos = autos; vars = v; data_vars = d }) vars datums in
    IfOk-weaker c.of.result (λ s. s.forest ≡ _) (λ x. (hs : List Shape) (T : List BoxDef) (s : Store) → Stands hs T F
    s → Stands hs T x.forest s)
    (λ x e hs T s m. c.covered_members.ensures hs T x.forest F s
    (subst (λ (z : Forest). Covers z F) (sym (e ∙ made))
    (made_covers face F c.args.height c.requires.height autos c.in_ok-autos.ensures.quotients ranked
    c.requires.trim)) m)
    c.of.ensures.forest

pub returns-clause-plain : goal.returns-clause-plain
returns-clause-plain c = λ plain.
    let F = c.args.forest.now.forest in
    let face = c.args.forest.now.face in
    let ranked : Every IsRanked F.autos = c.known.ensures.ranked in
    let kept = made_plain face F c.args.height c.requires.height c.in_ok-autos.autos c.in_ok-autos.ensures.quotients
    ranked c.requires.trim plain in
    IfOk-weaker c.of.result (λ s. s.forest ≡ _) (λ x. Every HasNoBoxes x.forest.autos)
    (λ x e. subst (λ (z : Forest). Every HasNoBoxes z.autos) (sym e) kept)
    c.of.ensures.forest
