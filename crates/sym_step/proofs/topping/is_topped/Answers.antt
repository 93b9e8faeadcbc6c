use Rattle.std.proofs.Common.{◌≡◌, ◌∙◌, length, ap, subst, sym, true≢false, arith}
use Rattle.ta_core.specs.Single.{HasOneTop}
use Rattle.fa_core.specs.declared.forest.Forest.{Forest}
use Rattle.fa_sound.specs.Components.{component_at}
use Rattle.fa_split.proofs.SplitCells.{refers_well}
use Rattle.sym_step.proofs.ToppedRoots.{stays_topped}
use Rattle.sym_step.proofs.topping.is_topped.Goals as goal

pub returns-then-root-len-clause-topped : goal.returns-then-root-len-clause-topped
returns-then-root-len-clause-topped c t =
    let S = c.args.part.now in
    stays_topped c.args.root S (λ i.
    (let low = (refers_well S.face S.forest c.known.ensures.sound).vars c.args.root i in
    let e : c.len.result ≡ length S.forest.autos = c.len.ensures
    ∙ ap (λ (F : Forest). length F.autos) c.forest.ensures in
    let high = c.if-root-len.true in
    absurd (omega (arith, low, e, high))))

pub returns-clause-topped : goal.returns-clause-topped
returns-clause-topped c t =
    let S = c.args.part.now in
    let is : c.component.result.now ≡ component_at S.forest.autos c.args.root = c.component.ensures
    ∙ ap (λ (F : Forest). component_at F.autos c.args.root) c.forest-2.ensures in
    stays_topped c.args.root S (λ i. subst HasOneTop is (c.has_one_top.ensures.0 t))

pub returns-clause-other : goal.returns-clause-other
returns-clause-other c f =
    let S = c.args.part.now in
    let is : c.component.result.now ≡ component_at S.forest.autos c.args.root = c.component.ensures
    ∙ ap (λ (F : Forest). component_at F.autos c.args.root) c.forest-2.ensures in
    let e : c.len.result ≡ length S.forest.autos = c.len.ensures
    ∙ ap (λ (F : Forest). length F.autos) c.forest.ensures in
    let low = c.if-root-len.false in (
      omega (arith, e, low),
      λ h. true≢false (sym (c.has_one_top.ensures.1 (subst HasOneTop (sym is) h)) ∙ f),
    )
