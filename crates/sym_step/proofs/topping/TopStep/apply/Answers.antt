use Rattle.std.proofs.Common.{◌≡◌, [], ◌∷◌, List}
use Rattle.std.proofs.lemmas.Result.{IfOk-weaker}
use Rattle.fore_base.specs.Lists.{Every}
use Rattle.fa_core.specs.Member.{RegroupsInto}
use Rattle.fa_core.specs.declared.boxes.BoxDef.{BoxDef}
use Rattle.fa_split.specs.Divided.{forests}
use Rattle.sym_step.specs.inner.Topping.{IsToppedAt}
use Rattle.sym_step.proofs.ToppedRoots.{alone_into, alone_topped, each_topped}
use Rattle.sym_step.proofs.topping.TopStep.apply.Goals as goal

pub returns-then-is_topped-clause-each : goal.returns-then-is_topped-clause-each
returns-then-is_topped-clause-each c =
    let S = c.args.part.now in
    let r = c.args.self.now.root in
    IfOk-weaker c.as_it_is.result (λ made. made ≡ S ∷ []) (Every (IsToppedAt r S))
    (λ made e. alone_topped r S made e (c.is_topped.ensures.topped c.if-is_topped.true)) c.as_it_is.ensures

pub returns-then-is_topped-clause-whole : goal.returns-then-is_topped-clause-whole
returns-then-is_topped-clause-whole c =
    let S = c.args.part.now in
    IfOk-weaker c.as_it_is.result (λ made. made ≡ S ∷ [])
    (λ made. (T : List BoxDef) → RegroupsInto T S.forest (forests made))
    (λ made e. alone_into S made e) c.as_it_is.ensures

pub choose_rule-requires : goal.choose_rule-requires
choose_rule-requires c = (c.is_topped.ensures.other c.if-is_topped.false).0

pub returns-clause-each : goal.returns-clause-each
returns-clause-each c =
    let m = c.in_ok-made.ensures in
    each_topped c.args.part.now c.args.self.now.root (c.is_topped.ensures.other c.if-is_topped.false).1
    c.in_ok-made.made m.face m.vars m.plain m.tops m.regroups m.dressed
