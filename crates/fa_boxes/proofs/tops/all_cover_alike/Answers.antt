use Rattle.std.proofs.Common.{Bool, List, subst}
use Rattle.std.proofs.lemmas.List.{take_all}
use Rattle.std.proofs.lemmas.Result.{IfOk-weaker}
use Rattle.fore_base.specs.Lists.{IsIn, Every}
use Rattle.fore_base.proofs.ListLemmas.{in_at, every_in}
use Rattle.ta_core.specs.declared.auto.Rule.{Rule}
use Rattle.fa_boxes.specs.inner.TopRules.{EachAlike, AllAlike, IsTop}
use Rattle.fa_boxes.proofs.Alike.{each_all}
use Rattle.fa_boxes.proofs.tops.all_cover_alike.Goals as goal

pub returns-then-is_one_of : goal.returns-then-is_one_of
returns-then-is_one_of c =
    let bs = c.args.boxes.now in
    let o = c.rule-item.result in
    let i : IsTop c.args.roots.now c.args.rules.now o = (
      in_at c.args.rules.now c.loop-rule.rule-index o c.loop-rule-test.true c.rule-item.is,
      c.is_one_of.ensures.0 c.if-is_one_of.true,
    ) in
    IfOk-weaker c.each_covers_like.result
    (λ (yes : Bool). EachAlike bs o.symbol c.args.roots.now c.args.rules.now yes)
    (λ (yes : Bool). AllAlike bs c.args.roots.now c.args.rules.now yes)
    (λ yes h. each_all bs c.args.roots.now c.args.rules.now o i yes h) c.each_covers_like.ensures

pub returns : goal.returns
returns c =
    let none : Every (λ (r : Rule). IsIn r.state c.args.roots.now → ⊥) c.args.rules.now =
    subst (λ (l : List Rule). Every (λ (r : Rule). IsIn r.state c.args.roots.now → ⊥) l)
    (take_all c.loop-rule.rule-index c.args.rules.now c.loop-rule-test.false) c.loop-rule.invariant in
    (λ r o i j. absurd (every_in (λ (x : Rule). IsIn x.state c.args.roots.now → ⊥) c.args.rules.now r none i.0 i.1))
