use Rattle.std.proofs.Common.{List, ◌∷◌, ◌++◌, [], take}
use Rattle.fore_base.proofs.ListLemmas.{take_item}
use Rattle.fa_signatures.specs.inner.CutPairs.{Pair, AddsRules, ArePairRules}
use Rattle.fa_signatures.proofs.PairRules.{grows_on, rules_push}
use Rattle.fa_signatures.proofs.pairing.rules_over.Goals as goal

pub loop-rule-preserved : goal.loop-rule-preserved
loop-rule-preserved c =
    let p = c.args.pairs.now in
    let bs = c.args.boxes.now in
    let told = c.args.told.now in
    let r = c.rule-item.result in
    let done = take c.loop-rule.rule-index c.args.rules.now in
    let t = take_item c.args.rules.now c.loop-rule.rule-index r c.loop-rule-test.true c.rule-item.is in
    rw t (record {
      grows = grows_on p c.loop-rule.pairs c.take_rule.new.pairs (ArePairRules bs told p done c.loop-rule.over)
          (ArePairRules bs told p (done ++ r ∷ []) c.take_rule.new.over)
          (λ (ps : List Pair). AddsRules bs told ps r c.loop-rule.over c.take_rule.new.over)
          c.loop-rule.invariant.grows c.in_ok-take_rule.ensures.grows
          (rules_push p bs told done r c.loop-rule.over c.take_rule.new.over);
      apart = λ d. c.in_ok-take_rule.ensures.apart (c.loop-rule.invariant.apart d);
    })
