use Rattle.std.proofs.Common.{List, ◌∷◌, ◌++◌, [], take}
use Rattle.fore_base.proofs.ListLemmas.{take_item}
use Rattle.fa_signatures.specs.inner.CutPairs.{Pair, AddsRule, AddsEach}
use Rattle.fa_signatures.proofs.PairRules.{grows_on, each_push}
use Rattle.fa_signatures.proofs.pairing.add_rules.Goals as goal

pub loop-choice-preserved : goal.loop-choice-preserved
loop-choice-preserved c =
    let p = c.args.pairs.now in
    let bs = c.args.boxes.now in
    let told = c.args.told.now in
    let r = c.args.rule.now in
    let ks = c.choice-item.result in
    let done = take c.loop-choice.choice-index c.args.choices.now in
    let t = take_item c.args.choices.now c.loop-choice.choice-index ks c.loop-choice-test.true c.choice-item.is in
    rw t (record {
      grows = grows_on p c.loop-choice.pairs c.add_rule.new.pairs
          (AddsEach bs told p r done c.args.over.now c.loop-choice.over)
          (AddsEach bs told p r (done ++ ks ∷ []) c.args.over.now c.add_rule.new.over)
          (λ (ps : List Pair). AddsRule bs told ps r ks c.loop-choice.over c.add_rule.new.over)
          c.loop-choice.invariant.grows c.in_ok-add_rule.ensures.grows
          (each_push p bs told r done ks c.args.over.now c.loop-choice.over c.add_rule.new.over);
      apart = λ d. c.in_ok-add_rule.ensures.apart (c.loop-choice.invariant.apart d);
    })
