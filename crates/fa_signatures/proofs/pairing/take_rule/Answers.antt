use Rattle.std.proofs.lemmas.Result.{on_ok_weaker}
use Rattle.fa_signatures.specs.inner.CutPairs.{AddsEach, AddsRules}
use Rattle.fa_signatures.specs.inner.CutProducts.{product}
use Rattle.fa_signatures.proofs.PairRules.{grows_to, adds_rules}
use Rattle.fa_signatures.proofs.pairing.take_rule.Goals as goal

pub returns-clause-grows : goal.returns-clause-grows
returns-clause-grows c =
    let p = c.args.pairs.now in
    let bs = c.args.boxes.now in
    let told = c.args.told.now in
    let r = c.args.rule.now in
    let h = rw (c.as_slice.ensures, c.as_slice-2.ensures) at c.in_ok-options.ensures in
    let g = rw (c.as_slice-4.ensures, c.in_ok-choices.ensures, c.as_slice-3.ensures) at c.add_rules.ensures.grows in
    on_ok_weaker c.add_rules.result
    (λ w. grows_to p c.add_rules.new.pairs
    (AddsEach bs told p r (product c.in_ok-options.options) c.args.over.now c.add_rules.new.over)
    (AddsRules bs told p r c.args.over.now c.add_rules.new.over) w
    (adds_rules p bs told r c.in_ok-options.options c.args.over.now c.add_rules.new.over h)) g
