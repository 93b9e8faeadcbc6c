use Rattle.std.proofs.Common.{◌≡◌, true, refl, ap, ◌∙◌, take, rules}
use Rattle.std.proofs.lemmas.Bool.{eq-eqb}
use Rattle.fore_base.proofs.ListLemmas.{in_at, take_item}
use Rattle.ta_core.specs.declared.symbol.Symbol.{Symbol}
use Rattle.fa_core.specs.Cells.{is_leaf}
use Rattle.fa_filling.specs.Parted.{is_of}
use Rattle.fa_filling.proofs.Partition.{structs_add}
use Rattle.fa_filling.proofs.parts.structs_of.Goals as goal

pub returns-in_default : goal.returns-in_default
returns-in_default c =
    let l : is_leaf c.rule-item.result.symbol ≡ true = search rules in (
      c.rule-item.result,
      in_at c.args.rules.now c.loop-rule.rule-index c.rule-item.result c.loop-rule-test.true
          c.rule-item.is,
      l,
    )

pub loop-rule-preserved : goal.loop-rule-preserved
loop-rule-preserved c =
    let e = take_item c.args.rules.now c.loop-rule.rule-index c.rule-item.result c.loop-rule-test.true c.rule-item.is in
    let o : is_of c.in-Cell.shape c.rule-item.result.symbol ≡ true =
    ap (λ (y : Symbol). is_of c.in-Cell.shape y) c.in-Cell.is ∙ eq-eqb c.in-Cell.shape c.in-Cell.shape refl in
    rw e
    (structs_add (take c.loop-rule.rule-index c.args.rules.now) c.rule-item.result c.loop-rule.structs
    c.add.new.numbers c.in-Cell.shape c.loop-rule.invariant o c.in_ok-add-in-Cell.ensures)
