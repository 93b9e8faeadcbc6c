use Rattle.std.proofs.Common.{◌≡◌, ◌≤◌, ◌++◌, length, map, List, sym, ap, ◌∙◌}
use Rattle.std.proofs.lemmas.List.{append-nil, drop_all}
use Rattle.ta_core.specs.Auto.{Automaton}
use Rattle.ta_core.specs.declared.auto.Rule.{Rule}
use Rattle.fa_filling.specs.Parted.{fresh_rule, rules_of}
use Rattle.fa_filling.proofs.Chosen.{chosen_proper}
use Rattle.fa_filling.proofs.Partition.{from_rules_of}
use Rattle.fa_filling.proofs.parts.chosen.Goals as goal

pub invariant_of-result : goal.invariant_of-result
invariant_of-result c =
    let a : Automaton = record
    { states = c.auto.inside.states; roots = c.auto.inside.roots; rules = c.auto.inside.rules } in
    let chosen : List Rule = rules_of c.args.shape c.args.tops.now in
    let q = rw (← c.auto.view_is) at c.requires in
    let p = chosen_proper a chosen c.auto.invariant.1 (λ r i. q r (from_rules_of c.args.shape c.args.tops.now r i).0) in
    let s = rw (← c.auto.view_is) at c.in_ok-states.ensures in
    let v = rw (← c.auto.view_is) at c.loop-rule.invariant in
    let l : length c.args.tops.now ≤ c.loop-rule.rule-index = c.loop-rule-test.false in
    let k : c.loop-rule.rules ≡ a.rules ++ map (fresh_rule a) chosen =
    sym (append-nil c.loop-rule.rules)
    ∙ sym
    (ap (λ (rs : List Rule). c.loop-rule.rules ++ map (fresh_rule a) (rules_of c.args.shape rs))
    (drop_all c.loop-rule.rule-index c.args.tops.now l))
    ∙ v
    ∙ ap (λ (rs : List Rule). rs ++ map (fresh_rule a) chosen) c.in_ok-rules.ensures in
    rw (s, c.in_ok-roots.ensures, k) p
