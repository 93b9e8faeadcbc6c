use Rattle.std.proofs.Common.{◌++◌, ap, ◌∙◌, map}
use Rattle.ta_core.specs.Auto.{Automaton}
use Rattle.fa_print.specs.Lines.{lines_text, rule_line, by_state}
use Rattle.fa_print.proofs.OrderLemmas.{all_in_order}
use Rattle.fa_print.proofs.components.put_in_order.Goals as goal

pub returns : goal.returns
returns c =
    let table = c.args.table.now in
    let auto = c.auto.inside in
    let same = c.as_slice-rules.ensures in
    let put = rw (same, c.as_slice.ensures) at c.in_ok-put_rules.ensures in
    let placed = rw same at c.in_ok-places.ensures.places in
    put ∙ ap (λ t. c.args.text.now ++ t)
    (all_in_order table auto.rules auto.states c.in_ok-places.places c.in_ok-places.ensures.long placed)
    ∙ ap (λ (a : Automaton). c.args.text.now ++ lines_text (map (rule_line table) (by_state a.rules 0 a.states)))
    c.auto.view_is
