use Rattle.std.proofs.Common.{ap, ◌∙◌}
use Rattle.ta_core.specs.Auto.{Automaton}
use Rattle.fa_boxes.proofs.AllSeen.{settled_table, unsettled_apart}
use Rattle.fa_boxes.proofs.seeing.seen_each.Goals as goal

pub returns-then-not-branch : goal.returns-then-not-branch
returns-then-not-branch c =
    let l = rw (
      c.as_slice.ensures ∙ ap (λ (b : Automaton). b.rules) c.auto.view_is,
      ap (λ (b : Automaton). b.states) c.auto.view_is,
    ) at c.in_ok-table.ensures in
    let n = rw (
      c.as_slice-2.ensures,
      c.as_slice-3.ensures ∙ ap (λ (b : Automaton). b.rules) c.auto.view_is,
      c.if-not-branch.true,
    ) at c.in_ok-are_settled.ensures in
    unsettled_apart c.args.boxes.now c.args.auto.now c.in_ok-table.table l c.known.ensures c.requires n

pub returns : goal.returns
returns c =
    let l = rw (
      c.as_slice.ensures ∙ ap (λ (b : Automaton). b.rules) c.auto.view_is,
      ap (λ (b : Automaton). b.states) c.auto.view_is,
    ) at c.in_ok-table.ensures in
    let h = rw (
      c.as_slice-2.ensures,
      c.as_slice-3.ensures ∙ ap (λ (b : Automaton). b.rules) c.auto.view_is,
      c.if-not-branch.false,
    ) at c.in_ok-are_settled.ensures in
    settled_table c.args.boxes.now c.args.auto.now c.in_ok-table.table l h
