use Rattle.std.proofs.Common.{ap, ◌∙◌}
use Rattle.ta_core.specs.Auto.{Automaton}
use Rattle.fa_boxes.proofs.AllSigns.{table_signs, table_uniform}
use Rattle.fa_boxes.proofs.signing.signs_of.Goals as goal

pub returns-in_ok-list-in-Some : goal.returns-in_ok-list-in-Some
returns-in_ok-list-in-Some c =
    let t = rw c.in-Some.is at c.in_ok-seen_each.ensures in
    let l = rw (
      c.as_slice.ensures,
      c.as_slice-in-Some.ensures ∙ ap (λ (b : Automaton). b.roots) c.auto.view_is,
    ) at c.in_ok-list-in-Some.ensures in
    let bs = c.args.boxes.now in
    let a = c.args.auto.now in (
      table_signs bs a c.in-Some.table t c.in_ok-list-in-Some.list l,
      table_uniform bs a c.in-Some.table t,
      l.apart,
    )
