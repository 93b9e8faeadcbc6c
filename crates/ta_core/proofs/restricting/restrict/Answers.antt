use Rattle.std.proofs.Common.{◌≡◌, refl, ◌∙◌}
use Rattle.ta_core.specs.inner.Restricted.{rank, kept_states, kept_rules}
use Rattle.fore_base.specs.Marks.{marked_count}
use Rattle.ta_core.proofs.Kept.{kept_states_low, kept_rules_proper, table_states, table_rules, rank_below}
use Rattle.ta_core.proofs.restricting.restrict.Goals as goal

pub invariant_of-result : goal.invariant_of-result
invariant_of-result c =
    let marks = c.args.marks.now in
    let roots : c.in_ok-roots.roots ≡ kept_states marks (rank marks) c.auto.inside.roots =
    table_states marks c.as_slice-2.result.now c.auto.inside.roots c.in_ok-roots.roots
    (c.as_slice-2.ensures ∙ c.in_ok-numbers.ensures) (rw c.as_slice.ensures at c.in_ok-roots.ensures) in
    let rules : c.in_ok-rules.rules ≡ kept_rules marks (rank marks) c.auto.inside.rules =
    table_rules marks c.as_slice-4.result.now c.auto.inside.rules c.in_ok-rules.rules
    (c.as_slice-4.ensures ∙ c.in_ok-numbers.ensures) (rw c.as_slice-3.ensures at c.in_ok-rules.ensures) in
    rw (c.count_marked.ensures, roots, rules) (
      kept_states_low marks (rank marks) (marked_count marks) (rank_below marks) c.auto.inside.roots,
      kept_rules_proper marks (rank marks) (marked_count marks) (rank_below marks) c.auto.inside.states
          c.auto.inside.rules c.auto.invariant.1,
    )

pub returns : goal.returns
returns c =
    let marks = c.args.marks.now in
    let roots : c.in_ok-roots.roots ≡ kept_states marks (rank marks) c.auto.inside.roots =
    table_states marks c.as_slice-2.result.now c.auto.inside.roots c.in_ok-roots.roots
    (c.as_slice-2.ensures ∙ c.in_ok-numbers.ensures) (rw c.as_slice.ensures at c.in_ok-roots.ensures) in
    let rules : c.in_ok-rules.rules ≡ kept_rules marks (rank marks) c.auto.inside.rules =
    table_rules marks c.as_slice-4.result.now c.auto.inside.rules c.in_ok-rules.rules
    (c.as_slice-4.ensures ∙ c.in_ok-numbers.ensures) (rw c.as_slice-3.ensures at c.in_ok-rules.ensures) in
    rw (← c.auto.view_is) (rw (c.count_marked.ensures, roots, rules) refl)
