use Rattle.std.proofs.Common.{true≢false, sym, ◌∙◌}
use Rattle.fore_base.specs.Lists.{IsIn}
use Rattle.fore_base.proofs.ListLemmas.{every_in}
use Rattle.fa_order.specs.inner.Backs.{SignLeads}
use Rattle.fa_order.proofs.OpenBacks.{first_found, got, more_every, whole_every}
use Rattle.fa_order.proofs.ways_back.first_led.Goals as goal
use Rattle.fa_order.proofs.ways_back.first_led.Goals.{
  else-not-is_in-via-then-not-is_in+else-does_lead,
  else-not-is_in-via-else-not-is_in,
}

pub returns-then-does_lead : goal.returns-then-does_lead
returns-then-does_lead c = (
  (λ i. true≢false (sym (c.is_in.ensures.1 i) ∙ c.if-not-is_in.true)),
  first_found (λ x. SignLeads c.args.marks.now c.args.from c.args.into x) c.args.placed.now c.args.roots.now
      c.loop-root.root-index _ (got c.args.roots.now c.loop-root.root-index c.loop-root-test.true)
      (c.does_lead.ensures.0 c.if-does_lead.true) c.loop-root.invariant,
)

pub loop-root-preserved : goal.loop-root-preserved
loop-root-preserved c =
    more_every c.args.roots.now c.loop-root.root-index
    (λ r. (IsIn r c.args.placed.now → ⊥) → SignLeads c.args.marks.now c.args.from c.args.into r → ⊥)
    c.loop-root-test.true c.loop-root.invariant
    (λ n l. elim c.else-not-is_in.branch [
      | else-not-is_in-via-then-not-is_in+else-does_lead w ↦
          true≢false (sym (w.does_lead.ensures.1 l) ∙ w.if-does_lead.false)
      | else-not-is_in-via-else-not-is_in w ↦ n (c.is_in.ensures.0 w.if-not-is_in.false)
    ])

pub returns : goal.returns
returns c = λ r i n l.
    every_in (λ r. (IsIn r c.args.placed.now → ⊥) → SignLeads c.args.marks.now c.args.from c.args.into r → ⊥)
    c.args.roots.now r
    (whole_every c.args.roots.now c.loop-root.root-index _ c.loop-root-test.false c.loop-root.invariant) i n l
