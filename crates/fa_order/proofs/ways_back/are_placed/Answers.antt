use Rattle.std.proofs.Common.{sym, true≢false, ◌∙◌}
use Rattle.fore_base.proofs.ListLemmas.{in_place}
use Rattle.fa_order.proofs.OpenBacks.{all_of, one_more_in}
use Rattle.fa_order.proofs.ways_back.are_placed.Goals as goal

pub returns-then-not-is_in : goal.returns-then-not-is_in
returns-then-not-is_in c = (
  _,
  in_place c.args.roots.now c.loop-root.root-index 0 c.loop-root-test.true,
  (λ i. true≢false (sym (c.is_in.ensures.1 i) ∙ c.if-not-is_in.true)),
)

pub loop-root-preserved : goal.loop-root-preserved
loop-root-preserved c = one_more_in c.args.roots.now c.args.placed.now c.loop-root.root-index c.loop-root-test.true
    (c.is_in.ensures.0 c.if-not-is_in.false) c.loop-root.invariant

pub returns : goal.returns
returns c = all_of c.args.roots.now c.args.placed.now c.loop-root.root-index c.loop-root-test.false
    c.loop-root.invariant
