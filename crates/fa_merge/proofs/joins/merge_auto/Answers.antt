use Rattle.fa_merge.proofs.MergedRanks.{merged_ranked}
use Rattle.fa_merge.proofs.joins.merge_auto.Goals as goal

pub invariant_of-result : goal.invariant_of-result
invariant_of-result c = rw (c.in_ok-states.ensures, c.in_ok-roots.ensures, c.in_ok-rules.ensures, c.states_of.ensures)
    (merged_ranked c.args.root c.args.onto.now c.args.last.now c.known.ensures c.known-2.ensures)
