use Rattle.std.proofs.Common.{◌∙◌}
use Rattle.fa_signatures.proofs.PairRules.{roots_low}
use Rattle.fa_signatures.proofs.cutting.auto_over.Goals as goal

pub invariant_of-result : goal.invariant_of-result
invariant_of-result c =
    let k = rw c.as_slice.ensures at c.in_ok-roots.ensures in
    rw (c.in_ok-states.ensures, c.len.ensures, c.in_ok-rules.ensures)
    (roots_low c.args.found.now.pairs c.args.roots.now c.args.marks.now c.in_ok-roots.roots k, c.requires.rules)

pub returns : goal.returns
returns c =
    record {
      states = c.in_ok-states.ensures ∙ c.len.ensures;
      rules = c.in_ok-rules.ensures;
      tops = rw c.as_slice.ensures at c.in_ok-roots.ensures;
    }
