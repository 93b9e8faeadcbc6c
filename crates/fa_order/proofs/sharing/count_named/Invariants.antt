use Rattle.std.proofs.Common.{◌≡◌, ◌≤◌, ◌+◌, ◌*◌, drop}
use Rattle.fa_merge.specs.inner.Counted.{sum_count}
use Rattle.fa_order.proofs.sharing.count_named.Given as goal

abbrev pub invariant-loop-signature : goal.invariant-loop-signature
invariant-loop-signature l = (l.sum ≤ 2 * l.signature-index)
    × (l.sum + sum_count l.root (drop l.signature-index l.signatures) ≡ sum_count l.root l.signatures)
