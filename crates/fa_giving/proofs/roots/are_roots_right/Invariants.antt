use Rattle.std.proofs.Common.{true, ℕ, List, ◌<◌, nat_lt}
use Rattle.ta_core.specs.declared.tree.Tree.{Tree}
use Rattle.fa_giving.specs.inner.Totals.{ForAll, IsGivenRight}
use Rattle.fa_giving.proofs.roots.are_roots_right.Given as goal

abbrev pub invariant-loop-place : goal.invariant-loop-place
invariant-loop-place l = ForAll l.autos
    (λ (ts : List Tree). (r f : ℕ) → r < l.place → IsGivenRight l.face (nat_lt r l.ports) r f ts) true
