use Rattle.std.proofs.Common.{ℕ, List, subst, nat_lt, Bool}
use Rattle.ta_core.specs.declared.tree.Tree.{Tree}
use Rattle.fa_giving.specs.inner.Totals.{ForAll, IsGivenRight}
use Rattle.fa_giving.proofs.RootFields.{one_more}
use Rattle.fa_giving.proofs.roots.are_roots_right.Goals as goal

pub loop-place-preserved : goal.loop-place-preserved
loop-place-preserved c =
    let face = c.args.face.now in
    let n = c.loop-place.place in
    let h = subst (λ (b : Bool). ForAll c.args.autos.now (λ (ts : List Tree). (f : ℕ)
    → IsGivenRight face (nat_lt n c.args.ports) n f ts) b) c.if-not-branch.false c.in_ok-is_root_right.ensures in
    λ ts k r f l. one_more {Q = λ r. IsGivenRight face (nat_lt r c.args.ports) r f ts} n
    (λ r j. c.loop-place.invariant ts k r f j) (h ts k f) r l
