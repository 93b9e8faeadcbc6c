use Rattle.std.proofs.Common.{◌-◌, inl, inr, ℕ, true≢false, sym, subst, ◌∙◌, arith}
use Rattle.fa_merge.specs.Merged.{CanMerge}
use Rattle.fa_canon.proofs.Settled.{same_or_not}
use Rattle.fa_canon.proofs.merging.last_merge.Goals as goal

pub returns-then-branch : goal.returns-then-branch
returns-then-branch c = record {
  can = c.in_ok-can_merge.ensures.0 c.if-branch.true;
  last = λ k l. c.loop-root.invariant.1 k (omega (arith, l));
}

pub loop-root-preserved : goal.loop-root-preserved
loop-root-preserved c = (
  omega arith,
  λ k l can. elim (same_or_not k (c.loop-root.root - 1)) [
    | inl e ↦ true≢false
        (sym (c.in_ok-can_merge.ensures.1 (subst (λ (n : ℕ). CanMerge c.args.forest.now.forest n) e can))
        ∙ c.if-branch.false)
    | inr d ↦ c.loop-root.invariant.1 k (omega (arith, l, d)) can
  ],
)

pub returns : goal.returns
returns c = λ r can. c.loop-root.invariant.1 r (omega (arith, c.loop-root-test.false)) can
