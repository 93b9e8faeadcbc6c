use Rattle.std.proofs.Common.{ℕ, ap, length, Some, sym, true≢false, ◌∙◌, arith}
use Rattle.fa_core.specs.LeastFolds.{CanFold}
use Rattle.fa_core.specs.declared.forest.Forest.{Forest}
use Rattle.fa_fold.proofs.Seeking.{none_before, none_up_to, site_of}
use Rattle.fa_fold.proofs.least.least_end.Goals as goal

pub returns-then-branch : goal.returns-then-branch
returns-then-branch c = record {
  can = c.in_ok-is_within_by.ensures.0 c.if-branch.true;
  least = none_before (λ (j : ℕ). CanFold c.args.table.now c.args.forest.now.forest c.args.box_no c.args.input (Some j))
      c.loop-end.end c.loop-end.invariant;
}

pub loop-end-preserved : goal.loop-end-preserved
loop-end-preserved c =
    none_up_to (λ (j : ℕ). CanFold c.args.table.now c.args.forest.now.forest c.args.box_no c.args.input (Some j))
    c.loop-end.end c.loop-end.invariant
    (λ can. true≢false (sym (c.in_ok-is_within_by.ensures.1 can) ∙ c.if-branch.false))

pub returns : goal.returns
returns c = λ j can.
    let site = site_of c.args.table.now c.args.forest.now.forest c.args.box_no c.args.input (Some j) can in
    let count = ap (λ (z : Forest). length z.autos) c.forest.ensures in
    let low = site.output in
    c.loop-end.invariant j (omega (arith, low, c.loop-end-test.false, c.in_ok-count.ensures.value, count)) can
