use Rattle.std.proofs.Common.{ℕ, ap, length, Option, arith}
use Rattle.fa_core.specs.LeastFolds.{CanFold}
use Rattle.fa_core.specs.declared.forest.Forest.{Forest}
use Rattle.fa_fold.proofs.Seeking.{least_by_roots, none_up_to, site_of}
use Rattle.fa_fold.proofs.least.least_of.Goals as goal

pub returns-in-Some : goal.returns-in-Some
returns-in-Some c =
    least_by_roots c.args.table.now c.args.forest.now.forest c.args.box_no c.loop-input.input c.in-Some.site
    c.loop-input.invariant (rw c.in-Some.is at c.in_ok-site.ensures)

pub loop-input-preserved : goal.loop-input-preserved
loop-input-preserved c = λ i l o can.
    none_up_to
    (λ (k : ℕ). (q : Option ℕ) × CanFold c.args.table.now c.args.forest.now.forest c.args.box_no k q) c.loop-input.input
    (λ k low p. c.loop-input.invariant k low p.0 p.1)
    (λ p. (rw c.in_default.is at c.in_ok-site.ensures) p.0 p.1) i l (o, can)

pub returns : goal.returns
returns c = λ i o can.
    let site = site_of c.args.table.now c.args.forest.now.forest c.args.box_no i o can in
    let count = ap (λ (z : Forest). length z.autos) c.forest.ensures in
    let low = site.input in
    c.loop-input.invariant i (omega (arith, low, c.loop-input-test.false, c.in_ok-count.ensures.value, count)) o can
