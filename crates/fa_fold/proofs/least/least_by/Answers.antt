use Rattle.std.proofs.Common.{ℕ, Option, arith}
use Rattle.fa_core.specs.LeastFolds.{CanFold}
use Rattle.fa_fold.proofs.BoxFields.{fields_at, fields_low}
use Rattle.fa_fold.proofs.FoldSites.{box_low}
use Rattle.fa_fold.proofs.Seeking.{least_by_boxes, none_up_to}
use Rattle.fa_fold.proofs.least.least_by.Goals as goal

pub at-own-requires : goal.at-own-requires
at-own-requires c =
    let low = c.loop-box_no-test.true in
    let size = c.len-box_no-end.ensures in
    fields_low c.args.table.now c.args.fields.now c.requires c.loop-box_no.box_no (omega (arith, low, size))

pub least_of-requires-clause-fields : goal.least_of-requires-clause-fields
least_of-requires-clause-fields c =
    fields_at c.args.table.now c.args.fields.now c.requires c.loop-box_no.box_no c.at-own.result.now c.at-own.ensures

pub returns-in-Some : goal.returns-in-Some
returns-in-Some c =
    least_by_boxes c.args.table.now c.args.forest.now.forest c.loop-box_no.box_no c.in-Some.site
    c.loop-box_no.invariant (rw c.in-Some.is at c.in_ok-site.ensures)

pub loop-box_no-preserved : goal.loop-box_no-preserved
loop-box_no-preserved c = λ n l i o can.
    none_up_to
    (λ (k : ℕ). (j : ℕ) × (q : Option ℕ) × CanFold c.args.table.now c.args.forest.now.forest k j q) c.loop-box_no.box_no
    (λ k low p. c.loop-box_no.invariant k low p.0 p.1 p.2)
    (λ p. (rw c.in_default.is at c.in_ok-site.ensures) p.0 p.1 p.2) n l (i, o, can)

pub returns : goal.returns
returns c = λ n i o can.
    let low = box_low c.args.table.now c.args.forest.now.forest n i o can in
    c.loop-box_no.invariant n (omega (arith, low, c.loop-box_no-test.false, c.len-box_no-end.ensures)) i o can
