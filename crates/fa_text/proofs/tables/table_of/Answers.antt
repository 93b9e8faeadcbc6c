use Rattle.std.proofs.Common.{arith, ◌<◌, length, ap, sym}
use Rattle.fa_written.specs.declared.draft.BoxDraft.{BoxDraft}
use Rattle.fa_text.specs.inner.Next.{IsBroken}
use Rattle.fa_text.proofs.Growing.{next_at, made_more, first_broken, passed}
use Rattle.fa_text.proofs.tables.table_of.Goals as goal

pub add_box-requires-clause-next : goal.add_box-requires-clause-next
add_box-requires-clause-next c =
    next_at c.args.shapes.now c.args.named.now c.loop-i.i c.loop-i.table c.index-named-i.result c.requires.next
    c.loop-i.invariant c.loop-i-test.true c.index-named-i.is

pub returns-in_err-add_box-clause-err : goal.returns-in_err-add_box-clause-err
returns-in_err-add_box-clause-err c =
    let lt = c.loop-i-test.true in
    let long = c.requires.long in
    let few : c.loop-i.i < length c.args.drafts.now = omega (arith, lt, long) in
    passed c.from_residual-in_err-add_box.result (IsBroken c.args.shapes.now c.args.drafts.now c.args.named.now)
    c.in_err-add_box.field-0.0 c.from_residual-in_err-add_box.ensures.1
    (first_broken c.args.shapes.now c.args.drafts.now c.args.named.now c.loop-i.i c.loop-i.table c.index-named-i.result
    c.index-drafts-i.result _ c.in_err-add_box.field-0.0 c.loop-i.invariant c.known.ensures lt c.index-named-i.is few
    c.index-drafts-i.is (ap (λ (d : BoxDraft). d.head.line) (sym c.index-drafts-i.is)) c.in_err-add_box.ensures.err)

pub loop-i-preserved : goal.loop-i-preserved
loop-i-preserved c =
    let made = c.in_ok-add_box.ensures.ok in
    made_more c.args.shapes.now c.args.named.now c.loop-i.i c.loop-i.table c.add_box.new.table c.index-named-i.result
    made.0 c.loop-i.invariant c.loop-i-test.true c.index-named-i.is made.1 made.2 c.add_box.ensures.shapes
