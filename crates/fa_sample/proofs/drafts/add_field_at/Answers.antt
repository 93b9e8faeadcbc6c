use Rattle.fa_sample.proofs.Places.{put_at_set, put_at_past}
use Rattle.fa_sample.proofs.drafts.add_field_at.Goals as goal

pub returns-then-at-len : goal.returns-then-at-len
returns-then-at-len c =
    put_at_past c.args.at c.args.field c.args.drafts.now (rw c.len.ensures at c.if-at-len.true)

pub returns : goal.returns
returns c = rw (c.in_ok-draft.ensures, c.as_slice.ensures)
    (put_at_set c.args.at c.args.field c.args.drafts.now c.at_mut-draft.result.now c.at_mut-draft.ensures.value)
