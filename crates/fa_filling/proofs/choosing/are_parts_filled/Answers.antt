use Rattle.std.proofs.Common.{◌≡◌, ◌+◌, suc, take, true≢false, sym, ◌∙◌, arith}
use Rattle.fa_filling.specs.Parted.{tops_of}
use Rattle.fore_base.proofs.ListLemmas.{drop_item, take_item}
use Rattle.fa_filling.proofs.Fillings.{tops_step, tops_whole}
use Rattle.fa_filling.proofs.choosing.are_parts_filled.Goals as goal

pub returns-then-not-branch : goal.returns-then-not-branch
returns-then-not-branch c =
    let d = drop_item c.args.parts.now c.loop-place.place c.index-parts-place.result c.loop-place-test.true
    c.index-parts-place.is in
    let v = rw d at c.loop-place.invariant.0 in
    let e = rw (c.as_slice.ensures, c.fields_given-above.ensures) at c.in_ok-are_filled_at.ensures.filled in (
      (λ h. absurd (true≢false (sym h))),
      (λ k. absurd (true≢false (sym (e.1 (v.1 k).0) ∙ c.if-not-branch.true))),
    )

pub loop-place-preserved : goal.loop-place-preserved
loop-place-preserved c =
    let d = drop_item c.args.parts.now c.loop-place.place c.index-parts-place.result c.loop-place-test.true
    c.index-parts-place.is in
    let t = take_item c.args.parts.now c.loop-place.place c.index-parts-place.result c.loop-place-test.true
    c.index-parts-place.is in
    let n : suc c.loop-place.place ≡ c.loop-place.place + 1 = omega arith in
    let v = rw (d, n) at c.loop-place.invariant.0 in
    let e = rw (c.as_slice.ensures, c.fields_given-above.ensures) at c.in_ok-are_filled_at.ensures.filled in (
      rw (t, tops_step (take c.loop-place.place c.args.parts.now) c.index-parts-place.result) (
        (λ k. v.0 (e.0 c.if-not-branch.false, k)),
        (λ k. (v.1 k).1),
      ),
      rw (c.set.ensures, c.in_ok-tops_of.ensures, c.as_slice-in-loop-place.ensures)
          (c.in_ok-are_filled_at.ensures.tops.others (tops_of c.index-parts-place.result)
          ∙ tops_whole c.args.parts.now c.loop-place.place c.index-parts-place.result c.index-parts-place.is),
    )
