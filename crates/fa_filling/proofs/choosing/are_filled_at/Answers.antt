use Rattle.std.proofs.Common.{◌+◌, ◌∷◌, [], take, drop, true≢false, sym, ◌∙◌, arith}
use Rattle.ta_core.specs.Language.{IsTrim}
use Rattle.fore_base.proofs.ListLemmas.{every_at, every_push, take_item}
use Rattle.fa_filling.specs.declared.parts.Part.{Part}
use Rattle.fa_filling.specs.Ruled.{IsFilledPart}
use Rattle.fa_filling.specs.Parted.{tops_but, all_tops}
use Rattle.fa_filling.proofs.Fillings.{set_tops, tops_full, tops_set}
use Rattle.fa_filling.proofs.choosing.are_filled_at.Goals as goal

pub is_filled_part-requires-clause-trim : goal.is_filled_part-requires-clause-trim
is_filled_part-requires-clause-trim c =
    every_at (λ (p : Part). IsTrim p.auto) c.args.own.now c.loop-part.part-index c.part-item.result c.requires.own
    c.loop-part-test.true c.part-item.is

pub set-requires : goal.set-requires
set-requires c = omega (arith, c.loop-part.invariant.1.long, c.requires.there)

pub is_filled_part-requires-clause-full : goal.is_filled_part-requires-clause-full
is_filled_part-requires-clause-full c =
    let t = c.as_slice.ensures ∙ rw c.in_ok-alone.ensures at c.set.ensures
    ∙ c.loop-part.invariant.1.others (c.part-item.result.top ∷ []) in
    rw t (tops_full c.args._parts.now c.args.place c.part-item.result.top c.requires.ready)

pub returns-then-not-branch : goal.returns-then-not-branch
returns-then-not-branch c =
    let t = c.as_slice.ensures ∙ rw c.in_ok-alone.ensures at c.set.ensures
    ∙ c.loop-part.invariant.1.others (c.part-item.result.top ∷ [])
    ∙ set_tops c.args._parts.now c.args.place c.part-item.result.top c.requires.there in
    let e = rw t at c.in_ok-is_filled_part.ensures in
    record {
      filled = (
        (λ h. absurd (true≢false (sym h))),
        (λ k.
            absurd
            (true≢false
            (sym
            (e.1
            (every_at
            (λ (p : Part). IsFilledPart c.args.face.now
            (tops_but (all_tops (take c.args.place c.args._parts.now)) p.top
            (drop (c.args.place + 1) c.args._parts.now)) p.auto c.args.above.now) c.args.own.now c.loop-part.part-index
            c.part-item.result k c.loop-part-test.true c.part-item.is)) ∙ c.if-not-branch.true))),
      );
      tops = rw c.set.ensures (tops_set c.args._parts.now c.args.place c.loop-part.tops _ c.loop-part.invariant.1);
    }

pub loop-part-preserved : goal.loop-part-preserved
loop-part-preserved c =
    let t = c.as_slice.ensures ∙ rw c.in_ok-alone.ensures at c.set.ensures
    ∙ c.loop-part.invariant.1.others (c.part-item.result.top ∷ [])
    ∙ set_tops c.args._parts.now c.args.place c.part-item.result.top c.requires.there in
    let e = rw t at c.in_ok-is_filled_part.ensures in
    let i = take_item c.args.own.now c.loop-part.part-index c.part-item.result c.loop-part-test.true c.part-item.is in (
      rw i
          (every_push
          (λ (p : Part). IsFilledPart c.args.face.now
          (tops_but (all_tops (take c.args.place c.args._parts.now)) p.top (drop (c.args.place + 1) c.args._parts.now))
          p.auto c.args.above.now) (take c.loop-part.part-index c.args.own.now) c.part-item.result
          c.loop-part.invariant.0
          (e.0 c.if-not-branch.false)),
      rw c.set.ensures (tops_set c.args._parts.now c.args.place c.loop-part.tops _ c.loop-part.invariant.1),
    )
