use Rattle.std.proofs.Common.{refl, sym, arith}
use Rattle.std.proofs.lemmas.List.{length-take-le}
use Rattle.std.proofs.lemmas.Option.{slice_get_read}
use Rattle.fore_base.proofs.ListLemmas.{every_at, paired_long, take_item}
use Rattle.ta_core.specs.Language.{IsTrim}
use Rattle.fa_box_rules.specs.Signs.{AreSignsOf}
use Rattle.fa_boxes.proofs.AllParts.{paired_got, none_given, parts_more}
use Rattle.fa_boxes.proofs.ports.all_fields.Goals as goal

pub loop-place-init : goal.loop-place-init
loop-place-init c = rw c.new-fields.ensures (none_given c.args.boxes.now c.args.port)

pub fields_at-requires-clause-there : goal.fields_at-requires-clause-there
fields_at-requires-clause-there c =
    let l = paired_long (AreSignsOf c.args.boxes.now) c.args.autos.now c.args.lists.now c.requires.signs in
    let k = c.loop-place-test.true in
    omega (arith, l, k)

pub fields_at-requires-clause-trim : goal.fields_at-requires-clause-trim
fields_at-requires-clause-trim c = every_at IsTrim c.args.autos.now c.loop-place.place c.index-autos-place.result
    c.requires.trim c.loop-place-test.true c.index-autos-place.is

pub fields_at-requires-clause-signs : goal.fields_at-requires-clause-signs
fields_at-requires-clause-signs c list e =
    paired_got (AreSignsOf c.args.boxes.now) c.args.autos.now c.args.lists.now c.loop-place.place
    c.index-autos-place.result list c.requires.signs
    (slice_get_read c.args.autos.now _ c.loop-place.place c.index-autos-place.result refl c.loop-place-test.true
    c.index-autos-place.is) e

pub returns-in-None : goal.returns-in-None
returns-in-None c =
    let p = rw c.in-None.is at c.in_ok-fields_at.ensures in (
      c.loop-place.place,
      c.index-autos-place.result,
      slice_get_read c.args.autos.now _ c.loop-place.place c.index-autos-place.result refl c.loop-place-test.true
          c.index-autos-place.is,
      p,
    )

pub loop-place-preserved : goal.loop-place-preserved
loop-place-preserved c =
    let a = c.index-autos-place.result in
    let t = take_item c.args.autos.now c.loop-place.place a c.loop-place-test.true c.index-autos-place.is in
    let p = rw c.in-Some.is at c.in_ok-fields_at.ensures in
    let k = c.loop-place-test.true in
    let l = length-take-le c.loop-place.place c.args.autos.now (omega (arith, k)) in
    rw (t, c.in_ok-append-in-Some.ensures.ok)
    (parts_more c.args.boxes.now c.args.port _ a c.loop-place.place c.loop-place.fields c.in-Some.more (sym l)
    c.loop-place.invariant p)
