use Rattle.std.proofs.Common.{◌↔◌, ◌∙◌, List, ap, subst, slice_set, IsTrue, flat_map, length}
use Rattle.std.proofs.lemmas.Option.{slice_get_within}
use Rattle.ta_core.specs.declared.symbol.Slot.{Slot}
use Rattle.fa_core.specs.Filled.{covers, fields_of}
use Rattle.fa_core.specs.Rearranged.{often}
use Rattle.fa_core.specs.declared.faces.BoxFace.{BoxFace}
use Rattle.fa_giving.specs.declared.totals.Extremes.{Extremes}
use Rattle.fa_giving.specs.inner.Totals.{total, none_given, extremes_in, extremes_of, AllFit}
use Rattle.fa_giving.specs.inner.Worths.{rule_worth}
use Rattle.fa_giving.proofs.RootFields.{other_right, top_decides}
use Rattle.fa_giving.proofs.roots.is_top_right.Goals as goal

pub total_with-requires : goal.total_with-requires
total_with-requires c = slice_get_within c.args._autos.now c.args.place.root c.args._auto.now c.requires.own

pub returns-in_ok-yes-in-Cell : goal.returns-in_ok-yes-in-Cell
returns-in_ok-yes-in-Cell c =
    let p = c.args.place in
    let bs = c.args.face.now.boxes in
    let w = c.extremes_of-own.ensures ∙ ap extremes_of (c.rule_worth.ensures
    ∙ ap (λ (fs : List BoxFace). rule_worth fs p.root p.field c.args.table.now c.args.top.now) c.as_slice.ensures) in
    let all = extremes_in (length c.args._autos.now) c.args.all.now in
    let e = c.in_ok-sum-in-Cell.ensures ∙ ap (λ (x : Extremes). total none_given (slice_set all p.root x)) w in
    let y = subst (λ (ss : List Slot). IsTrue c.in_ok-yes-in-Cell.yes ↔ AllFit p.port
    (often p.field (fields_of c.args.face.now.shapes.structs c.in-Cell.shape)) (often p.field (flat_map (covers bs) ss))
    c.in_ok-sum-in-Cell.sum) c.as_slice-in-Cell.ensures c.in_ok-yes-in-Cell.ensures in
    top_decides c.args.face.now p.port p.root p.field c.args._autos.now c.args._auto.now c.known.ensures c.requires.own
    c.args.top.now c.requires.rule c.requires.top.0 c.args.table.now all c.requires.trim c.requires.table
    c.requires.all c.in-Cell.shape c.in-Cell.datums c.in-Cell.slots c.in-Cell.is c.in_ok-sum-in-Cell.sum e
    c.in_ok-yes-in-Cell.yes y

pub returns-in_default : goal.returns-in_default
returns-in_default c = let p = c.args.place in
    other_right c.args.face.now p.port p.root p.field c.args._autos.now c.args._auto.now c.known.ensures c.requires.own
    c.args.top.now c.requires.rule c.requires.top.0 (λ s ds ss e. c.in_default.not-Cell s ds ss e)
