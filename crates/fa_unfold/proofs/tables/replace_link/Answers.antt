use Rattle.std.proofs.Common.{◌≡◌, suc, length, List, ◌∷◌, sym, ap, ◌∙◌, arith}
use Rattle.std.proofs.lemmas.Option.{same_Some}
use Rattle.ta_core.specs.Auto.{Automaton}
use Rattle.fa_unfold.proofs.RankedUnfoldings.{link_inside}
use Rattle.fa_unfold.proofs.UnfoldedAt.{link_filled, link_parts, link_whole, over_of}
use Rattle.fa_unfold.proofs.tables.replace_link.Goals as goal

pub inside-requires : goal.inside-requires
inside-requires c =
    let t = c.args.table.now in
    let s = c.args.forest.now in
    let over = over_of t s c.requires.face c.known.ensures c.known-2.ensures c.ranked_insides.ensures in
    (link_inside t s.forest over c.args.root c.args.place c.args.number c.args.end c.requires.at).number

pub unreachable-requires : goal.unreachable-requires
unreachable-requires c =
    let t = c.args.table.now in
    let s = c.args.forest.now in
    let over = over_of t s c.requires.face c.known.ensures c.known-2.ensures c.ranked_insides.ensures in
    let k = link_inside t s.forest over c.args.root c.args.place c.args.number c.args.end c.requires.at in
    let e = same_Some c.inside.result.now (k.first ∷ (k.last ∷ k.inner)) (sym c.inside.ensures ∙ k.inside) in
    let l : length c.inside.result.now ≡ suc (suc (length k.inner)) = ap (λ (v : List Automaton). length v) e in
    let below = c.in_default.len_below in
    omega (arith, l, below)

pub unfold_link-requires-clause-over : goal.unfold_link-requires-clause-over
unfold_link-requires-clause-over c =
    rw c.forest-whole.ensures
    (over_of c.args.table.now c.args.forest.now c.requires.face c.known.ensures c.known-2.ensures
    c.ranked_insides.ensures)

pub unfold_link-requires-clause-at : goal.unfold_link-requires-clause-at
unfold_link-requires-clause-at c = rw c.forest-whole.ensures c.requires.at

pub cut_all-requires : goal.cut_all-requires
cut_all-requires c =
    let over = over_of c.args.table.now c.args.forest.now c.requires.face c.known.ensures c.known-2.ensures
    c.ranked_insides.ensures in
    rw (c.face.ensures, c.as_slice.ensures)
    (link_filled c.args.table.now c.args.forest.now.forest over c.args.root c.args.place c.args.number c.args.end
    c.requires.at c.in_ok-wholes-in-len2-up.wholes (rw c.forest-whole.ensures at c.in_ok-wholes-in-len2-up.ensures))

pub returns-clause-each : goal.returns-clause-each
returns-clause-each c =
    let over = over_of c.args.table.now c.args.forest.now c.requires.face c.known.ensures c.known-2.ensures
    c.ranked_insides.ensures in
    link_parts c.args.table.now c.args.forest.now.forest over c.args.root c.args.place c.args.number c.args.end
    c.requires.at c.in_ok-wholes-in-len2-up.wholes (rw c.forest-whole.ensures at c.in_ok-wholes-in-len2-up.ensures)
    c.in_ok-made-in-len2-up.made
    (rw (c.face.ensures, c.as_slice.ensures) at c.in_ok-made-in-len2-up.ensures.each)

pub returns-clause-whole : goal.returns-clause-whole
returns-clause-whole c =
    let over = over_of c.args.table.now c.args.forest.now c.requires.face c.known.ensures c.known-2.ensures
    c.ranked_insides.ensures in
    link_whole c.args.table.now c.args.forest.now.forest over c.args.root c.args.place c.args.number c.args.end
    c.requires.at c.in_ok-wholes-in-len2-up.wholes (rw c.forest-whole.ensures at c.in_ok-wholes-in-len2-up.ensures)
    c.in_ok-made-in-len2-up.made
    (rw c.as_slice.ensures at c.in_ok-made-in-len2-up.ensures.whole)
