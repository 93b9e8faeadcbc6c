use Rattle.std.proofs.Common.{◌≡◌, suc, length, List, ◌∷◌, sym, ap, ◌∙◌, arith}
use Rattle.std.proofs.lemmas.Option.{same_Some}
use Rattle.ta_core.specs.Auto.{Automaton}
use Rattle.fa_unfold.proofs.RankedUnfoldings.{hook_inside}
use Rattle.fa_unfold.proofs.UnfoldedAt.{hook_filled, hook_parts, hook_whole, over_of}
use Rattle.fa_unfold.proofs.tables.replace_hook.Goals as goal

pub inside-requires : goal.inside-requires
inside-requires c =
    let t = c.args.table.now in
    let s = c.args.forest.now in
    let over = over_of t s c.requires.face c.known.ensures c.known-2.ensures c.ranked_insides.ensures in
    (hook_inside t s.forest over c.args.root c.args.place c.args.number c.requires.at).there

pub unreachable-requires : goal.unreachable-requires
unreachable-requires c =
    let t = c.args.table.now in
    let s = c.args.forest.now in
    let over = over_of t s c.requires.face c.known.ensures c.known-2.ensures c.ranked_insides.ensures in
    let k = hook_inside t s.forest over c.args.root c.args.place c.args.number c.requires.at in
    let e = same_Some c.inside.result.now (k.input ∷ k.others) (sym c.inside.ensures ∙ k.is) in
    let l : length c.inside.result.now ≡ suc (length k.others) = ap (λ (v : List Automaton). length v) e in
    let below = c.in_default.len_below in
    omega (arith, l, below)

pub unfold_hook-requires-clause-over : goal.unfold_hook-requires-clause-over
unfold_hook-requires-clause-over c =
    rw c.forest-whole.ensures
    (over_of c.args.table.now c.args.forest.now c.requires.face c.known.ensures c.known-2.ensures
    c.ranked_insides.ensures)

pub unfold_hook-requires-clause-at : goal.unfold_hook-requires-clause-at
unfold_hook-requires-clause-at c = rw c.forest-whole.ensures c.requires.at

pub cut_all-requires : goal.cut_all-requires
cut_all-requires c =
    let over = over_of c.args.table.now c.args.forest.now c.requires.face c.known.ensures c.known-2.ensures
    c.ranked_insides.ensures in
    rw (c.face.ensures, c.as_slice.ensures)
    (hook_filled c.args.table.now c.args.forest.now.forest over c.args.root c.args.place c.args.number
    c.requires.at c.in_ok-wholes-in-len1-up.wholes (rw c.forest-whole.ensures at c.in_ok-wholes-in-len1-up.ensures))

pub returns-clause-each : goal.returns-clause-each
returns-clause-each c =
    let over = over_of c.args.table.now c.args.forest.now c.requires.face c.known.ensures c.known-2.ensures
    c.ranked_insides.ensures in
    hook_parts c.args.table.now c.args.forest.now.forest over c.args.root c.args.place c.args.number
    c.requires.at c.in_ok-wholes-in-len1-up.wholes (rw c.forest-whole.ensures at c.in_ok-wholes-in-len1-up.ensures)
    c.in_ok-made-in-len1-up.made
    (rw (c.face.ensures, c.as_slice.ensures) at c.in_ok-made-in-len1-up.ensures.each)

pub returns-clause-whole : goal.returns-clause-whole
returns-clause-whole c =
    let over = over_of c.args.table.now c.args.forest.now c.requires.face c.known.ensures c.known-2.ensures
    c.ranked_insides.ensures in
    hook_whole c.args.table.now c.args.forest.now.forest over c.args.root c.args.place c.args.number
    c.requires.at c.in_ok-wholes-in-len1-up.wholes (rw c.forest-whole.ensures at c.in_ok-wholes-in-len1-up.ensures)
    c.in_ok-made-in-len1-up.made
    (rw c.as_slice.ensures at c.in_ok-made-in-len1-up.ensures.whole)
