use Rattle.std.proofs.Common.{◌<◌, length, ap, ◌∙◌, arith}
use Rattle.fore_base.specs.Marks.{marked_count}
use Rattle.fore_base.proofs.MarkLemmas.{count_set, count_within, marked_below}
use Rattle.ta_incl.proofs.Lasting.{lasting_long}
use Rattle.ta_incl.proofs.Searched.{explored_all, explored_failed, no_mark, taken_covers}
use Rattle.ta_incl.proofs.searching.take_next.Goals as goal
use Rattle.ta_incl.proofs.searching.take_next.Goals.{then-search-via-then-search}
use Rattle.ta_incl.proofs.searching.take_next.Goals.{then-search-via-else-search+then-len-limit}

pub returns-then-search-clause-changes : goal.returns-then-search-clause-changes
returns-then-search-clause-changes c = elim c.then-search.branch [
  | then-search-via-then-search w ↦ λ _.
      explored_failed c.args.left.now c.args.right.now c.args.orders.now c.args.search.now c.requires.upward
      c.requires.search w.if-search.true
  | then-search-via-else-search+then-len-limit w ↦ λ l.
      let m = w.if-len-limit.true in
      let n = w.len.ensures in
      absurd (omega (arith, l, m, n))
]

pub set-requires : goal.set-requires
set-requires c =
    let o = rw (c.as_slice.ensures, c.as_slice-2.ensures) at c.in-Some.ensures.open in
    let l = marked_below c.args.search.now.live c.in-Some.place o.0 in
    let k = lasting_long c.args.orders.now.left c.args.search.now.found c.args.search.now.live c.requires.search.lasting
    in
    let n = c.requires.search.taken in
    omega (arith, l, k, n)

pub take_up-requires-clause-covers : goal.take_up-requires-clause-covers
take_up-requires-clause-covers c =
    rw c.set.ensures
    (taken_covers c.args.left.now c.args.right.now c.args.orders.now c.args.search.now c.in-Some.place
    c.requires.covers)

pub returns-in_ok-take_up-in-Some-clause-changes : goal.returns-in_ok-take_up-in-Some-clause-changes
returns-in_ok-take_up-in-Some-clause-changes c =
    let o = rw (c.as_slice.ensures, c.as_slice-2.ensures) at c.in-Some.ensures.open in
    let l = marked_below c.args.search.now.live c.in-Some.place o.0 in
    let k = lasting_long c.args.orders.now.left c.args.search.now.found c.args.search.now.live c.requires.search.lasting
    in
    let n = c.requires.search.taken in
    let low : c.in-Some.place < length c.args.search.now.taken = omega (arith, l, k, n) in
    let more = count_set c.args.search.now.taken c.in-Some.place
    (no_mark c.args.search.now.taken c.in-Some.place low o.1) in
    let e = c.in_ok-take_up-in-Some.ensures.count ∙ ap marked_count c.set.ensures ∙ more in
    let within = count_within c.args.search.now.taken in
    let long = rw c.as_slice.ensures at c.last_open.ensures.long in
    omega (arith, e, within, long, k, n)

pub returns-in-None-clause-changes : goal.returns-in-None-clause-changes
returns-in-None-clause-changes c = λ _.
    let o = rw (c.as_slice.ensures, c.as_slice-2.ensures) at c.in-None.ensures.open in
    explored_all c.args.left.now c.args.right.now c.args.orders.now c.args.search.now c.known.ensures c.known-2.ensures
    c.requires.upward c.requires.search c.requires.covers o
