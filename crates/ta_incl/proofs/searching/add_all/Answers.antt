use Rattle.std.proofs.Common.{◌++◌, List, Bool, length, replicate, false, ap, subst, ◌∙◌, arith}
use Rattle.fore_base.proofs.MarkLemmas.{marked_below}
use Rattle.ta_core.specs.Auto.{Automaton, IsRanked}
use Rattle.ta_incl.proofs.Lasting.{lasting_less}
use Rattle.ta_incl.proofs.Searched.{count_old, fails_from, marked_old, search_more, taken_more}
use Rattle.ta_incl.proofs.searching.add_all.Goals as goal

pub returns-clause-search : goal.returns-clause-search
returns-clause-search c =
    let pa = subst (λ (a : Automaton). IsRanked a) c.left.view_is c.left.invariant in
    let untaken = c.in_ok-untaken.ensures ∙ ap (λ n. replicate n false) c.len.ensures in
    let marks = c.in_ok-append.ensures.ok ∙ ap (λ (ms : List Bool). c.args.search.now.taken ++ ms) untaken in
    let lasting = rw (c.as_slice-4.ensures, c.as_slice-6.ensures) at c.in_ok-live.ensures in
    let failing =
    rw (
      c.as_slice.ensures ∙ ap (λ (a : Automaton). a.roots) c.left.view_is,
      c.as_slice-2.ensures
          ∙ ap (λ (a : Automaton). a.roots) c.right.view_is,
      c.as_slice-3.ensures,
    ) at c.failing.ensures in
    search_more c.args.left.now c.args.right.now c.args.orders.now c.args.search.now _ c.args.added pa c.requires.search
    c.in_ok-append-2.ensures.ok c.requires.added
    (taken_more c.args.search.now.found c.args.added c.append-2.new.self c.args.search.now.taken c.append.new.self marks
    c.in_ok-append-2.ensures.ok c.requires.search.taken) lasting
    (fails_from c.args.left.now.roots c.args.right.now.roots c.args.added c.failing.result c.is_some-failed.result
    failing
    c.is_some-failed.ensures)

pub returns-clause-ready : goal.returns-clause-ready
returns-clause-ready c i h =
    let untaken = c.in_ok-untaken.ensures ∙ ap (λ n. replicate n false) c.len.ensures in
    let marks = c.in_ok-append.ensures.ok ∙ ap (λ (ms : List Bool). c.args.search.now.taken ++ ms) untaken in
    let lasting = rw (c.as_slice-4.ensures, c.as_slice-6.ensures) at c.in_ok-live.ensures in
    let t = marked_old c.args.search.now.taken (length c.args.added) i (rw marks at h.1) in
    let l = marked_below c.args.search.now.taken i t in
    let k = c.requires.search.taken in (
      lasting_less c.args.orders.now.left c.args.search.now.found c.args.added c.in_ok-live.live
          c.args.search.now.live i lasting c.requires.search.lasting (omega (arith, l, k)) h.0,
      t,
    )

pub returns-clause-count : goal.returns-clause-count
returns-clause-count c =
    let untaken = c.in_ok-untaken.ensures ∙ ap (λ n. replicate n false) c.len.ensures in
    let marks = c.in_ok-append.ensures.ok ∙ ap (λ (ms : List Bool). c.args.search.now.taken ++ ms) untaken in
    rw marks (count_old c.args.search.now.taken (length c.args.added))
