use Rattle.std.proofs.Common.{List, sym, ap, ◌∙◌, subst}
use Rattle.ta_core.specs.Auto.{Automaton, IsRanked}
use Rattle.ta_core.specs.declared.auto.Rule.{Rule}
use Rattle.ta_incl.specs.inner.Founds.{AreDerived}
use Rattle.ta_incl.proofs.Answering.{answer_no, answer_yes, kept_long, same_each}
use Rattle.ta_incl.proofs.including.answered.Goals as goal

pub tree_at-requires-clause-derived : goal.tree_at-requires-clause-derived
tree_at-requires-clause-derived c =
    let e = ap (λ (a : Automaton). a.rules) c.left.view_is in
    rw c.as_slice-in-Some.ensures (
      c.args.right.now,
      subst (λ (rules : List Rule). AreDerived rules c.args.right.now c.in_ok-search.search.found) (sym e)
          c.in_ok-search.ensures.derived,
    )

pub thinned-requires-clause-fresh : goal.thinned-requires-clause-fresh
thinned-requires-clause-fresh c = c.in_ok-search.ensures.fresh

pub thinned-requires-clause-same : goal.thinned-requires-clause-same
thinned-requires-clause-same c = same_each c.args.left.now c.args.right.now c.in_ok-search.search.orders
    c.in_ok-search.search.found c.in_ok-search.ensures

pub pairs_of-requires : goal.pairs_of-requires
pairs_of-requires c =
    let k = rw (← c.right.view_is) at
    (kept_long c.args.left.now c.args.right.now c.in_ok-search.search.orders c.in_ok-search.search.found
    c.in_ok-kept-in-None.kept c.in_ok-search.ensures c.in_ok-kept-in-None.ensures.of) in
    rw c.as_slice-in-None.ensures k

pub returns-in_ok-tree-in-Some : goal.returns-in_ok-tree-in-Some
returns-in_ok-tree-in-Some c =
    let e = ap (λ (a : Automaton). a.rules) c.left.view_is in
    let h =
    rw (
      c.as_slice.ensures ∙ ap (λ (a : Automaton). a.roots) c.left.view_is,
      c.as_slice-2.ensures
          ∙ ap (λ (a : Automaton). a.roots) c.right.view_is,
      c.as_slice-3.ensures,
    ) at c.in-Some.ensures in
    let t = rw (c.as_slice-in-Some.ensures, e) at c.in_ok-tree-in-Some.ensures in
    answer_no c.args.left.now c.args.right.now c.in_ok-search.search.found c.in-Some.place c.in_ok-tree-in-Some.tree
    (t c.args.right.now c.in_ok-search.ensures.derived) h

pub returns-in_ok-pairs-in-None : goal.returns-in_ok-pairs-in-None
returns-in_ok-pairs-in-None c =
    let h =
    rw (
      c.as_slice.ensures ∙ ap (λ (a : Automaton). a.roots) c.left.view_is,
      c.as_slice-2.ensures
          ∙ ap (λ (a : Automaton). a.roots) c.right.view_is,
      c.as_slice-3.ensures,
    ) at c.in-None.ensures in
    let p = rw c.as_slice-in-None.ensures at c.in_ok-pairs-in-None.ensures in
    let pa = subst (λ (a : Automaton). IsRanked a) c.left.view_is c.left.invariant in
    let pb = subst (λ (a : Automaton). IsRanked a) c.right.view_is c.right.invariant in
    answer_yes c.args.left.now c.args.right.now pa pb c.in_ok-search.search.orders c.in_ok-search.search.found
    c.in_ok-kept-in-None.kept c.in_ok-pairs-in-None.pairs c.in_ok-search.ensures c.in_ok-kept-in-None.ensures p h
