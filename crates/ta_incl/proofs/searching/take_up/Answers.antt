use Rattle.std.proofs.Common.{List, [], ◌++◌, ap, subst, ◌∙◌}
use Rattle.fore_base.specs.Lists.{Every}
use Rattle.ta_core.specs.Auto.{Automaton}
use Rattle.ta_core.specs.declared.auto.Rule.{Rule}
use Rattle.ta_incl.specs.declared.exploring.Turn.{Turn}
use Rattle.ta_incl.specs.declared.found.Found.{Found}
use Rattle.ta_incl.specs.inner.Founds.{CoversFrom}
use Rattle.ta_incl.proofs.Searched.{on_ok_both, stepped}
use Rattle.ta_incl.proofs.searching.take_up.Goals as goal

pub add_all-requires-clause-added : goal.add_all-requires-clause-added
add_all-requires-clause-added c =
    rw (c.as_slice-3.ensures ∙ ap (λ (a : Automaton). a.rules) c.left.view_is, c.as_slice-4.ensures)
    at c.in_ok-added.ensures.widens

pub returns-clause-covers : goal.returns-clause-covers
returns-clause-covers c =
    let turn : Turn = record { at = c.args.at; ready = c.in_ok-ready.ready } in
    let ready = rw (c.as_slice.ensures, c.as_slice-2.ensures) at c.in_ok-ready.ensures in
    let rules = c.as_slice-3.ensures ∙ ap (λ (a : Automaton). a.rules) c.left.view_is in
    let here = subst (λ (found : List Found). Every
    (λ r. CoversFrom c.args.right.now c.args.orders.now found turn (found ++ c.in_ok-added.added) r [])
    c.as_slice-3.result.now) c.as_slice-4.ensures c.in_ok-added.ensures.covers in
    let now = subst (λ (rs : List Rule). Every
    (λ r. CoversFrom c.args.right.now c.args.orders.now c.args.search.now.found turn
    (c.args.search.now.found ++ c.in_ok-added.added) r []) rs) rules here in
    on_ok_both c.add_all.result _ _ _
    (λ e still. stepped c.args.left.now c.args.right.now c.args.orders.now c.args.search.now c.add_all.new.search
    c.in_ok-added.added turn c.requires.search e still (λ i h. (ready i).1 h) now c.requires.covers)
    c.add_all.ensures.found c.add_all.ensures.ready
