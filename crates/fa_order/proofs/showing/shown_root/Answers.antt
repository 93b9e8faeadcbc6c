use Rattle.std.proofs.Common.{◌≡◌, ◌∙◌, List, Some, slice_get, ap, subst}
use Rattle.std.proofs.lemmas.Result.{IfOk-weaker}
use Rattle.fore_base.proofs.ListLemmas.{every_in, in_from_place, same_item}
use Rattle.ta_core.specs.Auto.{Automaton}
use Rattle.ta_core.specs.Single.{HasOneTop}
use Rattle.ta_core.specs.declared.auto.Rule.{Rule}
use Rattle.fa_order.specs.inner.Showing.{HasNoRule, IsRuleOf, IsShownBy}
use Rattle.fa_order.proofs.Shows.{has_rule}
use Rattle.fa_order.proofs.showing.shown_root.Goals as goal

pub shown_by-requires-clause-at : goal.shown_by-requires-clause-at
shown_by-requires-clause-at c = rw c.forest.ensures at c.at-auto.ensures

pub shown_by-requires-clause-top : goal.shown_by-requires-clause-top
shown_by-requires-clause-top c =
    let autos = c.args.forest.now.forest.autos in
    let here : slice_get autos c.args.root ≡ Some c.at-auto.result.now = rw c.forest.ensures at c.at-auto.ensures in
    every_in HasOneTop autos c.at-auto.result.now c.requires.tops
    (in_from_place autos c.args.root c.at-auto.result.now here)

pub shown_by-requires-clause-rule : goal.shown_by-requires-clause-rule
shown_by-requires-clause-rule c =
    let rules = c.as_slice.ensures ∙ ap (λ (a : Automaton). a.rules) c.auto.view_is in
    subst (λ (rs : List Rule). IsRuleOf rs c.root_state-state.result c.in-Some.rule.now) rules c.in-Some.ensures

pub unreachable-requires : goal.unreachable-requires
unreachable-requires c =
    let autos = c.args.forest.now.forest.autos in
    let a = c.at-auto.result.now in
    let here : slice_get autos c.args.root ≡ Some a = rw c.forest.ensures at c.at-auto.ensures in
    let top = every_in HasOneTop autos a c.requires.tops (in_from_place autos c.args.root a here) in
    let rules = c.as_slice.ensures ∙ ap (λ (a : Automaton). a.rules) c.auto.view_is in
    has_rule a top c.root_state-state.result c.root_state-state.ensures
    (subst (λ (rs : List Rule). HasNoRule rs c.root_state-state.result) rules c.in-None.ensures)

pub returns : goal.returns
returns c =
    let bs = c.args.forest.now.face.boxes in
    let autos = c.args.forest.now.forest.autos in
    let here : slice_get autos c.args.root ≡ Some c.at-auto.result.now = rw c.forest.ensures at c.at-auto.ensures in
    IfOk-weaker c.shown_by.result (IsShownBy bs c.at-auto.result.now)
    (λ s. (a : Automaton) → slice_get autos c.args.root ≡ Some a → IsShownBy bs a s)
    (λ s h a e. subst (λ (z : Automaton). IsShownBy bs z s) (same_item autos c.args.root c.at-auto.result.now a here e)
    h)
    c.shown_by.ensures
