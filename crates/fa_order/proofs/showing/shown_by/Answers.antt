use Rattle.std.proofs.Common.{◌∙◌, ◌<◌, ℕ, List, ap, subst}
use Rattle.fore_base.proofs.ListLemmas.{every_in}
use Rattle.ta_core.specs.Auto.{IsRankedRule}
use Rattle.ta_core.specs.Language.{HasTree}
use Rattle.fa_core.specs.Filled.{HasSome}
use Rattle.fa_merge.proofs.Signatures.{signatures_at}
use Rattle.fore_base.proofs.ListLemmas.{in_from_place}
use Rattle.fa_order.specs.inner.Showing.{IsShownEnd, states_under}
use Rattle.fore_base.specs.Lists.{Paired}
use Rattle.fa_order.proofs.Shows.{children_have_trees, top_shown, under_every}
use Rattle.fa_order.proofs.showing.shown_by.Goals as goal

pub shown_ends-requires-clause-below : goal.shown_ends-requires-clause-below
shown_ends-requires-clause-below c =
    let a = c.args.auto.now in
    let o = c.args.rule.now in
    rw (c.as_slice-2.ensures, c.in_ok-states.ensures, c.as_slice.ensures)
    (under_every (λ q. q < a.states) o.symbol o.children
    (every_in (IsRankedRule a.states) a.rules o c.known-2.ensures.1 c.requires.rule.0).1)

pub shown_ends-requires-clause-trees : goal.shown_ends-requires-clause-trees
shown_ends-requires-clause-trees c =
    let a = c.args.auto.now in
    let o = c.args.rule.now in
    let bs = c.args.forest.now.face.boxes in
    let autos = c.args.forest.now.forest.autos in
    let signed = signatures_at bs autos c.args.root a c.known.ensures.sound.well_formed.signatures c.requires.at in
    let some = every_in HasSome autos a c.known.ensures.sound.full (in_from_place autos c.args.root a c.requires.at) in
    rw (c.as_slice-2.ensures, c.in_ok-states.ensures, c.as_slice.ensures)
    (under_every (HasTree a.rules) o.symbol o.children
    (children_have_trees bs a c.known-2.ensures signed c.requires.top c.args.state c.requires.state o c.requires.rule
    some))

pub returns : goal.returns
returns c =
    let a = c.args.auto.now in
    let o = c.args.rule.now in
    let bs = c.args.forest.now.face.boxes in
    let autos = c.args.forest.now.forest.autos in
    let signed = signatures_at bs autos c.args.root a c.known.ensures.sound.well_formed.signatures c.requires.at in
    let some = every_in HasSome autos a c.known.ensures.sound.full (in_from_place autos c.args.root a c.requires.at) in
    top_shown bs a c.known-2.ensures signed c.requires.top c.args.state c.requires.state o c.requires.rule some
    c.in_ok-marks.marks (λ t h. c.in_ok-marks.ensures ∙ c.signature.ensures.trees a t c.requires.at h)
    c.in_ok-ends.ends
    (subst (λ (qs : List ℕ). Paired (IsShownEnd bs a.rules) qs c.in_ok-ends.ends)
    (c.as_slice-2.ensures ∙ c.in_ok-states.ensures ∙ ap (states_under o.symbol) c.as_slice.ensures)
    c.in_ok-ends.ensures)
