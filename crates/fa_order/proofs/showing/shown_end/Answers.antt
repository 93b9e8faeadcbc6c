use Rattle.std.proofs.Common.{◌≡◌, ap, ◌∙◌}
use Rattle.ta_core.specs.Auto.{Automaton}
use Rattle.fa_merge.proofs.Signatures.{signatures_at}
use Rattle.fa_order.specs.inner.Showing.{has_cell_rule}
use Rattle.fa_order.proofs.Shows.{end_shown}
use Rattle.fa_order.proofs.showing.shown_end.Goals as goal

pub returns : goal.returns
returns c =
    let bs = c.args.forest.now.face.boxes in
    let signed = signatures_at bs c.args.forest.now.forest.autos c.args.root c.args.auto.now
    c.known.ensures.sound.well_formed.signatures c.requires.at in
    let cell : c.has_cell_rule-leaf.result ≡ has_cell_rule c.args.inhabited.now c.args.state c.args.auto.now.rules =
    c.has_cell_rule-leaf.ensures
    ∙ ap (has_cell_rule c.args.inhabited.now c.args.state)
    (c.as_slice.ensures ∙ ap (λ (a : Automaton). a.rules) c.auto.view_is) in
    rw cell
    (end_shown c.args.auto.now.rules c.args.auto.now.states c.args.inhabited.now c.requires.inhabited c.args.state
    bs (signed.states c.args.state) c.requires.tree c.in_ok-marks.marks
    (λ t h. c.in_ok-marks.ensures ∙ c.signature.ensures.trees c.args.auto.now t c.requires.at h))
