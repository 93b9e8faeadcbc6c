use Rattle.std.proofs.Common.{Bool, false, sym, ap, ◌∙◌, List, get_or}
use Rattle.std.proofs.lemmas.Bool.{and_left as and_false}
use Rattle.ta_core.proofs.Tops.{and_true, marked_differ, marked_step}
use Rattle.ta_core.proofs.accepting.are_marked_each.Goals as goal

pub returns-then-states-len : goal.returns-then-states-len
returns-then-states-len c =
    marked_differ c.args.states.now c.args.sets.now (λ e. c.if-states-len.true (e ∙ sym c.len.ensures))

pub returns-then-not-is_marked : goal.returns-then-not-is_marked
returns-then-not-is_marked c =
    let s = marked_step c.args.states.now c.args.sets.now c.loop-place.place c.at.result.now c.loop-place-test.true
    c.at.ensures in
    let m = ap (λ (marks : List Bool). get_or marks (get_or c.args.states.now c.loop-place.place 0) false)
    (sym c.as_slice.ensures) ∙ sym c.is_marked.ensures ∙ c.if-not-is_marked.true in
    sym (sym c.loop-place.invariant ∙ s ∙ and_false _ _ m)

pub loop-place-preserved : goal.loop-place-preserved
loop-place-preserved c =
    let s = marked_step c.args.states.now c.args.sets.now c.loop-place.place c.at.result.now c.loop-place-test.true
    c.at.ensures in
    let m = ap (λ (marks : List Bool). get_or marks (get_or c.args.states.now c.loop-place.place 0) false)
    (sym c.as_slice.ensures) ∙ sym c.is_marked.ensures ∙ c.if-not-is_marked.false in
    sym (and_true _ _ m) ∙ sym s ∙ c.loop-place.invariant
