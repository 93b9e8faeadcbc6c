use Rattle.std.proofs.Common.{◌∙◌, ◌++◌, ◌∷◌, [], ap}
use Rattle.std.proofs.lemmas.Option.{slice_get_within}
use Rattle.c_cfg.specs.Fans.{choice_list}
use Rattle.fix_trace.proofs.Tracing.{way_starts, way_next, next_inside}
use Rattle.fix_trace.proofs.trace.way_on.Goals as goal

pub down-init : goal.down-init
down-init c = way_starts c.args.nodes.now c.args.back c.args.at c.push.new.self c.new-choices.result c.requires
    (c.in_ok-push.ensures.ok ∙ ap (λ z. z ++ 0 ∷ []) c.new-way.ensures) c.new-choices.ensures

pub head-requires : goal.head-requires
head-requires c =
    let w = next_inside c.args.nodes.now c.down.back c.pop.new.self c.in-Some.next c.args.at c.down.way c.down.choices
    c.down.invariant c.in-Some.ensures in
    slice_get_within c.args.nodes.now c.in-Some.next w.0 w.1

pub down-preserved : goal.down-preserved
down-preserved c =
    let w = next_inside c.args.nodes.now c.down.back c.pop.new.self c.in-Some.next c.args.at c.down.way c.down.choices
    c.down.invariant c.in-Some.ensures in
    rw c.in_ok-push-2.ensures.ok
    (way_next c.args.nodes.now c.down.back c.pop.new.self c.in-Some.next c.args.at c.down.way c.down.choices
    c.in_ok-choices.choices w.0 c.down.invariant c.in-Some.ensures w.1
    (c.in_ok-choices.ensures ∙ ap (λ h. c.down.choices ++ choice_list h.choice) (c.head.ensures w.0 w.1)))
