use Rattle.std.proofs.Common.{false, sym, ap, ◌∙◌}
use Rattle.c_typing.specs.BodySites.{block_places, block_sites}
use Rattle.c_typing.specs.Scopes.{Scope, outer, outside, past_block}
use Rattle.c_typing.specs.Sites.{Counts}
use Rattle.c_expressions.specs.Meeting.{met}
use Rattle.c_expressions.proofs.MeetingLemmas.{met-one}
use Rattle.c_making.proofs.FunctionLemmas.{outer-past_head}
use Rattle.c_bodies.proofs.StatementLemmas.{after_one}
use Rattle.c_check.proofs.functions.function_faults.Goals as goal

pub move_to-requires : goal.move_to-requires
move_to-requires c =
    let g = c.args.tables.now in
    ap (λ (s : Scope). s.blocks) c.leave.ensures
    ∙ ap outer c.in_ok-block_faults.ensures.blocks
    ∙ ap (λ (s : Scope). outer s.blocks) c.in_ok-head_faults.ensures.past
    ∙ outer-past_head g c.args.head.now c.args.scope.now

pub returns-clause-past : goal.returns-clause-past
returns-clause-past c =
    let g = c.args.tables.now in
    c.move_to.ensures
    ∙ ap (λ (s : Scope). outside s) c.leave.ensures
    ∙ ap outside c.in_ok-block_faults.ensures.past
    ∙ ap (λ s. outside (past_block g c.args.body.now s)) c.in_ok-head_faults.ensures.past

pub returns-clause-found : goal.returns-clause-found
returns-clause-found c =
    let g = c.args.tables.now in
    let body = c.args.body.now in
    let f0 = c.args.found.now in
    let f1 = c.head_faults.new.found in
    let f2 = c.block_faults.new.found in
    let f3 = c.counts.new.found in
    after_one g f0 f1 f3 _ _ c.in_ok-head_faults.ensures.found
    (after_one g f1 f2 f3 _ _
    (c.in_ok-block_faults.ensures.found
    ∙ ap (λ s. met g f1 (block_sites g body false s)) c.in_ok-head_faults.ensures.past)
    (c.counts.ensures ∙ sym (met-one g f2 (Counts (block_places body).within))))
