use Rattle.std.proofs.Common.{◌≡◌, ap, ◌∙◌}
use Rattle.c_typing.specs.ItemSites.{own_params_sites}
use Rattle.c_typing.specs.Globals.{params_of}
use Rattle.c_typing.specs.Scopes.{opened, past_params, past_result}
use Rattle.c_expressions.specs.Meeting.{met}
use Rattle.c_bodies.proofs.StatementLemmas.{after_one, after_two}
use Rattle.c_check.proofs.functions.head_faults.Goals as goal

pub returns-clause-past : goal.returns-clause-past
returns-clause-past c =
    let g = c.args.tables.now in
    let head = c.args.head.now in
    let opened_as : c.enter.new.self ≡ opened (past_result g head c.args.scope.now) =
    c.in_ok-enter.ensures ∙ ap opened c.in_ok-begins.ensures.past in
    c.in_ok-params_faults.ensures.past
    ∙ ap (λ ps. past_params g ps c.enter.new.self) c.params_of.ensures
    ∙ ap (past_params g (params_of head.params)) opened_as

pub returns-clause-found : goal.returns-clause-found
returns-clause-found c =
    let g = c.args.tables.now in
    let head = c.args.head.now in
    let f0 = c.args.found.now in
    let f1 = c.uses_result.new.found in
    let f2 = c.named.new.found in
    let f3 = c.begins.new.found in
    let f4 = c.params_faults.new.found in
    let opened_as : c.enter.new.self ≡ opened (past_result g head c.args.scope.now) =
    c.in_ok-enter.ensures ∙ ap opened c.in_ok-begins.ensures.past in
    after_one g f0 f3 f4 _ _
    (after_two g f0 f1 f2 f3 _ _ _ c.uses_result.ensures c.in_ok-named.ensures.found
    c.in_ok-begins.ensures.found)
    (c.in_ok-params_faults.ensures.found
    ∙ ap (λ ps. met g f3 (own_params_sites g ps c.enter.new.self)) c.params_of.ensures
    ∙ ap (λ s. met g f3 (own_params_sites g (params_of head.params) s)) opened_as)
