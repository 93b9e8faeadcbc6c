use Rattle.std.proofs.Common.{◌+◌, List, drop, sym, ap, ◌∙◌}
use Rattle.std.proofs.lemmas.List.{at_drop_all}
use Rattle.c_ast.specs.declared.items.Param.{Param}
use Rattle.c_typing.specs.Globals.{param_kind, struct_names}
use Rattle.c_typing.specs.ItemSites.{own_param_sites, own_params_sites}
use Rattle.c_typing.specs.Scopes.{declared, param_name, past_params}
use Rattle.c_expressions.specs.Meeting.{met}
use Rattle.c_making.proofs.MakingLemmas.{turn}
use Rattle.c_expressions.proofs.MeetingLemmas.{met-append, met-nil}
use Rattle.c_check.proofs.functions.params_faults.Goals as goal

pub loop-param-preserved : goal.loop-param-preserved
loop-param-preserved c =
    let g = c.args.tables.now in
    let found = c.loop-param.found in
    let scope = c.loop-param.scope in
    let param = c.param-item.result in
    let i = c.loop-param.param-index in
    let params = c.args.params.now in
    let rest : List Param = drop (i + 1) params in
    record {
      past = ap (past_params g rest) c.in_ok-param_faults.ensures.past
          ∙ turn (λ (ps : List Param). past_params g ps scope) params i param c.loop-param-test.true c.param-item.is
          ∙ c.loop-param.invariant.past;
      found = rw (c.in_ok-param_faults.ensures.past, c.in_ok-param_faults.ensures.found)
          (sym
          (met-append g found (own_param_sites g param scope)
          (own_params_sites g rest (declared scope (param_name param).text (param_kind (struct_names g) param))))
          ∙ turn (λ (ps : List Param). met g found (own_params_sites g ps scope)) params i param
          c.loop-param-test.true c.param-item.is
          ∙ c.loop-param.invariant.found);
    }

pub returns-clause-found : goal.returns-clause-found
returns-clause-found c =
    let g = c.args.tables.now in
    sym
    (at_drop_all (λ (ps : List Param). met g c.loop-param.found (own_params_sites g ps c.loop-param.scope))
    c.args.params.now c.loop-param.param-index c.loop-param-test.false
    ∙ met-nil g c.loop-param.found)
    ∙ c.loop-param.invariant.found
