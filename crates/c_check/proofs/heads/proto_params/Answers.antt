use Rattle.std.proofs.Common.{◌+◌, ◌∷◌, ◌++◌, [], List, drop, sym, ◌∙◌}
use Rattle.std.proofs.lemmas.List.{at_drop_all}
use Rattle.c_ast.specs.declared.items.Param.{Param}
use Rattle.c_typing.specs.ItemSites.{param_sites}
use Rattle.c_typing.specs.Scopes.{param_name}
use Rattle.c_typing.specs.Sites.{Defines}
use Rattle.c_typing.specs.declared.meaning.Family.TheVariants.{Parameter}
use Rattle.c_check.specs.inner.Items.{kept_params_sites, with_name}
use Rattle.c_expressions.specs.Meeting.{met}
use Rattle.c_making.proofs.MakingLemmas.{turn}
use Rattle.c_expressions.proofs.MeetingLemmas.{met-append, met-nil}
use Rattle.c_check.proofs.heads.proto_params.Goals as goal

pub loop-param-preserved : goal.loop-param-preserved
loop-param-preserved c =
    let g = c.args.tables.now in
    let found = c.loop-param.found in
    let names = c.loop-param.names in
    let param = c.param-item.result in
    let i = c.loop-param.param-index in
    let params = c.args.params.now in
    let rest : List Param = drop (i + 1) params in
    rw (c.in_ok-proto_param.ensures.names, c.in_ok-proto_param.ensures.found)
    (sym
    (met-append g found (param_sites param ++ Defines Parameter (param_name param) names 0 ∷ [])
    (kept_params_sites (with_name names (param_name param).text) rest))
    ∙ turn (λ (ps : List Param). met g found (kept_params_sites names ps)) params i param c.loop-param-test.true
    c.param-item.is
    ∙ c.loop-param.invariant)

pub returns : goal.returns
returns c =
    let g = c.args.tables.now in
    sym
    (at_drop_all (λ (ps : List Param). met g c.loop-param.found (kept_params_sites c.loop-param.names ps))
    c.args.params.now c.loop-param.param-index c.loop-param-test.false
    ∙ met-nil g c.loop-param.found)
    ∙ c.loop-param.invariant
