use Rattle.std.proofs.Common.{◌+◌, drop, sym, ap, ◌∙◌}
use Rattle.c_typing.specs.Scopes.{past_params}
use Rattle.c_scopes.proofs.HeadLemmas.{past_more, past_over, refs_more, refs_over}
use Rattle.c_scopes.proofs.heads.declare_params.Goals as goal

pub loop-param-preserved : goal.loop-param-preserved
loop-param-preserved c =
    let g = c.args.tables.now in
    let params = c.args.params.now in
    let i = c.loop-param.param-index in
    let p = c.param-item.result in
    let rest = drop (i + 1) params in
    record {
      past = ap (past_params g rest) c.in_ok-add_param.ensures.scope
          ∙ past_more g params i p c.loop-param.scope c.loop-param-test.true c.param-item.is
          ∙ c.loop-param.invariant.past;
      refs = rw (c.in_ok-add_param.ensures.refs, c.in_ok-add_param.ensures.scope)
          (refs_more g params i c.loop-param.refs p c.loop-param.scope c.loop-param-test.true c.param-item.is
          ∙ c.loop-param.invariant.refs);
    }

pub returns-clause-refs : goal.returns-clause-refs
returns-clause-refs c =
    sym (refs_over c.args.tables.now c.args.params.now c.loop-param.param-index c.loop-param.refs c.loop-param.scope
    c.loop-param-test.false)
    ∙ c.loop-param.invariant.refs

pub returns-clause-scope : goal.returns-clause-scope
returns-clause-scope c =
    sym (past_over c.args.tables.now c.args.params.now c.loop-param.param-index c.loop-param.scope
    c.loop-param-test.false)
    ∙ c.loop-param.invariant.past
