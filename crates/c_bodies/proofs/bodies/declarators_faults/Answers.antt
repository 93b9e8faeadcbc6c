use Rattle.std.proofs.Common.{◌+◌, drop, sym, ap, ◌∙◌}
use Rattle.c_typing.specs.BodySites.{declarator_sites, declarators_sites}
use Rattle.c_typing.specs.Scopes.{all_declared}
use Rattle.c_expressions.specs.Meeting.{met}
use Rattle.c_bodies.proofs.BodyLemmas.{declared_step, declarators_step, declarators_end}
use Rattle.c_bodies.proofs.bodies.declarators_faults.Goals as goal

pub loop-var-preserved : goal.loop-var-preserved
loop-var-preserved c =
    let g = c.args.tables.now in
    let kind = c.args.kind in
    let vars = c.args.vars.now in
    let i = c.loop-var.var-index in
    let var = c.var-item.result in
    record {
      past =
          ap (all_declared kind (drop (i + 1) vars)) c.in_ok-declarator_faults.ensures.past
          ∙ sym (declared_step kind vars i var c.loop-var-test.true c.var-item.is c.loop-var.scope)
          ∙ c.loop-var.invariant.past;
      found =
          ap (λ f. met g f (declarators_sites g kind (drop (i + 1) vars) c.declarator_faults.new.scope))
          c.in_ok-declarator_faults.ensures.found
          ∙ ap
          (λ s. met g (met g c.loop-var.found (declarator_sites g kind c.loop-var.scope var))
          (declarators_sites g kind (drop (i + 1) vars) s)) c.in_ok-declarator_faults.ensures.past
          ∙ sym
          (declarators_step kind vars i var c.loop-var-test.true c.var-item.is g c.loop-var.found c.loop-var.scope)
          ∙ c.loop-var.invariant.found;
    }

pub returns-clause-found : goal.returns-clause-found
returns-clause-found c =
    sym
    (declarators_end c.args.kind c.args.vars.now c.loop-var.var-index c.loop-var-test.false c.args.tables.now
    c.loop-var.found c.loop-var.scope) ∙ c.loop-var.invariant.found
