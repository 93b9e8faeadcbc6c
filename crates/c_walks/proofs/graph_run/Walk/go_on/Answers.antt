use Rattle.std.proofs.Common.{rules, ◌≡◌, ◌+◌, Some, drop, sym, ap, ◌∙◌}
use Rattle.c_cfg.specs.GraphRuns.{out_of}
use Rattle.c_walks.specs.inner.Outgoing.{asked, or_rest, rest_of}
use Rattle.c_walks.proofs.EdgeLemmas.{ok_more, one_more}
use Rattle.c_walks.proofs.graph_run.Walk.go_on.Goals as goal

pub returns-in-Ok-clause-goes : goal.returns-in-Ok-clause-goes
returns-in-Ok-clause-goes c =
    let g = c.args.graph.now in let cs = c.args.choices.now in let old = c.args.self.now in let new =
    c.leave.new.self in
    let is : asked (out_of g.edges old.location) ≡ Some c.in-Some.needed = search rules in
    ok_more _ _ c.leave.result
    (λ o h left. one_more g cs left c.args.step old.location old.heap old.used c.in-Some.needed c.or_none.result
    c.supply.new.used new.location new.heap o is
    (λ next. c.in-Ok.ensures.given next
    ∙ ap (λ x. next x (drop c.supply.new.used cs) c.supply.new.used) (sym c.or_none.ensures)) h
    ∙ ap (λ u. or_rest o (rest_of g left (c.args.step + 1) new.location new.heap cs u)) (sym c.leave.ensures.used))
    c.leave.ensures.goes
