use Rattle.std.proofs.Common.{◌≡◌, ◌+◌, ◌-◌, ℕ, suc, ap, ◌∙◌, arith}
use Rattle.c_walks.specs.inner.Outgoing.{or_rest, rest_of}
use Rattle.c_walks.proofs.graph_run.Walk.go_all.Goals as goal

pub loop-step-init : goal.loop-step-init
loop-step-init c =
    let w = c.args.self.now in
    let all : c.args.limit ≡ c.args.limit - 0 = omega arith in
    record {
      goes = c.requires.begun
          ∙ ap (λ n. rest_of c.args.graph.now n 0 w.location w.heap c.args.choices.now w.used) all;
      next = omega (arith, c.requires.next);
      used = c.requires.used;
    }

pub loop-step-preserved : goal.loop-step-preserved
loop-step-preserved c =
    let g = c.args.graph.now in let cs = c.args.choices.now in let old = c.loop-step.self in let new =
    c.go_on.new.self in
    let step = c.loop-step.step in
    let left : ℕ = c.args.limit - (step + 1) in
    let number : c.args.limit - step ≡ suc left = omega arith in
    record {
      goes = c.loop-step.invariant.goes
          ∙ ap (λ n. rest_of g n step old.location old.heap cs old.used) number
          ∙ c.in_ok-outcome.ensures.goes left
          ∙ ap (λ o. or_rest o (rest_of g left (step + 1) new.location new.heap cs new.used)) c.in-None.is;
      next = omega (arith, c.go_on.ensures.next, c.loop-step.invariant.next);
      used = c.go_on.ensures.used;
    }
