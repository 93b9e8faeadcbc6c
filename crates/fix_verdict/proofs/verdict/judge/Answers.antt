use Rattle.std.proofs.Common.{◌∙◌, ◌≤◌, length, IfOk, sym, subst, arith}
use Rattle.fix_core.specs.declared.explored.Explored.TheVariants.{Spent}
use Rattle.fix_verdict.specs.declared.verdict.Verdict.TheVariants.{FullBudget, Safe}
use Rattle.fix_core.specs.Explorations.{IsExplored}
use Rattle.fix_verdict.specs.Verdicts.{IsVerdict}
use Rattle.fix_verdict.proofs.Judging.{safe_means, if_replayed, if_never_loose, no_heads, runs_go_by, trace_short}
use Rattle.fix_verdict.proofs.verdict.judge.Goals as goal

pub replay_steps-steps-requires : goal.replay_steps-steps-requires
replay_steps-steps-requires c =
    let x = subst (IsExplored c.args.table.now c.args.graph.now c.args.height c.args.budget) c.in-Faulty.is
    c.requires.explored in
    let short : c.in-Faulty.trace.steps ≤ length c.in-Faulty.nodes =
    trace_short c.args.table.now c.args.program.now c.args.mode c.args.graph.now
    (c.graphs_agree.ensures c.requires.lowered) c.requires.shapes c.args.height c.in-Faulty.nodes
    c.in-Faulty.trace x.0 x.1 in
    omega (arith, short, x.2, c.ranges.budget)

pub returns-in-Closed-clause-verdict : goal.returns-in-Closed-clause-verdict
returns-in-Closed-clause-verdict c =
    subst
    (λ z. IsVerdict c.args.table.now c.args.program.now c.args.mode c.args.graph.now c.args.height c.args.budget z Safe)
    (sym c.in-Closed.is)
    (safe_means c.args.table.now c.args.program.now c.args.mode c.args.graph.now
    (c.graphs_agree.ensures c.requires.lowered) c.requires.shapes c.args.height c.args.budget
    c.in-Closed.nodes
    (subst (IsExplored c.args.table.now c.args.graph.now c.args.height c.args.budget) c.in-Closed.is
    c.requires.explored))

pub returns-in-Spent-clause-verdict : goal.returns-in-Spent-clause-verdict
returns-in-Spent-clause-verdict c =
    let T = c.args.table.now in
    let g = c.args.graph.now in
    let x = subst (IsExplored T g c.args.height c.args.budget) c.in-Spent.is c.requires.explored in
    subst (λ z. IsVerdict T c.args.program.now c.args.mode g c.args.height c.args.budget z FullBudget)
    (sym c.in-Spent.is)
    (record {
      explored = x.0;
      full = x.1;
      prefixes = λ free most. c.enough_nodes_decide.ensures.decides T g c.args.height c.args.budget
          (Spent c.in-Spent.nodes) c.known.ensures (c.loop_free_graphs.ensures c.requires.lowered ∙ free) most x;
    })

pub returns-in-Faulty-clause-verdict : goal.returns-in-Faulty-clause-verdict
returns-in-Faulty-clause-verdict c =
    let T = c.args.table.now in
    let p = c.args.program.now in
    let m = c.args.mode in
    let g = c.args.graph.now in
    let x = subst (IsExplored T g c.args.height c.args.budget) c.in-Faulty.is c.requires.explored in
    subst (λ z. IfOk c.judge_trace.result (IsVerdict T p m g c.args.height c.args.budget z)) (sym c.in-Faulty.is)
    (if_replayed T p m g (c.graphs_agree.ensures c.requires.lowered) c.requires.shapes c.args.height
    c.args.budget c.in-Faulty.nodes c.in-Faulty.trace
    (runs_go_by T g c.requires.shapes (c.edges_make_runs.ensures c.requires.lowered))
    (c.edges_in_range.ensures c.requires.lowered)
    c.replay_steps-steps.result c.replay_steps-steps.ensures.trace c.replay_steps-steps.ensures.more x
    c.judge_trace.result
    c.judge_trace.ensures)

pub returns-in-Faulty-clause-loops : goal.returns-in-Faulty-clause-loops
returns-in-Faulty-clause-loops c = λ free.
    let T = c.args.table.now in
    let p = c.args.program.now in
    let m = c.args.mode in
    let g = c.args.graph.now in
    let x = subst (IsExplored T g c.args.height c.args.budget) c.in-Faulty.is c.requires.explored in
    if_never_loose T p m g (c.graphs_agree.ensures c.requires.lowered) c.requires.shapes c.args.height
    c.args.budget c.in-Faulty.nodes c.in-Faulty.trace
    (runs_go_by T g c.requires.shapes (c.edges_make_runs.ensures c.requires.lowered))
    (c.edges_in_range.ensures c.requires.lowered)
    c.replay_steps-steps.result c.replay_steps-steps.ensures.trace c.replay_steps-steps.ensures.more x
    c.judge_trace.result
    (λ location. no_heads g.heads location (c.loop_free_graphs.ensures c.requires.lowered ∙ free)) c.judge_trace.ensures
