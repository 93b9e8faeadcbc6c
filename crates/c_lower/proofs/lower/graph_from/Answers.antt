use Rattle.std.proofs.Common.{rules, arith, ◌≡◌, ◌+◌, ◌<◌, ◌^◌, List, length, true, false, replicate, sym, subst}
use Rattle.fore_base.specs.Lists.{Every}
use Rattle.fore_base.specs.Stores.{set_each}
use Rattle.c_cfg.specs.declared.graph.Edge.{Edge}
use Rattle.c_cfg.specs.Graphs.{HasItsChoice}
use Rattle.c_cfg.specs.Lowering.{LowerOf}
use Rattle.c_lower.specs.inner.Emitting.{in_loop, wide_all, emit_all, heads_all}
use Rattle.c_links.specs.Failing.{edges_in}
use Rattle.c_lower.proofs.Lowered.{graph_of, heads_long, choices_told, built}
use Rattle.c_lower.proofs.lower.graph_from.Goals as goal

pub invariant_of-result : goal.invariant_of-result
invariant_of-result c =
    let p = c.args.program.now in let e = c.in_ok-exit.exit in
    let exit : e ≡ wide_all p.funcs (length p.funcs) (length p.vars) (length p.data_vars) p.body = search rules in
    let edges : c.in_ok-sure.sure ≡ emit_all p.funcs (length p.funcs) (length p.vars) (length p.data_vars) e p.body
    (in_loop e e e) 0 e =
    search rules in
    let all : c.in_ok-edges.edges ≡ edges_in c.args.mode c.in_ok-sure.sure = search rules in
    let heads : c.in_ok-heads.heads
    ≡ set_each (replicate (e + 1) false) (heads_all p.funcs (length p.funcs) (length p.vars) (length p.data_vars) p.body
    0) true =
    search rules in
    let locations : c.in_ok-locations.locations ≡ e + 1 = search rules in
    let few : length c.in_ok-edges.edges < 2 ^ 32 = search rules in
    record {
      entry = omega (arith, locations);
      heads = omega (arith, locations, heads_long p e exit c.in_ok-heads.heads heads);
      few = few;
      choices = subst (Every HasItsChoice) (sym all)
          (choices_told p e exit c.args.mode c.in_ok-sure.sure edges);
    }

pub returns : goal.returns
returns c =
    let p = c.args.program.now in let e = c.in_ok-exit.exit in
    let exit : e ≡ wide_all p.funcs (length p.funcs) (length p.vars) (length p.data_vars) p.body = search rules in
    let edges : c.in_ok-sure.sure ≡ emit_all p.funcs (length p.funcs) (length p.vars) (length p.data_vars) e p.body
    (in_loop e e e) 0 e =
    search rules in
    let all : c.in_ok-edges.edges ≡ edges_in c.args.mode c.in_ok-sure.sure = search rules in
    let heads : c.in_ok-heads.heads
    ≡ set_each (replicate (e + 1) false) (heads_all p.funcs (length p.funcs) (length p.vars) (length p.data_vars) p.body
    0) true =
    search rules in
    let locations : c.in_ok-locations.locations ≡ e + 1 = search rules in
    let ptrs : c.all_ptrs.result ≡ length p.vars + 2 = search rules in
    let datums : c.all_datums.result ≡ length p.data_vars + 2 = search rules in
    let shapes : c.in_ok-shapes.shapes ≡ p.shapes = search rules in
    subst
    (λ (es : List Edge). LowerOf p c.args.mode
    (graph_of p c.in_ok-locations.locations c.all_ptrs.result c.all_datums.result es c.in_ok-heads.heads
    c.in_ok-shapes.shapes)) (sym all)
    (built p e exit c.args.mode c.in_ok-locations.locations c.all_ptrs.result c.all_datums.result c.in_ok-sure.sure
    c.in_ok-heads.heads c.in_ok-shapes.shapes locations ptrs datums edges heads shapes)
