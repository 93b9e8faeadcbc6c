-- The verdicts, from what was explored.
use Rattle.std.proofs.Common.{◌≡◌, ◌⊎◌, inl, inr, ◌≤◌, ℕ, suc, zero, List, [], ◌∷◌, length, slice_index_or, Bool}
use Rattle.std.proofs.Common.{true, false, not, Result, Ok, Err, IfOk, refl, sym, ◌∙◌, subst, arith}
use Rattle.std.specs.List.{list_all}
use Rattle.std.proofs.lemmas.Option.{slice_get_within}
use Rattle.fore_base.specs.declared.fault.Fault.{Fault as Kind}
use Rattle.fore_base.specs.declared.shape.Shapes.{Shapes}
use Rattle.fore_base.specs.declared.store.Store.{Store}
use Rattle.fore_base.specs.Lists.{IsIn, Every}
use Rattle.c_types.specs.declared.mode.MallocMode.{MallocMode}
use Rattle.c_types.specs.declared.outcome.Outcome.{Outcome}
use Rattle.c_types.specs.declared.outcome.Outcome.TheVariants.{Ended, Fault, Starved, BadChoice, StillRunning}
use Rattle.c_types.specs.Program.{Program}
use Rattle.c_types.specs.Runs.{run, empty_store}
use Rattle.c_types.specs.Over.{IsOver, IsFault}
use Rattle.c_types.proofs.RunLaws.{run_stays_over, run_met_at}
use Rattle.fa_core.specs.Boxes.{Boxes}
use Rattle.c_cfg.specs.Agreement.{Agrees, IsFaultAt}
use Rattle.c_cfg.specs.Fans.{GoesBy}
use Rattle.c_cfg.specs.GraphRuns.{out_of, at_location, ggo, grun}
use Rattle.c_cfg.specs.Graphs.{ControlGraph}
use Rattle.c_cfg.specs.Ranges.{IsEdgeOf}
use Rattle.c_cfg.specs.declared.graph.Edge.{Edge}
use Rattle.fix_core.specs.declared.explored.AbsTrace.{AbsTrace}
use Rattle.fix_core.specs.declared.explored.Explored.TheVariants.{Closed, Faulty}
use Rattle.fix_core.specs.declared.nodes.Node.{Node}
use Rattle.fix_verdict.specs.declared.verdict.TheConstants.{REPLAY_STEPS}
use Rattle.fix_verdict.specs.declared.verdict.Verdict.{Verdict}
use Rattle.fix_verdict.specs.declared.verdict.Verdict.TheVariants.{Safe, Unsafe, FullBudget, LooseTrace}
use Rattle.fix_core.specs.Explorations.{is_head, IsClosed, Exploration, AbstractTrace, IsExplored}
use Rattle.fix_core.specs.Follows.{IsMember}
use Rattle.fix_verdict.specs.Verdicts.{AreExact, SafeMeans, TraceOf, TraceMeans, IsVerdict, IsNeverLoose}
use Rattle.fix_verdict.specs.inner.Judging.{IsReplayed}
use Rattle.fix_verdict.proofs.Choices.{trace_choices}
use Rattle.fix_verdict.proofs.Concrete.{RunsGoBy, trace_runs, all_exact}
use Rattle.fix_verdict.proofs.Safety.{runs_safe}
use Rattle.fix_trace.proofs.Tracing.{has_ways}
use Rattle.fix_trace.proofs.Tracing.{way_short}

-- a fault has a kind, a line and a step
record FaultParts (o : Outcome) : Type 0 where
  kind : Kind
  line : ℕ
  step : ℕ
  is : o ≡ Fault kind line step

parts : (o : Outcome) → IsFault o → FaultParts o
parts (Ended step) h = absurd h
parts (Fault kind line step) h = record { kind = kind; line = line; step = step; is = refl }
parts (Starved step) h = absurd h
parts (BadChoice index) h = absurd h
parts StillRunning h = absurd h

is_fault : (o : Outcome) (kind : Kind) (line step : ℕ) → o ≡ Fault kind line step → IsFault o
is_fault o kind line step e = subst IsFault (sym e) tt

is_over : (o : Outcome) (kind : Kind) (line step : ℕ) → o ≡ Fault kind line step → IsOver o
is_over o kind line step e = subst IsOver (sym e) tt

-- where no location is a loop head, none is
pub no_heads : (heads : List Bool) (location : ℕ) → list_all not heads ≡ true → slice_index_or heads location false
    ≡ false
no_heads [] location h = refl
no_heads (true ∷ bs) location h = cc
no_heads (false ∷ bs) zero h = refl
no_heads (false ∷ bs) (suc location) h = no_heads bs location h

pub runs_go_by : (T : Boxes) (g : ControlGraph) → g.shapes ≡ T.face.shapes
    → ((location : ℕ) (e : Edge) (s : Store) → IsIn e (out_of g.edges location)
    → GoesBy g.shapes.structs (out_of g.edges location) e s) → RunsGoBy T g
runs_go_by T g same by_edge =
    λ location e s i. subst (λ (z : Shapes). GoesBy z.structs (out_of g.edges location) e s) same
    (by_edge location e s i)

module _ (T : Boxes) (p : Program) (m : MallocMode) (g : ControlGraph) (agrees : Agrees p m g)
    (shapes : g.shapes ≡ T.face.shapes) where
  pub never_faults : (nodes : List Node) → IsClosed T g nodes → (cs : List ℕ) (n : ℕ) → IsFault (run p m cs n) → ⊥
  never_faults nodes closed cs n h =
      let f = parts (run p m cs n) h in
      let at = (agrees.faults cs f.kind f.line).there n (f.step, f.is) in
      runs_safe T g nodes closed shapes cs at.0 (is_fault (grun g cs at.0) f.kind f.line at.1.0 at.1.1)

  module _ (k : ℕ) where
    pub safe_means : (budget : ℕ) (nodes : List Node) → IsExplored T g k budget (Closed nodes)
        → SafeMeans T p m g k budget nodes
    safe_means budget nodes x = record { never = never_faults nodes x.1; explored = x.0; closed = x.1; within = x.2 }

    -- the graph's run on the choices of an exact trace
    graph_faults : (nodes : List Node) (tr : AbsTrace) (s : Store) → RunsGoBy T g → Exploration T g k nodes
        → AbstractTrace T g nodes tr → IsMember T tr.last.forest s → AreExact T nodes tr.nodes
        → grun g tr.choices tr.steps ≡ Fault tr.fault tr.line tr.steps
    unfolding grun
    graph_faults nodes tr s by_edge x a member exact =
        subst
        (λ (z : Shapes). ggo z.structs g.edges (at_location g.edges) tr.steps 0 0 (empty_store g.ptrs g.datums)
        tr.choices 0 ≡ Fault tr.fault tr.line tr.steps) (sym shapes)
        (trace_runs T g k nodes by_edge x tr s a member exact)

    -- the program's run on the choices of an exact trace meets a fault within its steps
    exact_faults : (nodes : List Node) (tr : AbsTrace) (s : Store) → RunsGoBy T g → Exploration T g k nodes
        → AbstractTrace T g nodes tr → IsMember T tr.last.forest s → AreExact T nodes tr.nodes
        → IsFaultAt tr.fault tr.line (run p m tr.choices tr.steps)
    exact_faults nodes tr s by_edge x a member exact =
        let f = graph_faults nodes tr s by_edge x a member exact in
        let n = (agrees.faults tr.choices tr.fault tr.line).back tr.steps (tr.steps, f) in (
          n.2.0,
          run_stays_over p m tr.choices n.0 tr.steps n.1
              (is_over (run p m tr.choices n.0) tr.fault tr.line n.2.0 n.2.1) ∙ n.2.1,
        )

    -- What is known of a trace that was found, and of the run that replays it for this many steps.
    module _ (budget : ℕ) (nodes : List Node) (tr : AbsTrace) (by_edge : RunsGoBy T g)
        (fit : Every (IsEdgeOf g) g.edges) (steps : ℕ)
        (trace_steps : tr.steps ≤ steps) (more_steps : REPLAY_STEPS ≤ steps)
        (x : IsExplored T g k budget (Faulty nodes tr)) where
      trace_of : TraceOf T p m g k budget nodes tr
      trace_of =
          record { explored = x.0; trace = x.1; within = x.2; choices = trace_choices T g k nodes tr fit x.0 x.1 }

      no_fault : (IsFault (run p m tr.choices steps) → ⊥) → (n : ℕ) → (n ≤ REPLAY_STEPS) ⊎ (n ≤ tr.steps)
          → IsFault (run p m tr.choices n) → ⊥
      no_fault none n within fault =
          let less : n ≤ steps = elim within [
            | inl few ↦ omega (arith, few, more_steps)
            | inr few ↦ omega (arith, few, trace_steps)
          ] in
          let f = parts (run p m tr.choices n) fault in
          let same : run p m tr.choices steps ≡ run p m tr.choices n =
          run_stays_over p m tr.choices n steps less
          (is_over (run p m tr.choices n) f.kind f.line f.step f.is) in
          none (is_fault (run p m tr.choices steps) f.kind f.line f.step (same ∙ f.is))

      trace_means : (s : Store) → (IsFault (run p m tr.choices steps) → ⊥) → IsMember T tr.last.forest s
          → TraceMeans T p m g k budget nodes tr s
      trace_means s none member = record {
        of = trace_of;
        no_fault = no_fault none;
        member = member;
        loose = λ exact.
            let f = exact_faults nodes tr s by_edge x.0 x.1 member exact in
            no_fault none tr.steps (inr (omega arith))
            (is_fault (run p m tr.choices tr.steps) tr.fault tr.line f.0 f.1);
      }

      -- what the replay of a trace says is the verdict
      replayed : (v : Verdict) → IsReplayed T p m tr steps v → IsVerdict T p m g k budget (Faulty nodes tr) v
      replayed Safe r = r
      replayed (Unsafe kind line step) r =
          record { of = trace_of; meets = (run_met_at p m tr.choices steps kind line step r).1 }
      replayed FullBudget r = r
      replayed (LooseTrace sample) r = trace_means sample r.0 r.1

      -- without loop heads it is never loose
      never_loose : (v : Verdict) → ((location : ℕ) → is_head g location ≡ false) → IsReplayed T p m tr steps v
          → IsNeverLoose v
      never_loose Safe no_head r = tt
      never_loose (Unsafe kind line step) no_head r = tt
      never_loose FullBudget no_head r = tt
      never_loose (LooseTrace sample) no_head r =
          (trace_means sample r.0 r.1).loose (all_exact T g k nodes by_edge x.0 no_head tr.nodes)

      pub if_replayed : {E : Type 0} (r : Result Verdict E) → IfOk r (IsReplayed T p m tr steps)
          → IfOk r (IsVerdict T p m g k budget (Faulty nodes tr))
      if_replayed (Ok v) h = replayed v h
      if_replayed (Err e) h = tt

      pub if_never_loose : {E : Type 0} (r : Result Verdict E) → ((location : ℕ) → is_head g location ≡ false)
          → IfOk r (IsReplayed T p m tr steps) → IfOk r IsNeverLoose
      if_never_loose (Ok v) no_head h = never_loose v no_head h
      if_never_loose (Err e) no_head h = tt

    -- a trace has no more steps than there are nodes
    pub trace_short : (nodes : List Node) (tr : AbsTrace) → Exploration T g k nodes → AbstractTrace T g nodes tr
        → tr.steps ≤ length nodes
    trace_short nodes tr x a =
        omega (
          arith,
          a.steps,
          way_short nodes a.at tr.nodes a.choices (has_ways T g k nodes x) a.way,
          slice_get_within nodes a.at a.node a.is,
        )
