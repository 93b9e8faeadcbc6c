-- Rows on agreement: outcomes of each kind, a program and a graph that agree, and graphs that do not agree with a
-- program.
use Rattle.std.proofs.Common.{◌≡◌, ◌≤◌, ℕ, zero, suc, true, false, List, [], ◌∷◌, refl, sym, subst, arith}
use Rattle.fore_base.specs.declared.fault.Fault.TheVariants.{Leak, Assertion}
use Rattle.fore_base.specs.Heap.{leaks}
use Rattle.c_types.specs.declared.mode.MallocMode.TheVariants.{Always}
use Rattle.c_types.specs.declared.outcome.Outcome.{Outcome}
use Rattle.c_types.specs.declared.outcome.Outcome.TheVariants.{Ended, Fault, Starved, BadChoice, StillRunning}
use Rattle.c_types.specs.declared.program.Act.TheVariants.{SetPtr, SetData, Error, Halt}
use Rattle.c_types.specs.declared.program.PtrRhs.TheVariants.{Null as RhsNull}
use Rattle.c_types.specs.declared.program.DataPath.TheVariants.{Var as DataVar}
use Rattle.c_types.specs.declared.program.DataRhs.TheVariants.{Choice as DataRhsChoice}
use Rattle.c_types.specs.declared.program.Stmt.TheVariants.{Do}
use Rattle.c_types.specs.Program.{Program}
use Rattle.c_types.specs.Runs.{run}
use Rattle.c_types.proofs.Layers.{layers}
use Rattle.c_cfg.specs.declared.graph.PtrArg.TheVariants.{Null as PtrNull}
use Rattle.c_cfg.specs.declared.graph.Instr.TheVariants.{CopyPtr, Kill, Stop}
use Rattle.c_cfg.specs.Graphs.{ControlGraph}
use Rattle.c_cfg.specs.GraphRuns.{grun}
use Rattle.c_cfg.specs.Agreement.{IsFaultAt, IsEnded, IsStarved, IsBadAt, BothCome, Agrees}
use Rattle.c_cfg.proofs.Rows.Forms.{graph, goes, main, var}

-- Outcomes

a_fault : IsFaultAt Leak 3 (Fault Leak 3 8)
a_fault = (8, refl)

another_line : IsFaultAt Leak 3 (Fault Leak 4 8) → ⊥
another_line h = cc h.1

another_kind : IsFaultAt Leak 3 (Fault Assertion 3 8) → ⊥
another_kind h = cc h.1

no_fault : IsFaultAt Leak 3 (Ended 8) → ⊥
no_fault h = cc h.1

an_end : IsEnded (Ended 8)
an_end = (8, refl)

no_end : IsEnded StillRunning → ⊥
no_end h = cc h.1

a_want : IsStarved (Starved 8)
a_want = (8, refl)

no_want : IsStarved (BadChoice 8) → ⊥
no_want h = cc h.1

a_bad_choice : IsBadAt 2 (BadChoice 2)
a_bad_choice = refl

another_choice : IsBadAt 2 (BadChoice 1) → ⊥
another_choice h = cc h

-- { exit(0); } and a graph of one edge agree

abbrev halting : Program
halting = main 0 0 (Do Halt 4 ∷ [])

abbrev stopping : ControlGraph
stopping = graph 2 2 2 (goes 0 1 (Stop false) 4 ∷ []) []

program_waits : (choices : List ℕ) → run halting Always choices 0 ≡ StillRunning
unfolding leaks run
program_waits choices = simp layers refl

program_ends : (choices : List ℕ) (n : ℕ) → run halting Always choices (suc n) ≡ Ended 1
unfolding leaks run
program_ends choices n = simp layers refl

graph_waits : (choices : List ℕ) → grun stopping choices 0 ≡ StillRunning
unfolding leaks grun
graph_waits choices = refl

graph_ends : (choices : List ℕ) (m : ℕ) → grun stopping choices (suc m) ≡ Ended 1
unfolding leaks grun
graph_ends choices m = refl

-- what neither comes to
neither : (Is : Outcome → Type 0) → (Is StillRunning → ⊥) → (Is (Ended 1) → ⊥) → (choices : List ℕ)
    → BothCome halting Always stopping choices Is
neither Is running ended choices = record { there = λ n h. absurd (program n h); back = λ m h. absurd (graph_too m h) }
  where
    program : (n : ℕ) → Is (run halting Always choices n) → ⊥
    program zero h = running (subst Is (program_waits choices) h)
    program (suc n) h = ended (subst Is (program_ends choices n) h)

    graph_too : (m : ℕ) → Is (grun stopping choices m) → ⊥
    graph_too zero h = running (subst Is (graph_waits choices) h)
    graph_too (suc m) h = ended (subst Is (graph_ends choices m) h)

both_end : (choices : List ℕ) → BothCome halting Always stopping choices IsEnded
both_end choices = record { there = λ n h. (1, subst IsEnded (sym (graph_ends choices 0)) (1, refl)); back = back }
  where
    back : (m : ℕ) → IsEnded (grun stopping choices m) → (n : ℕ) × (n ≤ m) × IsEnded (run halting Always choices n)
    back zero h = let h1 : IsEnded StillRunning = subst IsEnded (graph_waits choices) h in absurd (cc h1.1)
    back (suc m) h = (1, omega arith, subst IsEnded (sym (program_ends choices 0)) (1, refl))

both_agree : Agrees halting Always stopping
both_agree = record {
  faults = λ choices kind line. neither (IsFaultAt kind line) (λ h. cc h.1) (λ h. cc h.1) choices;
  ends = both_end;
  starves = λ choices. neither IsStarved (λ h. cc h.1) (λ h. cc h.1) choices;
  bad_choices = λ choices index. neither (IsBadAt index) (λ h. cc h) (λ h. cc h) choices;
}

-- { x0 = NULL; error(); } in the lines 3 and 4

abbrev failing : Program
failing = main 1 0 (Do (SetPtr (var 0) RhsNull) 3 ∷ Do Error 4 ∷ [])

goes_on : run failing Always [] 0 ≡ StillRunning
unfolding leaks run
goes_on = simp layers refl

goes_on_still : run failing Always [] 1 ≡ StillRunning
unfolding leaks run
goes_on_still = simp layers refl

fails : (n : ℕ) → run failing Always [] (suc (suc n)) ≡ Fault Assertion 4 2
unfolding leaks run
fails n = simp layers refl

never_ends : (n : ℕ) → IsEnded (run failing Always [] n) → ⊥
never_ends zero h = let e : IsEnded StillRunning = subst IsEnded goes_on h in cc e.1
never_ends (suc zero) h = let e : IsEnded StillRunning = subst IsEnded goes_on_still h in cc e.1
never_ends (suc (suc n)) h = let e : IsEnded (Fault Assertion 4 2) = subst IsEnded (fails n) h in cc e.1

not_in_one : (n : ℕ) → n ≤ 1 → IsFaultAt Assertion 4 (run failing Always [] n) → ⊥
not_in_one zero less h = let e : IsFaultAt Assertion 4 StillRunning = subst (IsFaultAt Assertion 4) goes_on h in cc e.1
not_in_one (suc zero) less h =
    let e : IsFaultAt Assertion 4 StillRunning = subst (IsFaultAt Assertion 4) goes_on_still h in cc e.1
not_in_one (suc (suc n)) less h = omega (arith, less)

-- a graph whose error is in another line
abbrev of_another_line : ControlGraph
of_another_line = graph 3 3 2 (goes 0 1 (CopyPtr 0 PtrNull) 3 ∷ goes 1 2 (Stop true) 5 ∷ []) []

not_in_that_line : (m : ℕ) → IsFaultAt Assertion 4 (grun of_another_line [] m) → ⊥
unfolding leaks grun
not_in_that_line zero h = cc h.1
not_in_that_line (suc zero) h = cc h.1
not_in_that_line (suc (suc m)) h = cc h.1

refuses_another_line : Agrees failing Always of_another_line → ⊥
refuses_another_line a = let found = (a.faults [] Assertion 4).there 2 (2, fails 0) in not_in_that_line found.0 found.1

-- a graph that ends in place of the error
abbrev of_an_end : ControlGraph
of_an_end = graph 3 3 2 (goes 0 1 (CopyPtr 0 PtrNull) 3 ∷ goes 1 2 (Stop false) 4 ∷ []) []

it_ends : IsEnded (grun of_an_end [] 2)
unfolding leaks grun
it_ends = (2, refl)

refuses_an_end : Agrees failing Always of_an_end → ⊥
refuses_an_end a = let found = (a.ends []).back 2 it_ends in never_ends found.0 found.2

-- a graph that meets the error after one edge, where the program takes two steps
abbrev too_soon : ControlGraph
too_soon = graph 2 3 2 (goes 0 1 (Stop true) 4 ∷ []) []

it_fails : IsFaultAt Assertion 4 (grun too_soon [] 1)
unfolding leaks grun
it_fails = (1, refl)

refuses_too_soon : Agrees failing Always too_soon → ⊥
refuses_too_soon a = let found = (a.faults [] Assertion 4).back 1 it_fails in not_in_one found.0 found.1 found.2

-- { d0 = __VERIFIER_nondet_bool(); } needs a choice, and a graph that needs none does not agree

abbrev choosing : Program
choosing = main 0 1 (Do (SetData (DataVar 0) DataRhsChoice) 3 ∷ [])

wants : run choosing Always [] 1 ≡ Starved 1
unfolding leaks run
wants = simp layers refl

refuses : run choosing Always (2 ∷ []) 1 ≡ BadChoice 0
unfolding leaks run
refuses = simp layers refl

abbrev of_no_choice : ControlGraph
of_no_choice = graph 2 2 3 (goes 0 1 (Kill [] []) 3 ∷ []) []

never_wants : (m : ℕ) → IsStarved (grun of_no_choice [] m) → ⊥
unfolding leaks grun
never_wants zero h = cc h.1
never_wants (suc zero) h = cc h.1
never_wants (suc (suc m)) h = cc h.1

never_refuses : (m : ℕ) → IsBadAt 0 (grun of_no_choice (2 ∷ []) m) → ⊥
unfolding leaks grun
never_refuses zero h = cc h
never_refuses (suc zero) h = cc h
never_refuses (suc (suc m)) h = cc h

refuses_without_wants : Agrees choosing Always of_no_choice → ⊥
refuses_without_wants a = let found = (a.starves []).there 1 (1, wants) in never_wants found.0 found.1

refuses_without_bad_choices : Agrees choosing Always of_no_choice → ⊥
refuses_without_bad_choices a = let found = (a.bad_choices (2 ∷ []) 0).there 1 refuses in never_refuses found.0 found.1
