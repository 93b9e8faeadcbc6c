-- Rows on runs of graphs.
use Rattle.std.proofs.Common.{◌≡◌, true, false, None, [], ◌∷◌, refl}
use Rattle.fore_base.specs.declared.fault.Fault.TheVariants.{NullDeref, UninitDeref, Leak, Assertion, IndetTest}
use Rattle.fore_base.specs.Heap.{leaks}
use Rattle.c_types.specs.declared.outcome.Outcome.TheVariants.{Ended, Fault, Starved, BadChoice, StillRunning}
use Rattle.c_cfg.specs.declared.graph.PtrArg.TheVariants.{Var as PtrVar, Null as PtrNull}
use Rattle.c_cfg.specs.declared.graph.DataArg.TheVariants.{Var as ArgVar, Known as ArgKnown}
use Rattle.c_cfg.specs.declared.graph.Instr.TheVariants.{CopyPtr, LoadPtr, New, Kill, CopyData, TestPtr, TestData}
use Rattle.c_cfg.specs.declared.graph.Instr.TheVariants.{Choose, Stop}
use Rattle.c_cfg.specs.declared.graph.Edge.{Edge}
use Rattle.c_cfg.specs.Graphs.{ControlGraph}
use Rattle.c_cfg.specs.GraphRuns.{out_of, grun}
use Rattle.c_cfg.proofs.Rows.Forms.{graph, goes, takes}

-- the edges of a location, in the order of the list
leaving : out_of (goes 1 2 (Stop true) 5 ∷ goes 0 1 (Stop false) 6 ∷ goes 1 0 (Stop false) 7 ∷ []) 1
    ≡ goes 1 2 (Stop true) 5 ∷ goes 1 0 (Stop false) 7 ∷ []
leaving = refl

leaving_nowhere : out_of (goes 1 2 (Stop true) 5 ∷ []) 2 ≡ []
leaving_nowhere = refl

-- no edge begins at the entry
no_edge : grun (graph 1 0 0 [] []) (1 ∷ []) 0 ≡ Ended 0
unfolding leaks grun
no_edge = refl

-- 0 --x0 = NULL--> 1 --x0 = x0->f--> 2
abbrev null_then_load : ControlGraph
null_then_load = graph 3 1 0 (goes 0 1 (CopyPtr 0 PtrNull) 4 ∷ goes 1 2 (LoadPtr 0 0 0) 7 ∷ []) []

none_yet : grun null_then_load [] 0 ≡ StillRunning
unfolding leaks grun
none_yet = refl

one_taken : grun null_then_load [] 1 ≡ StillRunning
unfolding leaks grun
one_taken = refl

-- the second edge, of line 7
faults : grun null_then_load [] 2 ≡ Fault NullDeref 7 2
unfolding leaks grun
faults = refl

faults_with_more : grun null_then_load [] 9 ≡ Fault NullDeref 7 2
unfolding leaks grun
faults_with_more = refl

-- every variable is Uninit at the start
starts_unset : grun (graph 2 1 0 (goes 0 1 (LoadPtr 0 0 0) 7 ∷ []) []) [] 1 ≡ Fault UninitDeref 7 1
unfolding leaks grun
starts_unset = refl

starts_undefined : grun (graph 2 0 1 (goes 0 1 (TestData (ArgVar 0) (ArgKnown 0) true) 7 ∷ []) []) [] 1
    ≡ Fault IndetTest 7 1
unfolding leaks grun
starts_undefined = refl

-- the graph's own structs
makes_cells : grun (graph 3 1 0 (goes 0 1 (New 0 0) 4 ∷ goes 1 2 (LoadPtr 0 0 1) 5 ∷ []) []) [] 2 ≡ Fault Leak 5 2
unfolding leaks grun
makes_cells = refl

-- the end by a last edge, by Stop, by an error
ends_by_an_edge : grun (graph 2 0 0 (goes 0 1 (Kill [] []) 4 ∷ []) []) [] 1 ≡ Ended 1
unfolding leaks grun
ends_by_an_edge = refl

ends_by_a_stop : grun (graph 3 0 0 (goes 0 1 (Kill [] []) 4 ∷ goes 1 0 (Stop false) 5 ∷ []) []) [] 2 ≡ Ended 2
unfolding leaks grun
ends_by_a_stop = refl

ends_in_error : grun (graph 1 0 0 (goes 0 0 (Stop true) 5 ∷ []) []) [] 3 ≡ Fault Assertion 5 1
unfolding leaks grun
ends_in_error = refl

-- Choices: 0 leads to the end, 1 back to the choice

abbrev waiting : ControlGraph
waiting = graph 2 0 0 (takes 0 1 (Choose None) 0 3 ∷ takes 0 0 (Choose None) 1 3 ∷ []) []

takes_zero : grun waiting (0 ∷ []) 4 ≡ Ended 1
unfolding leaks grun
takes_zero = refl

takes_one_and_zero : grun waiting (1 ∷ 1 ∷ 0 ∷ 9 ∷ []) 4 ≡ Ended 3
unfolding leaks grun
takes_one_and_zero = refl

takes_too_many : grun waiting (1 ∷ []) 4 ≡ Starved 2
unfolding leaks grun
takes_too_many = refl

takes_a_bad_one : grun waiting (1 ∷ 2 ∷ []) 4 ≡ BadChoice 1
unfolding leaks grun
takes_a_bad_one = refl

takes_none_without_edges_left : grun waiting [] 0 ≡ StillRunning
unfolding leaks grun
takes_none_without_edges_left = refl

-- the order in which the two edges stand has no bearing
abbrev one_first : ControlGraph
one_first = graph 2 0 0 (takes 0 0 (Choose None) 1 3 ∷ takes 0 1 (Choose None) 0 3 ∷ []) []

one_first_takes_zero : grun one_first (0 ∷ []) 4 ≡ Ended 1
unfolding leaks grun
one_first_takes_zero = refl

-- an edge without a choice takes none
keeps_choices :
    grun
    (graph 3 0 1 (goes 0 1 (CopyData 0 (ArgKnown 1)) 2 ∷ takes 1 0 (Choose None) 0 3 ∷ takes 1 2 (Choose None) 1 3 ∷ [])
    []) (1 ∷ []) 4 ≡ Ended 2
unfolding leaks grun
keeps_choices = refl

-- Tests: a null pointer passes the edge for equal, to 2; if it is asked the other way round, the second edge, to 3

abbrev tests : Edge → Edge → ControlGraph
tests first second = graph 4 1 0 (goes 0 1 (CopyPtr 0 PtrNull) 2 ∷ first ∷ second ∷ goes 3 0 (Stop true) 6 ∷ []) []

passes_the_first :
    grun (tests (goes 1 2 (TestPtr (PtrVar 0) PtrNull true) 5) (goes 1 3 (TestPtr (PtrVar 0) PtrNull false) 5)) [] 9
    ≡ Ended 2
unfolding leaks grun
passes_the_first = refl

passes_the_second : grun
    (tests (goes 1 2 (TestPtr (PtrVar 0) PtrNull false) 5) (goes 1 3 (TestPtr (PtrVar 0) PtrNull true) 5)) [] 9
    ≡ Fault Assertion 6 3
unfolding leaks grun
passes_the_second = refl

-- neither passes: the run is stuck
passes_neither :
    grun (tests (goes 1 2 (TestPtr (PtrVar 0) PtrNull false) 5) (goes 1 3 (TestPtr (PtrVar 0) PtrNull false) 5)) [] 9
    ≡ StillRunning
unfolding leaks grun
passes_neither = refl
