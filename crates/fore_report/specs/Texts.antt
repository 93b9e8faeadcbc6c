-- The texts of reports.
use Rattle.std.specs.Prelude.{ℕ, List, [], ◌∷◌, ◌++◌, flat_map, codes, decimal}
use Rattle.fore_base.specs.declared.fault.Fault.{Fault as Kind}
use Rattle.fore_base.specs.declared.fault.Fault.TheVariants.{
  NullDeref,
  UninitDeref,
  DanglingDeref,
  InvalidFree,
  DoubleFree,
  Leak,
  Assertion,
  IndetTest,
}
use Rattle.fore_base.specs.Faults.{number_of}
use Rattle.fore_base.specs.declared.store.Store.{Store}
use Rattle.c_types.specs.Program.{Program}
use Rattle.c_types.specs.declared.outcome.Outcome.{Outcome}
use Rattle.c_types.specs.declared.outcome.Outcome.TheVariants.{Ended, Fault, Starved, BadChoice, StillRunning}
use Rattle.fore_words.specs.Usage.{ended_line}
use Rattle.fa_core.specs.Boxes.{Boxes}
use Rattle.fix_core.specs.declared.explored.AbsTrace.{AbsTrace}
use Rattle.fore_explored.specs.Texts.{last_text}

-- the name by which a fault is printed
abbrev pub fault_text : Kind → List ℕ
fault_text NullDeref = codes "null dereference"
fault_text UninitDeref = codes "uninitialised dereference"
fault_text DanglingDeref = codes "dangling dereference"
fault_text InvalidFree = codes "invalid free"
fault_text DoubleFree = codes "double free"
fault_text Leak = codes "leak"
fault_text Assertion = codes "failed assertion"
fault_text IndetTest = codes "indeterminate test"

-- a line of a word and a number
abbrev pub numbered_line : List ℕ → ℕ → List ℕ
numbered_line word n = ended_line (word ++ (codes " " ++ decimal n))

-- the line with the number and name of a fault
abbrev pub fault_line : Kind → List ℕ
fault_line kind = ended_line (codes "fault " ++ (decimal (number_of kind) ++ (codes " " ++ fault_text kind)))

-- a fault: its number and name, its line in the file, and its step
abbrev pub fault_lines : Kind → ℕ → ℕ → List ℕ
fault_lines kind line step = fault_line kind ++ (numbered_line (codes "line") line ++ numbered_line (codes "step") step)

-- choices, a digit for each; a hyphen where there are none
abbrev pub choices_text : List ℕ → List ℕ
choices_text [] = codes "-"
choices_text (x ∷ xs) = flat_map decimal (x ∷ xs)

abbrev pub choices_line : List ℕ → List ℕ
choices_line choices = ended_line (codes "choices " ++ choices_text choices)

-- numbers, with a space before each
abbrev pub spaced : List ℕ → List ℕ
spaced ns = flat_map (λ n. codes " " ++ decimal n) ns

-- the report that no run meets a fault, with the text of the exploration
abbrev pub safe_text : List ℕ → List ℕ
safe_text explored = ended_line (codes "SAFE") ++ explored

-- the report on a fault, and the choices that lead to it
abbrev pub unsafe_text : Kind → ℕ → ℕ → List ℕ → List ℕ
unsafe_text kind line step choices = ended_line (codes "UNSAFE") ++ (fault_lines kind line step ++ choices_line choices)

-- the report that as many abstract states are kept as may be, with the text of the exploration
abbrev pub budget_text : List ℕ → List ℕ
budget_text explored = ended_line (codes "UNKNOWN budget") ++ explored

-- the lines on a trace: its fault, the line of its last edge, how many edges it has, its choices, its nodes, and the
-- number of that edge
abbrev pub trace_lines : AbsTrace → List ℕ
trace_lines trace =
    fault_line trace.fault
    ++ (numbered_line (codes "line") trace.line
    ++ (numbered_line (codes "steps") trace.steps
    ++ (choices_line trace.choices
    ++ (ended_line (codes "trace" ++ spaced trace.nodes)
    ++ numbered_line (codes "edge") trace.edge))))

-- the report on an abstract trace whose choices meet no fault, with the text of the exploration
abbrev pub trace_text : Boxes → Program → AbsTrace → Store → List ℕ → List ℕ
trace_text t p trace sample explored =
    ended_line (codes "UNKNOWN trace") ++ (trace_lines trace ++ (last_text t p trace.last.forest sample ++ explored))

-- the report on how a run came out
abbrev pub run_text : Outcome → List ℕ
run_text (Ended step) = ended_line (codes "ENDED") ++ numbered_line (codes "step") step
run_text (Fault kind line step) = ended_line (codes "FAULT") ++ fault_lines kind line step
run_text (Starved step) = ended_line (codes "STARVED") ++ numbered_line (codes "step") step
run_text (BadChoice index) = ended_line (codes "BAD CHOICE") ++ numbered_line (codes "index") index
run_text StillRunning = ended_line (codes "STILL RUNNING")
