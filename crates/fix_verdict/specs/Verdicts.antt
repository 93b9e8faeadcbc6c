-- What the verdicts say of a program, whose `malloc` answers by a mode.
use Rattle.std.specs.Prelude.{◌≡◌, ◌⊎◌, ◌<◌, ◌≤◌, ℕ, List, length, true, Some}
use Rattle.fore_base.specs.declared.fault.Fault.{Fault as Kind}
use Rattle.fore_base.specs.declared.store.Store.{Store}
use Rattle.fore_base.specs.Lists.{IsIn, Every}
use Rattle.c_types.specs.declared.mode.MallocMode.{MallocMode}
use Rattle.c_types.specs.declared.outcome.Outcome.TheVariants.{Fault}
use Rattle.c_types.specs.Over.{IsFault}
use Rattle.c_types.specs.Program.{Program}
use Rattle.c_types.specs.Runs.{run}
use Rattle.fa_core.specs.Boxes.{Boxes}
use Rattle.fa_core.specs.declared.forest.Forest.{Forest}
use Rattle.c_cfg.specs.Graphs.{ControlGraph}
use Rattle.c_cfg.specs.LoopFree.{has_no_loop}
use Rattle.c_prefixes.specs.Prefixes.{AtMost}
use Rattle.fix_core.specs.declared.explored.AbsTrace.{AbsTrace}
use Rattle.fix_core.specs.declared.explored.Explored.{Explored}
use Rattle.fix_core.specs.declared.explored.Explored.TheVariants.{Closed, Faulty, Spent}
use Rattle.fix_core.specs.declared.nodes.Node.{Node}
use Rattle.fix_verdict.specs.declared.verdict.TheConstants.{REPLAY_STEPS}
use Rattle.fix_verdict.specs.declared.verdict.Verdict.{Verdict}
use Rattle.fix_verdict.specs.declared.verdict.Verdict.TheVariants.{Safe, Unsafe, FullBudget, LooseTrace}
use Rattle.fix_core.specs.Explorations.{IsNode, IsClosed, Exploration, Full, AbstractTrace}
use Rattle.fix_core.specs.Follows.{IsMember}

module _ (T : Boxes) where
  -- each member of the node of number j was one before it was folded and abstracted
  abbrev pub IsExact : List Node → ℕ → Type 0
  IsExact nodes j = (n : Node) (M : Forest) → IsNode nodes j n → n.state.middle ≡ Some M → (s : Store)
      → IsMember T n.state.forest s → IsMember T M s

  -- no node of the way but node 0 gained members
  abbrev pub AreExact : List Node → List ℕ → Type 0
  AreExact nodes way = (j : ℕ) → 0 < j → IsIn j way → IsExact nodes j

  module _ (p : Program) (m : MallocMode) (g : ControlGraph) (k : ℕ) where
    -- No run of the program meets a fault. The nodes are an exploration, closed, and at most the budget.
    pub record SafeMeans (budget : ℕ) (nodes : List Node) : Type 0 where
      pub never : (choices : List ℕ) (n : ℕ) → IsFault (run p m choices n) → ⊥
      pub explored : Exploration T g k nodes
      pub closed : IsClosed T g nodes
      pub within : length nodes ≤ budget

    -- The budget is full: the nodes are an exploration, as many as the budget, and a further node would be one too. If
    -- the program has no loop, its graph has more prefixes than the budget.
    pub record BudgetMeans (budget : ℕ) (nodes : List Node) : Type 0 where
      pub explored : Exploration T g k nodes
      pub full : Full T g k nodes budget
      pub prefixes : has_no_loop p ≡ true → AtMost budget g → ⊥

    -- An abstract trace of an exploration of at most the budget of nodes. Each of its choices is 0 or 1.
    pub record TraceOf (budget : ℕ) (nodes : List Node) (tr : AbsTrace) : Type 0 where
      pub explored : Exploration T g k nodes
      pub trace : AbstractTrace T g nodes tr
      pub within : length nodes ≤ budget
      pub choices : Every (λ x. x < 2) tr.choices

    -- The program's run on the choices of an abstract trace meets this fault, of this line, in this step.
    pub record UnsafeMeans (budget : ℕ) (nodes : List Node) (tr : AbsTrace) (kind : Kind) (line step : ℕ) : Type 0 where
      pub of : TraceOf budget nodes tr
      pub meets : run p m tr.choices step ≡ Fault kind line step

    -- An abstract trace on whose choices the program meets no fault in up to REPLAY_STEPS steps, nor in as many as
    -- the trace has; with a member of its last forest. Not all of its nodes kept to the members that they had
    -- before they were folded and abstracted.
    pub record TraceMeans (budget : ℕ) (nodes : List Node) (tr : AbsTrace) (sample : Store) : Type 0 where
      pub of : TraceOf budget nodes tr
      pub no_fault : (n : ℕ) → (n ≤ REPLAY_STEPS) ⊎ (n ≤ tr.steps) → IsFault (run p m tr.choices n) → ⊥
      pub member : IsMember T tr.last.forest sample
      pub loose : AreExact nodes tr.nodes → ⊥

    -- the verdict is right for what was found
    abbrev pub IsVerdict : ℕ → Explored → Verdict → Type 0
    IsVerdict budget (Closed nodes) Safe = SafeMeans budget nodes
    IsVerdict budget (Faulty nodes tr) (Unsafe kind line step) = UnsafeMeans budget nodes tr kind line step
    IsVerdict budget (Faulty nodes tr) (LooseTrace sample) = TraceMeans budget nodes tr sample
    IsVerdict budget (Spent nodes) FullBudget = BudgetMeans budget nodes
    IsVerdict budget _ _ = ⊥

-- the verdict is no loose trace
abbrev pub IsNeverLoose : Verdict → Type 0
IsNeverLoose Safe = Unit {0}
IsNeverLoose (Unsafe kind line step) = Unit {0}
IsNeverLoose FullBudget = Unit {0}
IsNeverLoose (LooseTrace sample) = ⊥
