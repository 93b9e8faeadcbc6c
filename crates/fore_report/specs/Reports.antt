-- What `verify` reports of a program, and what that means.
use Rattle.std.specs.Prelude.{◌≡◌, ℕ, List, true}
use Rattle.fore_base.specs.declared.fault.Fault.{Fault as Kind}
use Rattle.fore_base.specs.declared.store.Store.{Store}
use Rattle.c_types.specs.Program.{Program}
use Rattle.c_cfg.specs.Graphs.{ControlGraph}
use Rattle.c_cfg.specs.Lowering.{LowerOf}
use Rattle.c_cfg.specs.LoopFree.{has_no_loop}
use Rattle.fa_core.specs.Boxes.{Boxes}
use Rattle.fix_core.specs.declared.explored.AbsTrace.{AbsTrace}
use Rattle.fix_core.specs.declared.explored.Explored.{Explored}
use Rattle.fix_core.specs.declared.explored.Explored.TheVariants.{Closed, Faulty, Spent}
use Rattle.fix_core.specs.declared.nodes.Node.{Node}
use Rattle.fix_core.specs.Explorations.{IsExplored}
use Rattle.fix_verdict.specs.Verdicts.{SafeMeans, UnsafeMeans, BudgetMeans, TraceMeans}
use Rattle.fore_explored.specs.Texts.{exploration_text}
use Rattle.fore_words.specs.declared.asked.Settings.{Settings}
use Rattle.fore_report.specs.declared.verdict.Verdict.{Verdict}
use Rattle.fore_report.specs.declared.verdict.Verdict.TheVariants.{Safe, Unsafe, Unknown}
use Rattle.fore_report.specs.Texts.{safe_text, unsafe_text, budget_text, trace_text}

-- of what was found in the control graph of the program p, by this table of boxes, with these settings, by whose mode
-- `malloc` answers
module _ (t : Boxes) (p : Program) (graph : ControlGraph) (settings : Settings) where
  -- the text of the nodes
  abbrev pub explored_text : List Node → List ℕ
  explored_text nodes = exploration_text t p settings.malloc graph settings.height settings.budget nodes

  -- SAFE: no choices and no number of steps lead the program to a fault. The printed abstract states are an
  -- exploration of its control graph, closed, and no more than the budget.
  pub record IsSafeReport (nodes : List Node) (text : List ℕ) : Type 0 where
    pub means : SafeMeans t p settings.malloc graph settings.height settings.budget nodes
    pub prints : text ≡ safe_text (explored_text nodes)

  -- UNSAFE: the run on the printed choices meets the printed fault, of the printed line, in the printed step. They
  -- are the choices of an abstract trace of an exploration of the program's control graph, of at most the budget.
  pub record IsUnsafeReport (nodes : List Node) (trace : AbsTrace) (text : List ℕ) : Type 0 where
    pub kind : Kind
    pub line : ℕ
    pub step : ℕ
    pub means : UnsafeMeans t p settings.malloc graph settings.height settings.budget nodes trace kind line step
    pub prints : text ≡ unsafe_text kind line step trace.choices

  -- UNKNOWN budget: the printed abstract states are an exploration of the program's control graph, as many as the
  -- budget, and a further one is wanted; no earlier one of its location covers any of them. If the program has no loop,
  -- its control graph has more prefixes than the budget.
  pub record IsBudgetReport (nodes : List Node) (text : List ℕ) : Type 0 where
    pub means : BudgetMeans t p settings.malloc graph settings.height settings.budget nodes
    pub prints : text ≡ budget_text (explored_text nodes)

  -- UNKNOWN trace: the printed trace is an abstract trace of the printed exploration of the program's control graph,
  -- of at most the budget, and on its choices the program meets no fault in up to 1,000,000 steps. The printed store is
  -- a member of its last forest. Some state of it was abstracted to more stores than the step before led to, so the
  -- program has a loop.
  pub record IsTraceReport (nodes : List Node) (trace : AbsTrace) (text : List ℕ) : Type 0 where
    pub sample : Store
    pub means : TraceMeans t p settings.malloc graph settings.height settings.budget nodes trace sample
    pub loops : has_no_loop p ≡ true → ⊥
    pub prints : text ≡ trace_text t p trace sample (explored_text nodes)

  -- the text is the report, with this verdict, on what was found
  abbrev pub IsReportOf : Explored → Verdict → List ℕ → Type 0
  IsReportOf (Closed nodes) Safe text = IsSafeReport nodes text
  IsReportOf (Faulty nodes trace) Unsafe text = IsUnsafeReport nodes trace text
  IsReportOf (Spent nodes) Unknown text = IsBudgetReport nodes text
  IsReportOf (Faulty nodes trace) Unknown text = IsTraceReport nodes trace text
  IsReportOf _ _ text = ⊥

-- The text is the report, with this verdict, on what the one exploration of the program's control graph by this table
-- of boxes found.
pub record IsReport (t : Boxes) (p : Program) (settings : Settings) (text : List ℕ) (verdict : Verdict) : Type 0 where
  pub graph : ControlGraph
  pub lowered : LowerOf p settings.malloc graph
  pub found : Explored
  pub explored : IsExplored t graph settings.height settings.budget found
  pub reports : IsReportOf t p graph settings found verdict text
