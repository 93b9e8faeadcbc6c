-- The report on a generated program.
use Rattle.std.specs.Prelude.{◌≡◌, ℕ, List, [], ◌++◌, length, codes, decimal}
use Rattle.c_types.specs.Program.{Program}
use Rattle.c_cfg.specs.Graphs.{ControlGraph}
use Rattle.c_cfg.specs.Lowering.{LowerOf}
use Rattle.fa_core.specs.Boxes.{Boxes}
use Rattle.fix_core.specs.declared.explored.Explored.{Explored}
use Rattle.fix_core.specs.declared.explored.Explored.TheVariants.{Closed, Faulty, Spent}
use Rattle.fix_core.specs.Explorations.{IsExplored}
use Rattle.fix_verdict.specs.declared.verdict.Verdict.{Verdict as Finding}
use Rattle.fix_verdict.specs.declared.verdict.Verdict.TheVariants as finding
use Rattle.fix_verdict.specs.Verdicts.{IsVerdict}
use Rattle.fore_words.specs.Usage.{ended_line}
use Rattle.fore_words.specs.declared.asked.Kind.{Kind}
use Rattle.fore_words.specs.declared.asked.Kind.TheVariants.{ListPhases, DllPhases, TreePhases}
use Rattle.fore_words.specs.declared.asked.Settings.{Settings}
use Rattle.fore_report.specs.declared.verdict.Verdict.{Verdict}
use Rattle.fore_report.specs.declared.verdict.Verdict.TheVariants.{Safe, Unsafe, Unknown}
use Rattle.fore_report.specs.Texts.{numbered_line}

-- the name of a kind
abbrev pub kind_name : Kind → List ℕ
kind_name ListPhases = codes "list"
kind_name DllPhases = codes "dll"
kind_name TreePhases = codes "tree"

-- what the report says of a verdict
abbrev pub verdict_of : Finding → Verdict
verdict_of finding.Safe = Safe
verdict_of (finding.Unsafe kind line step) = Unsafe
verdict_of finding.FullBudget = Unknown
verdict_of (finding.LooseTrace sample) = Unknown

-- the line of a verdict
abbrev pub verdict_line : Finding → List ℕ
verdict_line finding.Safe = ended_line (codes "SAFE")
verdict_line (finding.Unsafe kind line step) = ended_line (codes "UNSAFE")
verdict_line finding.FullBudget = ended_line (codes "UNKNOWN budget")
verdict_line (finding.LooseTrace sample) = ended_line (codes "UNKNOWN trace")

-- how many abstract states were kept; no line where a fault was found
abbrev pub kept_line : Finding → ℕ → List ℕ
kept_line finding.Safe nodes = numbered_line (codes "nodes") nodes
kept_line (finding.Unsafe kind line step) nodes = []
kept_line finding.FullBudget nodes = numbered_line (codes "nodes") nodes
kept_line (finding.LooseTrace sample) nodes = numbered_line (codes "nodes") nodes

-- what was generated, how many lines it has, the verdict, and how many abstract states were kept
abbrev pub summary_text : Kind → ℕ → ℕ → Finding → ℕ → List ℕ
summary_text kind phases lines found nodes =
    ended_line (codes "gen " ++ (kind_name kind ++ (codes " " ++ decimal phases)))
    ++ (numbered_line (codes "lines") lines ++ (verdict_line found ++ kept_line found nodes))

-- how many abstract states were kept
abbrev pub kept : Explored → ℕ
kept (Closed nodes) = length nodes
kept (Faulty nodes trace) = length nodes
kept (Spent nodes) = length nodes

-- of the program p, which was generated with so many phases of the kind, and has so many lines
module _ (t : Boxes) (p : Program) (settings : Settings) (kind : Kind) (phases lines : ℕ) where
  -- the text is the report, with this verdict, on what was found in the control graph of the program
  pub record IsSummaryOf (graph : ControlGraph) (found : Explored) (verdict : Verdict) (text : List ℕ) : Type 0 where
    pub finding : Finding
    pub means : IsVerdict t p settings.malloc graph settings.height settings.budget found finding
    pub says : verdict ≡ verdict_of finding
    pub prints : text ≡ summary_text kind phases lines finding (kept found)

  -- The text is the report, with this verdict, on what the one exploration of the program's control graph by this
  -- table of boxes found.
  pub record IsSummary (text : List ℕ) (verdict : Verdict) : Type 0 where
    pub graph : ControlGraph
    pub lowered : LowerOf p settings.malloc graph
    pub found : Explored
    pub explored : IsExplored t graph settings.height settings.budget found
    pub sums_up : IsSummaryOf graph found verdict text
