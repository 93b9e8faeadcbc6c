-- What is answered of a generated program.
use Rattle.std.specs.Prelude.{ℕ, List}
use Rattle.c_types.specs.Program.{Program}
use Rattle.c_front.specs.Files.{IsProgramOf}
use Rattle.fa_core.specs.Boxes.{Boxes}
use Rattle.fore_gen.specs.Programs.{program_text, count_lines}
use Rattle.fore_generated.specs.Generated.{gen_settings, IsTableFor}
use Rattle.fore_report.specs.Summaries.{IsSummary}
use Rattle.fore_report.specs.declared.verdict.Verdict.{Verdict}
use Rattle.fore_words.specs.declared.asked.Kind.{Kind}

-- The generated text is that of a program, which is verified by the table of its kind, and this is the report on it.
pub record IsGenerated (kind : Kind) (phases : ℕ) (verdict : Verdict) (text : List ℕ) : Type 0 where
  pub program : Program
  pub table : Boxes
  pub is : IsProgramOf (program_text kind phases) program
  pub by : IsTableFor kind program.shapes table
  pub sums_up : IsSummary table program gen_settings kind phases (count_lines (program_text kind phases)) text verdict
