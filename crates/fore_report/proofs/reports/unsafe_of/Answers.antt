use Rattle.std.proofs.Common.{ap, ◌∙◌}
use Rattle.fore_report.specs.Texts.{unsafe_text}
use Rattle.fore_report.proofs.reports.unsafe_of.Goals as goal

pub returns : goal.returns
returns c = record {
  kind = c.args.kind;
  line = c.args.line;
  step = c.args.step;
  means = c.requires;
  prints = c.in_ok-text.ensures
      ∙ ap (λ choices. unsafe_text c.args.kind c.args.line c.args.step choices) c.as_slice.ensures;
}
