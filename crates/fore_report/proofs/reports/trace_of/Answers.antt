use Rattle.fore_report.proofs.reports.trace_of.Goals as goal

pub returns : goal.returns
returns c = record {
  sample = c.args.sample.now;
  means = c.requires.means;
  loops = c.requires.loops;
  prints = c.in_ok-text.ensures;
}
