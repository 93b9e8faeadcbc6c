use Rattle.fore_call.proofs.judge.told.Goals as goal

pub returns : goal.returns
returns c = record {
  graph = c.args.graph.now;
  lowered = c.requires.lowered;
  found = c.args.found.now;
  explored = c.requires.explored;
  reports = c.in_ok-verdict.ensures;
}
