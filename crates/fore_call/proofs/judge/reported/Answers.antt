use Rattle.std.proofs.Common.{sym, ◌∙◌}
use Rattle.fore_call.proofs.judge.reported.Goals as goal

pub told-requires-clause-shapes : goal.told-requires-clause-shapes
told-requires-clause-shapes g c = c.in_ok-graph.ensures.0.shapes ∙ sym c.requires.shapes
