use Rattle.std.proofs.Common.{take}
use Rattle.fore_base.specs.Marks.{MarksOf}
use Rattle.ta_core.specs.Tops.{Tops}
use Rattle.ta_core.proofs.accepting.top_states.Given as goal

abbrev pub invariant-loop-rule : goal.invariant-loop-rule
invariant-loop-rule l = MarksOf l.states (Tops (take l.rule-index l.rules) l.symbol l.sets) l.marks
