use Rattle.std.proofs.Common.{◌≡◌, map, take}
use Rattle.c_typing.specs.Globals.{body_named}
use Rattle.c_typing.specs.Weights.{statements_in}
use Rattle.c_callees.proofs.weighing.all_statements.Given as goal

abbrev pub invariant-loop-text : goal.invariant-loop-text
invariant-loop-text l = l.counts ≡ map (λ x. statements_in (body_named x l.items)) (take l.text-index l.texts)
