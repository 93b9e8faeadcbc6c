use Rattle.std.proofs.Common.{◌≡◌, drop}
use Rattle.fore_base.specs.Stores.{walk}
use Rattle.c_types.specs.Steps.{read}
use Rattle.c_acts.proofs.paths.read.Given as goal

abbrev pub invariant-loop-field : goal.invariant-loop-field
invariant-loop-field l = walk l.heap l.value (drop l.field-index l.path.fields) ≡ read l.heap l.path
