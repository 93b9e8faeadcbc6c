use Rattle.std.proofs.Common.{take}
use Rattle.c_cfg.specs.Ranges.{IsPtrField}
use Rattle.c_cfg.proofs.ranges.is_ptr_field.Given as goal

abbrev pub invariant-loop-shape : goal.invariant-loop-shape
invariant-loop-shape l = IsPtrField (take l.shape-index l.structs) l.field → ⊥
