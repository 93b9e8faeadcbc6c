use Rattle.std.proofs.Common.{take}
use Rattle.c_cfg.specs.Ranges.{IsDataField}
use Rattle.c_cfg.proofs.ranges.is_data_field.Given as goal

abbrev pub invariant-loop-shape : goal.invariant-loop-shape
invariant-loop-shape l = IsDataField (take l.shape-index l.structs) l.field → ⊥
