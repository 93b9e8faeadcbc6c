-- The table of words without a file of boxes.
use Rattle.std.specs.Prelude.{[]}
use Rattle.fore_base.specs.declared.shape.Shapes.{Shapes}
use Rattle.fa_core.specs.Boxes.{Boxes}

-- the table without boxes over these structs
abbrev pub no_boxes : Shapes → Boxes
no_boxes shapes = record { face = record { shapes = shapes; boxes = [] }; defs = [] }
