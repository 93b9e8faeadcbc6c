-- The boxes that stand before a line.
use Rattle.std.specs.Prelude.{ℕ, Bool, true, false, List, [], ◌∷◌, ◌++◌, Option, Some, None}
use Rattle.fa_written.specs.declared.draft.Head.{Head}
use Rattle.fa_named.specs.declared.named.Boxes.{Boxes}

abbrev pub no_boxes : Boxes
no_boxes = record { names = []; outputs = [] }

abbrev pub is_some : {X : Type 0} → Option X → Bool
is_some None = false
is_some (Some x) = true

abbrev pub with_box : Boxes → Head → Boxes
with_box boxes h =
    record { names = boxes.names ++ h.name ∷ []; outputs = boxes.outputs ++ is_some h.output ∷ [] }
