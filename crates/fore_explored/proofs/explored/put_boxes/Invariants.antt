use Rattle.std.proofs.Common.{◌≡◌, ◌++◌, drop, flat_map}
use Rattle.fa_print.specs.Texts.{box_text}
use Rattle.fore_explored.proofs.explored.put_boxes.Given as goal

abbrev pub invariant-loop-number : goal.invariant-loop-number
invariant-loop-number l =
    l.text ++ flat_map (box_text l.table) (drop l.number l.table.defs)
    ≡ l.initial.text ++ flat_map (box_text l.table) l.table.defs
