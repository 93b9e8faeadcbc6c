use Rattle.fa_core.specs.Choices.{all_numbers}
use Rattle.fa_core.proofs.Dressing.{numbered_differ}
use Rattle.fa_leaves.proofs.Hollow.{hollow_table, filled_dressed}
use Rattle.fa_leaves.proofs.laws.choices_are_dressed.Goals as goal

pub returns : goal.returns
returns c = λ face F ts filled ranked choice.
    (let d = filled_dressed face F 0 filled ranked ts choice in
    (hollow_table face.boxes, d.nodes, d.of, d.trees, numbered_differ 0 (all_numbers d.nodes) d.cells))
