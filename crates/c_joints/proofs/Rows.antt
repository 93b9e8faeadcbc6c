-- Parts before location 7, of a condition that leads to 3 where it is true and to 4 where it is false.
use Rattle.std.proofs.Common.{◌≡◌, refl}
use Rattle.c_joints.specs.Sides.{yes_side, no_side}
use Rattle.c_joints.specs.declared.sides.Joint.TheVariants.{All, Any}

a_true_part_of_and_leads_on : yes_side All 7 3 ≡ 7
a_true_part_of_and_leads_on = refl

a_false_part_of_and_decides : no_side All 7 4 ≡ 4
a_false_part_of_and_decides = refl

a_true_part_of_or_decides : yes_side Any 7 3 ≡ 3
a_true_part_of_or_decides = refl

a_false_part_of_or_leads_on : no_side Any 7 4 ≡ 7
a_false_part_of_or_leads_on = refl
