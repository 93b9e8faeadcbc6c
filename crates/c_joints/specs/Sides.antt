-- Where the outcomes of a condition's part lead, the part that comes next aside (6.5.13, 6.5.14).
use Rattle.std.specs.Prelude.{ℕ}
use Rattle.c_joints.specs.declared.sides.Joint.{Joint}
use Rattle.c_joints.specs.declared.sides.Joint.TheVariants.{All, Any}

-- where a part that is true leads, which stands before the location `next`
abbrev pub yes_side : Joint → ℕ → ℕ → ℕ
yes_side All next yes' = next
yes_side Any next yes' = yes'

-- where a part that is false leads
abbrev pub no_side : Joint → ℕ → ℕ → ℕ
no_side All next no' = no'
no_side Any next no' = next
