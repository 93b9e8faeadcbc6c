-- What a step gives: its faults without the faces and signatures of their forests, and what stays as it was.
use Rattle.std.specs.Prelude.{◌≡◌, List, map, length}
use Rattle.fa_core.specs.declared.forest.Forest.{Forest}
use Rattle.sym_core.specs.Cases.{BadAt}
use Rattle.sym_step.specs.declared.posts.Bad.{Bad}

-- the faults, each at its forest
abbrev pub bads : List Bad → List BadAt
bads bs = map (λ b. record { fault = b.fault; at = b.at.forest }) bs

-- G has as many pointer variables and as many data variables as F
abbrev pub HasAsMany : Forest → Forest → Type 0
HasAsMany F G = (length G.vars ≡ length F.vars) × (length G.data_vars ≡ length F.data_vars)
