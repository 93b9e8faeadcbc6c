-- Worked values of the words on ways, each made by hand from what the word says.
use Rattle.std.proofs.Common.{[], ◌∷◌, refl, arith}
use Rattle.fix_core.proofs.Rows.{n3, n2, nodes}
use Rattle.fix_trace.specs.Tracing.{LeadsBack}

-- nothing leads from a node to itself
at_the_node : LeadsBack nodes [] 2 2
at_the_node = refl

not_at_the_node : LeadsBack nodes [] 0 2 → ⊥
not_at_the_node e = omega (arith, e)

-- node 3 is a child of node 2, and this one of node 0
from_3_to_0 : LeadsBack nodes (3 ∷ 2 ∷ []) 0 3
from_3_to_0 = (refl, (n3, 2, refl, refl, (refl, (n2, 0, refl, refl, refl))))

from_3_to_2 : LeadsBack nodes (3 ∷ []) 2 3
from_3_to_2 = (refl, (n3, 2, refl, refl, refl))

-- the list begins with the node itself
from_another_node : LeadsBack nodes (2 ∷ []) 0 3 → ⊥
from_another_node h = omega (arith, h.0)
