-- What the code finds of a part: its inner roots, and whether they are reached otherwise.
use Rattle.std.specs.Prelude.{◌<◌, ℕ, List, [], length}
use Rattle.fore_base.specs.Lists.{IsIn}
use Rattle.ta_core.specs.Auto.{Automaton}
use Rattle.ta_core.specs.declared.tree.Tree.{Tree}
use Rattle.fa_core.specs.Canonical.{refs_at}
use Rattle.fa_core.specs.Filled.{Choice}
use Rattle.fa_core.specs.Folding.{Placing, Ports, left_refs, port_refs}
use Rattle.fa_core.specs.declared.forest.Forest.{Forest}
use Rattle.fa_core.specs.declared.forest.Target.{Target}
use Rattle.fa_core.specs.declared.forest.Target.TheVariants.{Null, Uninit, Dangling, At}
use Rattle.fa_part.specs.inner.Thin.{Thin}

-- whichever trees are taken, the walk from any references, of which `from` are all but some that are there twice, ends
-- with this order, where the ports are placed at first
abbrev pub IsPartOrder : Forest → List ℕ → List ℕ → List ℕ → Type 0
IsPartOrder F ports from order = (ts : List Tree) → Choice F.autos ts → (all : List ℕ) → Thin [] all from
    → Placing (refs_at ts) all ports order

-- whichever trees are taken, these are what the taken fields refer to, port by port, without some that are there twice
abbrev pub ArePortRefs : List Automaton → Ports → List ℕ → Type 0
ArePortRefs autos ps from = (ts : List Tree) → Choice autos ts → Thin [] (port_refs ts ps) from

-- the target is at none of the roots
abbrev pub IsNotAt : List ℕ → Target → Type 0
IsNotAt inner Null = Unit {0}
IsNotAt inner Uninit = Unit {0}
IsNotAt inner Dangling = Unit {0}
IsNotAt inner (At r) = IsIn r inner → ⊥

-- no variable is at one of the roots
abbrev pub HasNoVariable : List Target → List ℕ → Type 0
HasNoVariable vars inner = (r : ℕ) → IsIn r inner → IsIn (At r) vars → ⊥

-- root r is none of the inner roots, and a slot of it that is not taken refers to one
abbrev pub RefersInside : List Tree → Ports → List ℕ → ℕ → Type 0
RefersInside ts ps inner r = (IsIn r inner → ⊥) × ((k : ℕ) × IsIn k inner × IsIn k (left_refs ts ps r))

-- no root does
abbrev pub IsAlone : List Tree → Ports → List ℕ → Type 0
IsAlone ts ps inner = (r : ℕ) → r < length ts → RefersInside ts ps inner r → ⊥
