use Rattle.std.proofs.Common.{ℕ, take}
use Rattle.fore_base.specs.Lists.{IsIn}
use Rattle.ta_core.specs.Language.{RunOf}
use Rattle.ta_core.specs.declared.tree.Tree.{Tree}
use Rattle.fa_sound.specs.Components.{component_at}
use Rattle.fa_lift.specs.Lift.{fields_given}
use Rattle.fa_lift.proofs.lifting_owners.provides.Given as goal

-- no tree of the states so far has the edge
abbrev pub invariant-loop-state : goal.invariant-loop-state
invariant-loop-state l = (q : ℕ) (t : Tree) → IsIn q (take l.state-index l.states)
    → RunOf (component_at l.forest.forest.autos l.from).rules q t
    → IsIn l.field (fields_given l.forest.face.boxes l.root t) → ⊥
