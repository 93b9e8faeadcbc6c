-- When trees of other numbers have roots of the same kinds.
use Rattle.std.specs.Prelude.{◌≡◌, ◌↔◌, ℕ, List, Some, slice_get}
use Rattle.fore_base.specs.Lists.{IsIn, Paired}
use Rattle.ta_core.specs.declared.symbol.Symbol.TheVariants.{Ref}
use Rattle.ta_core.specs.declared.tree.Tree.{Tree, out-Tree}
use Rattle.fa_core.specs.Canonical.{RefersTo, field_trees, references}
use Rattle.fa_core.specs.References.{to_two}
use Rattle.fa_core.specs.Ways.{signature}
use Rattle.fa_core.specs.declared.faces.BoxFace.{BoxFace}
use Rattle.fa_core.specs.declared.forest.Target.{Target}
use Rattle.fa_core.specs.declared.forest.Target.TheVariants.{At}

-- u refers to the roots to which t refers, under their new numbers
abbrev pub RefersAs : (ℕ → ℕ) → Tree → Tree → Type 0
RefersAs f t u = (k : ℕ) → RefersTo t k ↔ RefersTo u (f k)

-- so at the end of a field; where t is a reference, u is the same one
abbrev pub EndFollows : (ℕ → ℕ) → Tree → Tree → Type 0
EndFollows f t u = RefersAs f t u × ((k : ℕ) → (out-Tree t).symbol ≡ Ref k → (out-Tree u).symbol ≡ Ref (f k))

-- so for a tree and what stands at the ends of its top's fields
abbrev pub TreeFollows : (ℕ → ℕ) → Tree → Tree → Type 0
TreeFollows f t u = RefersAs f t u × Paired (EndFollows f) (field_trees t) (field_trees u)

-- the roots of us are those of ts under the new numbers f, which g takes back: the same variables, as many references
-- as far as two, and trees that follow
pub record Follows (f g : ℕ → ℕ) (vs ws : List Target) (ts us : List Tree) : Type 0 where
  pub there : (k : ℕ) → g (f k) ≡ k
  pub again : (j : ℕ) → f (g j) ≡ j
  pub var : (j : ℕ) → IsIn (At j) ws ↔ IsIn (At (g j)) vs
  pub times : (j : ℕ) → to_two (references us j) ≡ to_two (references ts (g j))
  pub down : (k : ℕ) (t : Tree) → slice_get ts k ≡ Some t → (u : Tree) × (slice_get us (f k) ≡ Some u)
      × TreeFollows f t u
  pub up : (j : ℕ) (u : Tree) → slice_get us j ≡ Some u → (t : Tree) × (slice_get ts (g j) ≡ Some t) × TreeFollows f t u

-- u has the signature of t, and follows it at the ends of its top's fields: where no cell there shows a knot in t, none
-- does in u
abbrev pub StaysTame : List BoxFace → Tree → Tree → Type 0
StaysTame bs t u = (signature bs t ≡ signature bs u) × Paired (EndFollows (λ k. k)) (field_trees t) (field_trees u)
