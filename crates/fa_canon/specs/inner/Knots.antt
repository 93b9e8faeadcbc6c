-- Sound forests while knots are cut.
use Rattle.std.specs.Prelude.{◌≡◌, ◌<◌, ◌⊎◌, ℕ, true, length}
use Rattle.fore_base.specs.Lists.{Every}
use Rattle.ta_core.specs.Language.{RunOf}
use Rattle.ta_core.specs.Single.{HasOneTop}
use Rattle.ta_core.specs.declared.tree.Tree.{Tree}
use Rattle.fa_core.specs.Canonical.{RefersTo}
use Rattle.fa_core.specs.declared.forest.Target.{Target}
use Rattle.fa_sound.specs.Soundness.{SoundForest}
use Rattle.fa_sound.specs.Components.{component_at}
use Rattle.fa_order.specs.Kinds.{IsSharedRoot}
use Rattle.fa_order.specs.Placing.{DoEdgesGive}
use Rattle.fa_split.specs.Split.{MayBeLeaf, child_state, split_cells, split_leaf, top_rule}
use Rattle.fa_canon.specs.inner.Cutting.{HasWidth, IsCutting, has_field_at}
use Rattle.fa_canon.specs.inner.Steps.{HaveTops}

-- G has one rule at each root, and no knots at the places before place p of root r, of its first n roots
abbrev pub HasCut : ℕ → ℕ → ℕ → SoundForest → SoundForest → Type 0
HasCut n r p F G = Every HasOneTop G.forest.autos × IsCutting n r p G.forest

-- the same of a forest whose box edges that lead back give something
abbrev pub IsReady : ℕ → ℕ → ℕ → SoundForest → Type 0
IsReady n r p F = DoEdgesGive F.face F.forest × Every HasOneTop F.forest.autos × IsCutting n r p F.forest

-- besides, root r is shared in G, and its trees have m children
abbrev pub HasCutAt : ℕ → ℕ → ℕ → ℕ → SoundForest → SoundForest → Type 0
HasCutAt n r p m F G = Every HasOneTop G.forest.autos × IsCutting n r p G.forest × HasWidth G.forest r m
    × IsSharedRoot G.forest r

-- root r is shared, and place p is one of those of its m children
abbrev pub CanCut : ℕ → ℕ → ℕ → ℕ → SoundForest → Type 0
CanCut n r p m F = IsReady n r p F × (HasWidth F.forest r m × IsSharedRoot F.forest r) × (r < n) × (p < m)

-- a field leads to the child at place p below root r
abbrev pub IsAtField : ℕ → ℕ → SoundForest → Type 0
IsAtField r p F = has_field_at (top_rule (component_at F.forest.autos r)).symbol p ≡ true

-- so it is, and what may be the child refers to the root
abbrev pub AreTied : ℕ → ℕ → SoundForest → Type 0
AreTied r p F = IsAtField r p F
    × ((u : Tree) → RunOf (component_at F.forest.autos r).rules (child_state (component_at F.forest.autos r) p) u
    → RefersTo u r)

-- where it is so, what may be the child does not refer to the root
abbrev pub AreUntied : ℕ → ℕ → SoundForest → Type 0
AreUntied r p F = IsAtField r p F → (u : Tree)
    → RunOf (component_at F.forest.autos r).rules (child_state (component_at F.forest.autos r) p) u → RefersTo u r → ⊥

-- G is F with the child at place p below root r split; all roots of F have one rule in G
abbrev pub IsSplitAt : ℕ → ℕ → SoundForest → SoundForest → Type 0
IsSplitAt r p F G =
    (((y : Target) × MayBeLeaf F.forest r p y × (G.forest ≡ split_leaf F.forest r p y))
    ⊎ (G.forest ≡ split_cells F.forest r p)) × HaveTops (length F.forest.autos) G.forest
