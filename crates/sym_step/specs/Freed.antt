-- Roots to which no way back leads.
use Rattle.std.specs.Prelude.{◌≡◌, ℕ, List, false}
use Rattle.fore_base.specs.Lists.{Every}
use Rattle.ta_core.specs.Language.{InLanguage}
use Rattle.ta_core.specs.declared.tree.Tree.{Tree}
use Rattle.fa_core.specs.declared.faces.BoxFace.{BoxFace}
use Rattle.fa_core.specs.declared.forest.Forest.{Forest}
use Rattle.fa_core.specs.Ways.{signature}
use Rattle.fa_sound.specs.Components.{component_at}

-- no whole way of a tree of root r leads back, so that none leads from the root at its end to root r
abbrev pub NeverLeadsBack : List BoxFace → Forest → ℕ → Type 0
NeverLeadsBack bs F r =
    (t : Tree) → InLanguage (component_at F.autos r) t → Every (λ m. m.back ≡ false) (signature bs t)
