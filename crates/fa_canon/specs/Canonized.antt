-- What a canonical forest is made into: itself, reduced.
use Rattle.std.specs.Prelude.{◌≡◌, List, [], ◌∷◌}
use Rattle.fore_base.specs.Lists.{Paired}
use Rattle.ta_core.specs.Language.{HasSameLanguage}
use Rattle.fa_core.specs.declared.forest.Forest.{Forest}
use Rattle.fa_split.specs.Divided.{HasVarsOf}

-- one forest, with the targets and data of F, and as many components with the same languages
abbrev pub IsSameAlone : Forest → List Forest → Type 0
IsSameAlone F Gs = (G : Forest) × (Gs ≡ G ∷ []) × HasVarsOf F G × Paired HasSameLanguage F.autos G.autos
