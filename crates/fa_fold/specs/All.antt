-- What all folds of a forest keep.
use Rattle.std.specs.Prelude.{◌≡◌, length}
use Rattle.fa_core.specs.declared.forest.Forest.{Forest}

-- G has as many variables as F, of pointers and of data
abbrev pub HasAsManyVariables : Forest → Forest → Type 0
HasAsManyVariables F G = (length G.vars ≡ length F.vars) × (length G.data_vars ≡ length F.data_vars)
