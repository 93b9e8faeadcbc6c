-- Other leaves in the place of references.
use Rattle.std.specs.Prelude.{◌≡◌, ℕ}
use Rattle.fa_core.specs.declared.forest.Target.{Target}
use Rattle.fa_core.specs.declared.forest.Target.TheVariants.{At}

-- no two roots become one
abbrev pub AreApart : (ℕ → Target) → Type 0
AreApart f = (k l j : ℕ) → f k ≡ At j → f l ≡ At j → k ≡ l
