-- Marks that provide nothing.
use Rattle.std.specs.Prelude.{◌≡◌, ℕ, List, []}
use Rattle.fore_base.specs.Lists.{Every}
use Rattle.fa_core.specs.declared.signature.RefMark.{RefMark}

-- no mark provides a field
abbrev pub GivesNone : List RefMark → Type 0
GivesNone ms = Every (λ m. m.provided ≡ []) ms

-- no mark of root r provides a field
abbrev pub GivesNoneTo : ℕ → List RefMark → Type 0
GivesNoneTo r ms = Every (λ m. m.root ≡ r → m.provided ≡ []) ms
