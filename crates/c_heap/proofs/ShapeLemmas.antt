-- Fields of structs, and lists that are set item by item.
use Rattle.std.proofs.Common.{◌≡◌, ℕ, List, [], ◌∷◌, ◌++◌, get_or, refl, sym, ap, ◌∙◌}
use Rattle.std.specs.Prelude.{slice_set}
use Rattle.fore_base.specs.declared.shape.Shape.{Shape}
use Rattle.fore_base.specs.Shapes.{fields_at}
use Rattle.fore_base.specs.Stores.{set_each}

pub fields_there : (ss : List Shape) (n : ℕ) (s : Shape) → s ≡ get_or ss n s → fields_at ss n ≡ (get_or ss n s).fields
    → fields_at ss n ≡ s.fields
fields_there ss n s e h = h ∙ ap (λ (x : Shape). x.fields) (sym e)

-- one place more
pub set_each_more : {A : Type 0} (xs : List A) (ns : List ℕ) (n : ℕ) (v : A) → set_each xs (ns ++ n ∷ []) v
    ≡ slice_set (set_each xs ns v) n v
set_each_more xs [] n v = refl
set_each_more xs (m ∷ ns) n v = set_each_more (slice_set xs m v) ns n v
