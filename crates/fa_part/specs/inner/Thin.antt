-- Lists of numbers without some that stand twice.
use Rattle.std.specs.Prelude.{ℕ, List, [], ◌∷◌}
use Rattle.fore_base.specs.Lists.{IsIn}

-- ys is xs without some numbers that stand in `seen` or earlier in xs
pub data Thin : List ℕ → List ℕ → List ℕ → Type 0 where
  thin_none : {seen : List ℕ} → Thin seen [] []
  thin_keep : {seen xs ys : List ℕ} (x : ℕ) → Thin (x ∷ seen) xs ys → Thin seen (x ∷ xs) (x ∷ ys)
  thin_drop : {seen xs ys : List ℕ} (x : ℕ) → IsIn x seen → Thin seen xs ys → Thin seen (x ∷ xs) ys
