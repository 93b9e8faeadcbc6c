-- Lists of texts in which a text has one place, and tables of their places.
use Rattle.std.specs.Prelude.{◌≡◌, ℕ, ◌≤◌, Bool, List, Some, length, slice_get, IsSome, nat_eq}
use Rattle.std.specs.Cmp.Lexicographic.{pointwise}
use Rattle.std.specs.HashMap.{HashMap, get_by}
use Rattle.fore_base.specs.Lists as lists

-- no item stands twice
abbrev pub IsDistinct : {X : Type 0} → List X → Type 0
IsDistinct = lists.IsDistinct

-- no text stands twice, and each place has a number of 32 bits
abbrev pub IsNumbered : List (List ℕ) → Type 0
IsNumbered texts = lists.IsDistinct texts × (length texts ≤ 4294967295)

-- whether a key has this text
abbrev pub has_text : {K : Type 0} → (K → List ℕ) → List ℕ → K → Bool
has_text text_of text key = pointwise nat_eq text (text_of key)

-- each key has the number that is the place of its text, and each text has a key
pub record AreFound {K S : Type 0} (text_of : K → List ℕ) (texts : List (List ℕ)) (numbers : HashMap K ℕ S)
    : Type 0 where
  pub places : (key : K) (number : ℕ) → get_by (has_text text_of (text_of key)) numbers ≡ Some number
      → slice_get texts number ≡ Some (text_of key)
  pub keys : (text : List ℕ) → lists.IsIn text texts
      → (key : K) × (text_of key ≡ text) × IsSome (get_by (has_text text_of (text_of key)) numbers)
