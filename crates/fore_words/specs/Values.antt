-- The values that stand in the words.
use Rattle.std.specs.Prelude.{◌≡◌, ◌≢◌, ◌≤◌, ◌-◌, ℕ, List, map, Option, Some, None, codes, decimal}
use Rattle.c_types.specs.declared.mode.MallocMode.{MallocMode}
use Rattle.c_types.specs.declared.mode.MallocMode.TheVariants.{Always, MayFail}
use Rattle.fore_base.specs.Lists.{Every}
use Rattle.fore_words.specs.declared.asked.Kind.{Kind}
use Rattle.fore_words.specs.declared.asked.Kind.TheVariants.{ListPhases, DllPhases, TreePhases}

-- a text that is a number from 1 to the greatest, in decimal, without a sign or leading zeros
pub record IsNumber (most : ℕ) (text : List ℕ) (n : ℕ) : Type 0 where
  pub written : text ≡ decimal n
  pub least : 1 ≤ n
  pub greatest : n ≤ most

-- a byte from `0` to `9`
abbrev pub IsDigit : ℕ → Type 0
IsDigit b = (48 ≤ b) × (b ≤ 57)

abbrev pub digit_of : ℕ → ℕ
digit_of b = b - 48

-- a text that is a list of choices: a digit for each, from none on
pub record IsChoices (text choices : List ℕ) : Type 0 where
  pub digits : Every IsDigit text
  pub are : choices ≡ map digit_of text

-- a text that is the name of a kind of generated programs
abbrev pub IsKind : List ℕ → Kind → Type 0
IsKind text ListPhases = text ≡ codes "list"
IsKind text DllPhases = text ≡ codes "dll"
IsKind text TreePhases = text ≡ codes "tree"

-- what `malloc` may answer, by what `clap` finds under the name of the flag: `true` where the words have it
abbrev pub IsMode : Option (List ℕ) → MallocMode → Type 0
IsMode found Always = found ≢ Some (codes "true")
IsMode found MayFail = found ≡ Some (codes "true")

-- there is a text, and this is its value
abbrev pub Reads : {V : Type 0} → (List ℕ → V → Type 0) → Option (List ℕ) → V → Type 0
Reads IsValue None value = ⊥
Reads IsValue (Some text) value = IsValue text value

-- the value of an option: what its text reads as, and the default where it is not named
abbrev pub IsOption : {V : Type 0} → (List ℕ → V → Type 0) → V → Option (List ℕ) → V → Type 0
IsOption IsValue default None value = value ≡ default
IsOption IsValue default (Some text) value = IsValue text value
