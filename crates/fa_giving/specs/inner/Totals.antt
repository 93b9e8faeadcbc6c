-- How often the trees of a choice give a field at a root, together: the greatest number and the least.
use Rattle.std.specs.Prelude.{
  ◌≡◌,
  ◌⊎◌,
  ◌≤◌,
  ℕ,
  ◌+◌,
  Bool,
  true,
  false,
  ◌&&◌,
  ◌||◌,
  List,
  [],
  ◌∷◌,
  ◌++◌,
  map,
  flat_map,
  Some,
}
use Rattle.std.specs.Prelude.{slice_get, slice_set, replicate}
use Rattle.fore_base.specs.Lists.{IsIn, Every, sum_of}
use Rattle.fore_base.specs.declared.store.Datum.{Datum}
use Rattle.ta_core.specs.Auto.{Automaton}
use Rattle.ta_core.specs.Language.{InLanguage}
use Rattle.ta_core.specs.declared.auto.Rule.{Rule}
use Rattle.ta_core.specs.declared.symbol.Slot.{Slot}
use Rattle.ta_core.specs.declared.symbol.Symbol.{Symbol}
use Rattle.ta_core.specs.declared.symbol.Symbol.TheVariants.{Null, Uninit, Dangling, Ref, Cell}
use Rattle.ta_core.specs.declared.tree.Tree.{Tree, out-Tree}
use Rattle.fa_core.specs.declared.faces.BoxFace.{BoxFace}
use Rattle.fa_core.specs.declared.faces.Face.{Face}
use Rattle.fa_core.specs.Filled.{Choice, covers, fields_of, given_at}
use Rattle.fa_core.specs.Rearranged.{often}
use Rattle.fa_filling.specs.Parted.{chosen}
use Rattle.fa_giving.specs.declared.worths.Worth.{Worth}
use Rattle.fa_giving.specs.declared.totals.Extremes.{Extremes}
use Rattle.fa_giving.specs.declared.totals.Given.{Given}
use Rattle.fa_giving.specs.declared.totals.Given.TheVariants.{Nothing, Each}
use Rattle.fa_giving.specs.inner.Worths.{weigh, refers, worth_at, joined, most_below, none_below, capped}

-- how often the tree gives it
abbrev pub gives : List BoxFace → ℕ → ℕ → Tree → ℕ
gives bs r f t = weigh bs r f t 0

-- the greatest number, counted up to 2, and whether the least is 0, for the things of which L speaks
pub record IsExtremes {X : Type 0} (n : X → ℕ) (L : X → Type 0) (e : Extremes) : Type 0 where
  pub low : e.most ≤ 2
  pub most_real : (x : X) × L x × (e.most ≤ n x)
  pub most_all : (x : X) → L x → (n x ≤ e.most) ⊎ (e.most ≡ 2)
  pub none_real : e.none ≡ true → (x : X) × L x × (n x ≡ 0)
  pub none_all : (x : X) → L x → n x ≡ 0 → e.none ≡ true

-- so for the trees of an automaton
abbrev pub AreExtremes : List BoxFace → ℕ → ℕ → Automaton → Extremes → Type 0
AreExtremes bs r f a e = IsExtremes (gives bs r f) (InLanguage a) e

abbrev pub extremes_of : Worth → Extremes
extremes_of x = record { most = most_below 0 x; none = none_below 0 x }

-- nothing is given
abbrev pub none_given : Extremes
none_given = record { most = 0; none = true }

-- for each of n components what its trees give
abbrev pub extremes_in : ℕ → Given → List Extremes
extremes_in n Nothing = replicate n none_given
extremes_in n (Each all) = all

abbrev pub added : Extremes → Extremes → Extremes
added x y = record { most = capped (x.most + y.most); none = x.none && y.none }

-- all together
abbrev pub total : Extremes → List Extremes → Extremes
total x [] = x
total x (e ∷ es) = total (added x e) es

-- what is said of the states together
abbrev pub worth_of : List Worth → Worth → List ℕ → Worth
worth_of table x [] = x
worth_of table x (q ∷ qs) = worth_of table (joined x (worth_at table q)) qs

-- some rule is the reference to the root
abbrev pub names_root : ℕ → List Rule → Bool
names_root r [] = false
names_root r (o ∷ rules) = refers r o.symbol || names_root r rules

-- how often the trees give it together
abbrev pub all_give : List BoxFace → ℕ → ℕ → List Tree → ℕ
all_give bs r f ts = sum_of (map (gives bs r f) ts)

-- Roots.

-- a field stands as often as it must: at a port once at most, else as often as the struct has it
abbrev pub Fits : Bool → ℕ → ℕ → Type 0
Fits true need n = n ≤ 1
Fits false need n = n ≡ need

-- what the extremes say of that, where the cell has it c times by its own slots
abbrev pub AllFit : Bool → ℕ → ℕ → Extremes → Type 0
AllFit true need c e = c + e.most ≤ 1
AllFit false need c e = (c + e.most ≤ need) × ((need ≤ c) ⊎ (e.none ≡ false))

-- so for the cell of root r, if its tree has one at its top
abbrev pub IsGivenRight : Face → Bool → ℕ → ℕ → List Tree → Type 0
IsGivenRight face port r f ts = (t : Tree) (s : ℕ) (ds : List Datum) (ss : List Slot) → slice_get ts r ≡ Some t
    → (out-Tree t).symbol ≡ Cell s ds ss → Fits port (often f (fields_of face.shapes.structs s))
    (often f (flat_map (covers face.boxes) ss ++ given_at face.boxes ts r))

-- P holds of each choice, or fails for one
abbrev pub ForAll : List Automaton → (List Tree → Type 0) → Bool → Type 0
ForAll autos P true = (ts : List Tree) → Choice autos ts → P ts
ForAll autos P false = (ts : List Tree) × Choice autos ts × (P ts → ⊥)

-- P holds of each choice in which the tree of root r is by rule o of its component a, or fails for some choice
abbrev pub ForTop : List Automaton → ℕ → Automaton → Rule → (List Tree → Type 0) → Bool → Type 0
ForTop autos r a o P true = (ts : List Tree) → Choice (slice_set autos r (chosen a (o ∷ []))) ts → P ts
ForTop autos r a o P false = (ts : List Tree) × Choice autos ts × (P ts → ⊥)

-- the fields that boxes give
abbrev pub given_fields : List BoxFace → List ℕ
given_fields bs = flat_map (λ x. x.gives_out) bs

-- the fields of a cell with the symbol, and those that its slots cover
abbrev pub symbol_fields : Face → Symbol → List ℕ
symbol_fields face Null = []
symbol_fields face Uninit = []
symbol_fields face Dangling = []
symbol_fields face (Ref k) = []
symbol_fields face (Cell s ds ss) = fields_of face.shapes.structs s ++ flat_map (covers face.boxes) ss

-- those of the rules
abbrev pub rule_fields : Face → List Rule → List ℕ
rule_fields face rules = flat_map (λ o. symbol_fields face o.symbol) rules

-- each number of xs is in ys
abbrev pub AreIn : List ℕ → List ℕ → Type 0
AreIn ys xs = Every (λ x. IsIn x ys) xs

-- the number is one more of the numbers, if it was none
pub record Adds (n : ℕ) (old new : List ℕ) : Type 0 where
  pub there : IsIn n new
  pub kept : (m : ℕ) → IsIn m old → IsIn m new
  pub only : (m : ℕ) → IsIn m new → IsIn m old ⊎ (m ≡ n)
