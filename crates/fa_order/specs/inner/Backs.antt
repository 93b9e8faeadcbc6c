-- Ways back, by the signatures of the components.
use Rattle.std.specs.Prelude.{
  ◌≡◌,
  ◌≤◌,
  ◌<◌,
  ◌⊎◌,
  ℕ,
  true,
  length,
  nat_eq,
  if◌then◌else◌,
  List,
  [],
  ◌∷◌,
  ◌++◌,
  map,
  Option,
  Some,
  None,
  MatchOption,
}
use Rattle.fore_base.specs.Lists.{IsIn, Every}
use Rattle.fa_back.specs.Reached.{IsMarkAt}
use Rattle.fa_core.specs.Cells.{roots_in}
use Rattle.fa_core.specs.declared.signature.RefMark.{RefMark}
use Rattle.fa_core.specs.declared.signature.Signature.{Signature}
use Rattle.fa_order.specs.declared.ways_back.Giver.{Giver}
use Rattle.fa_order.specs.Placing.{GoesOnFrom, IsStuck, NoneOpen}
use Rattle.fa_order.specs.inner.Stacks.{nth_refs}

-- for each signature the roots of its marks
abbrev pub refs_of : List Signature → List (List ℕ)
refs_of ss = map (λ (s : Signature). roots_in s.refs) ss

-- by the mark of a root in tree j, a way back from it leads to root r
abbrev pub MarkLeads : ℕ → ℕ → RefMark → Type 0
MarkLeads j r m = ((r ≡ j) × (m.back ≡ true)) ⊎ IsIn r m.reach

-- by a mark of root i, a way back into tree j leads to root r
abbrev pub SignLeads : List RefMark → ℕ → ℕ → ℕ → Type 0
SignLeads ms i j r = (m : RefMark) × IsIn m ms × (m.root ≡ i) × MarkLeads j r m

-- by a mark of root i, field f is given to it
abbrev pub SignGives : List RefMark → ℕ → ℕ → Type 0
SignGives ms i f = (m : RefMark) × IsIn m ms × (m.root ≡ i) × IsIn f m.provided

-- by the signatures, a way back from root i into tree j leads to root r
abbrev pub LeadsBy : List Signature → ℕ → ℕ → ℕ → Type 0
LeadsBy ss i j r = (m : RefMark) × IsMarkAt ss j m × (m.root ≡ i) × MarkLeads j r m

-- by the signatures, box edges of tree j give field f to root i
abbrev pub GivesBy : List Signature → ℕ → ℕ → ℕ → Type 0
GivesBy ss i j f = (m : RefMark) × IsMarkAt ss j m × (m.root ≡ i) × IsIn f m.provided

-- by a mark of root i in tree j, a way back leads to a root that is not placed
abbrev pub SignOpen : List RefMark → List ℕ → ℕ → ℕ → Type 0
SignOpen ms placed i j = (r : ℕ) × (IsIn r placed → ⊥) × SignLeads ms i j r

-- a way back leads to the tree's own root, or to one to which the tree refers
abbrev pub AreLedWithin : List Signature → List (List ℕ) → Type 0
AreLedWithin ss refers = (i j r : ℕ) → LeadsBy ss i j r → (r ≡ j) ⊎ IsIn r (nth_refs refers j)

-- where nothing is left to visit, the walk has ended, or is stuck
abbrev pub IsAtEnd : List Signature → List ℕ → Type 0
IsAtEnd ss placed = NoneOpen (LeadsBy ss) placed ⊎ IsStuck (LeadsBy ss) (GivesBy ss) placed

-- the walk goes on from root r, which is there and not placed
pub record IsLedNext (ss : List Signature) (refers : List (List ℕ)) (placed : List ℕ) (r : ℕ) : Type 0 where
  pub fresh : IsIn r placed → ⊥
  pub low : r < length refers
  pub goes : GoesOnFrom (nth_refs refers) (LeadsBy ss) (GivesBy ss) placed r

-- the root to be visited next: what was on top of the stack, or, where that is empty, the one at which the walk goes on
abbrev pub IsNext : List Signature → List (List ℕ) → List ℕ → List ℕ → List ℕ → Option ℕ → Type 0
IsNext ss refers placed before after None = (before ≡ []) × IsAtEnd ss placed
IsNext ss refers placed before after (Some r) = (before ≡ r ∷ after)
    ⊎ ((before ≡ []) × (after ≡ []) × IsLedNext ss refers placed r)

-- The least field.

-- the fields that the marks of root r provide
abbrev pub fields_to : ℕ → List RefMark → List ℕ
fields_to r [] = []
fields_to r (m ∷ ms) = (if nat_eq m.root r then m.provided else []) ++ fields_to r ms

-- the least of the numbers, if there is one
abbrev pub IsLeastIn : List ℕ → Option ℕ → Type 0
IsLeastIn xs o = MatchOption o (xs ≡ []) (λ x. IsIn x xs × Every (λ y. x ≤ y) xs)

-- the giver of the lesser field of the two
abbrev pub IsLesser : Option Giver → Giver → Giver → Type 0
IsLesser best other g = ((g ≡ other) × ((b : Giver) → best ≡ Some b → other.field ≤ b.field))
    ⊎ ((best ≡ Some g) × (g.field ≤ other.field))

-- the giver that was the best, or tree j with these marks, where a way back into it is open and it gives a lesser field
abbrev pub IsBetter : List RefMark → List ℕ → ℕ → ℕ → Option Giver → Option Giver → Type 0
IsBetter ms placed i j best made =
    ((made ≡ best) × ((f : ℕ) → SignOpen ms placed i j → SignGives ms i f → (b : Giver) × (best ≡ Some b)
    × (b.field ≤ f)))
    ⊎ ((g : Giver) × (made ≡ Some g) × (g.into ≡ j) × SignOpen ms placed i j × SignGives ms i g.field
    × ((f : ℕ) → SignGives ms i f → g.field ≤ f) × ((b : Giver) → best ≡ Some b → g.field ≤ b.field))
