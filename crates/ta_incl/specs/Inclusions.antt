-- What an answer on inclusion carries: pairs of a state of the left automaton and a set of states of the right one (CAV
-- 2011, section 4), or a tree.
use Rattle.std.specs.Prelude.{◌≡◌, ◌↔◌, ℕ, List, slice_get, Some}
use Rattle.fore_base.specs.Lists.{IsIn, Every, Paired}
use Rattle.ta_core.specs.Auto.{Automaton}
use Rattle.ta_core.specs.Joined.{shift, united}
use Rattle.ta_core.specs.Language.{InLanguage}
use Rattle.ta_core.specs.Simulations.{IsSimulatedUpward}
use Rattle.ta_core.specs.declared.auto.Rule.{Rule}
use Rattle.ta_core.specs.declared.tree.Tree.{Tree}
use Rattle.ta_incl.specs.declared.inclusion.Pair.{Pair}
use Rattle.ta_incl.specs.declared.inclusion.Inclusion.{Inclusion}
use Rattle.ta_incl.specs.declared.inclusion.Inclusion.TheVariants.{Yes, No}

-- each state of the one set is in the other
abbrev pub IsSubset : List ℕ → List ℕ → Type 0
IsSubset ps qs = Every (λ p. IsIn p qs) ps

-- no two pairs of one state have one's set within the other's
abbrev pub IsAntichain : List Pair → Type 0
IsAntichain pairs = (i j : ℕ) (x y : Pair) → slice_get pairs i ≡ Some x → slice_get pairs j ≡ Some y → x.state ≡ y.state
    → IsSubset x.set y.set → i ≡ j

-- p is below q: the greatest upward simulation by equality on the disjoint union of both automata relates p to q
abbrev pub IsBelow : Automaton → Automaton → ℕ → ℕ → Type 0
IsBelow a b p q = IsSimulatedUpward (united a b) (λ x y. x ≡ y) p q

-- the first pair subsumes the second: the second's state is below the first's, and each state of the first's set is
-- below one of the second's. In the union the states of b stand behind those of a
abbrev pub Subsumes : Automaton → Automaton → Pair → Pair → Type 0
Subsumes a b x y = IsBelow a b y.state x.state
    × Every (λ r. (p : ℕ) × IsIn p y.set × IsBelow a b (shift a.states r) (shift a.states p)) x.set

-- a rule of b with the symbol leads from the sets in its children's places to state p
abbrev pub Leads : Automaton → Rule → List Pair → ℕ → Type 0
Leads b r xs p = (s : Rule) × IsIn s b.rules × (s.state ≡ p) × (s.symbol ≡ r.symbol)
    × Paired (λ q x. IsIn q x.set) s.children xs

-- the rule r of a gives the pair y on the pairs xs: its state, with all the states to which rules of b with its symbol
-- lead
abbrev pub Gives : Automaton → Rule → List Pair → Pair → Type 0
Gives b r xs y = (y.state ≡ r.state) × ((p : ℕ) → IsIn p y.set ↔ Leads b r xs p)

-- the rule's children are the states of the pairs, which are of the list
abbrev pub AreFor : List Pair → Rule → List Pair → Type 0
AreFor pairs r xs = Paired (λ q x. (x.state ≡ q) × IsIn x pairs) r.children xs

-- what a rule of a gives on pairs of the list, a pair of the list subsumes
abbrev pub IsClosed : Automaton → Automaton → List Pair → Type 0
IsClosed a b pairs = (r : Rule) (xs : List Pair) (y : Pair) → IsIn r a.rules → AreFor pairs r xs → Gives b r xs y
    → (z : Pair) × IsIn z pairs × Subsumes a b z y

-- each pair with a root state of a has a root state of b in its set
abbrev pub MeetsRoots : Automaton → Automaton → List Pair → Type 0
MeetsRoots a b pairs = Every (λ x. IsIn x.state a.roots → (q : ℕ) × IsIn q x.set × IsIn q b.roots) pairs

-- the tree is one of a and none of b
abbrev pub IsMissing : Automaton → Automaton → Tree → Type 0
IsMissing a b t = InLanguage a t × (InLanguage b t → ⊥)

-- where the answer is Yes, its pairs meet P
abbrev pub IfYes : (List Pair → Type 0) → Inclusion → Type 0
IfYes P (Yes pairs) = P pairs
IfYes P (No tree) = Unit {0}

-- where the answer is No, its tree meets P
abbrev pub IfNo : (Tree → Type 0) → Inclusion → Type 0
IfNo P (Yes pairs) = Unit {0}
IfNo P (No tree) = P tree
