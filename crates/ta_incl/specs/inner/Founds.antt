-- The pairs of a search for inclusion, from what they are derived, and which of them cover which.
use Rattle.std.specs.Prelude.{◌≡◌, ◌↔◌, ℕ, ◌<◌, Bool, true, false, ◌||◌, nat_eq, List, [], ◌∷◌, ◌++◌, length, map}
use Rattle.std.specs.Prelude.{take, slice_get, Option, None, Some, MatchBool}
use Rattle.fore_base.specs.Lists.{IsIn, Every, Paired}
use Rattle.ta_core.specs.Auto.{Automaton}
use Rattle.ta_core.specs.Language.{RunOf}
use Rattle.fore_base.specs.Marks.{IsMarked, MarksOf, some_marked}
use Rattle.ta_core.specs.Tops.{Tops, AreStatesOf}
use Rattle.ta_core.specs.declared.auto.Rule.{Rule}
use Rattle.ta_core.specs.declared.tree.Tree.{Tree}
use Rattle.ta_incl.specs.declared.exploring.Turn.{Turn}
use Rattle.ta_incl.specs.declared.found.Found.{Found}
use Rattle.ta_incl.specs.declared.inclusion.Pair.{Pair}
use Rattle.ta_incl.specs.declared.order.Order.{Order}
use Rattle.ta_incl.specs.declared.order.Orders.{Orders}
use Rattle.ta_incl.specs.declared.searching.Search.{Search}
use Rattle.ta_incl.specs.inner.Orders.{AreOrdered, AreUpward, IsUnder}

-- each marked state of the one set has a mark in the other
abbrev pub IsPart : List Bool → List Bool → Type 0
IsPart ms ns = (q : ℕ) → IsMarked ms q → IsMarked ns q

-- f covers g: g's state is below f's, and each state of f's set is below one of g's
abbrev pub IsCover : Order → Found → Found → Type 0
IsCover order f g = AreOrdered order g.state f.state × IsPart f.marks g.under

-- one of the pairs does
abbrev pub HasCover : Order → List Found → Found → Type 0
HasCover order found g = (f : Found) × IsIn f found × IsCover order f g

-- no pair is covered by an earlier one
abbrev pub AreFresh : Order → List Found → Type 0
AreFresh order [] = Unit {0}
AreFresh order (f ∷ fs) = Every (λ g. IsCover order f g → ⊥) fs × AreFresh order fs

-- no pair is covered by another one
abbrev pub AreApart : Order → List Found → Type 0
AreApart order [] = Unit {0}
AreApart order (f ∷ fs) = Every (λ g. (IsCover order f g → ⊥) × (IsCover order g f → ⊥)) fs × AreApart order fs

-- the pair has those states of b that are below one of its set
abbrev pub HasUnder : Automaton → Order → Found → Type 0
HasUnder b order f = MarksOf b.states (λ m. (m < b.states) × IsUnder order f.marks m) f.under

-- the pair is of a state of a and a set of states of b
pub record IsProper (a b : Automaton) (orders : Orders) (f : Found) : Type 0 where
  pub state : f.state < a.states
  pub long : length f.marks ≡ b.states
  pub under : HasUnder b orders.right f

-- the pairs stand at these places of the list
abbrev pub AreAt : List Found → List ℕ → List Found → Type 0
AreAt found = Paired (λ i f. slice_get found i ≡ Some f)

-- the states are those of the pairs
abbrev pub HaveStates : List ℕ → List Found → Type 0
HaveStates = Paired (λ q f. f.state ≡ q)

-- the sets of the pairs
abbrev pub sets_of : List Found → List (List Bool)
sets_of = map (λ f. f.marks)

-- the pairs at the places have the states of the rule's first children
abbrev pub IsBegun : List Found → Rule → List ℕ → Type 0
IsBegun found r places = (items : List Found) × AreAt found places items
    × HaveStates (take (length places) r.children) items

-- those at the places have the states of all its children
abbrev pub IsFull : List Found → Rule → List ℕ → Type 0
IsFull found r places = (items : List Found) × AreAt found places items × HaveStates r.children items

-- f is what the rule, which has this place, gives over the pairs at f's places: its state, with all the states to which
-- rules of b lead from their sets
pub record IsFrom (b : Automaton) (found : List Found) (place : ℕ) (r : Rule) (f : Found) : Type 0 where
  pub rule : f.rule ≡ place
  pub state : f.state ≡ r.state
  pub items : List Found
  pub from : AreAt found f.from items
  pub children : HaveStates r.children items
  pub marks : MarksOf b.states (Tops b.rules r.symbol (sets_of items)) f.marks

-- so does one of the rules
abbrev pub IsDerived : List Rule → Automaton → List Found → Found → Type 0
IsDerived rules b found f = (r : Rule) × (slice_get rules f.rule ≡ Some r) × IsFrom b found f.rule r f

-- each pair is derived from pairs at earlier places
abbrev pub AreDerived : List Rule → Automaton → List Found → Type 0
AreDerived rules b found = (place : ℕ) (f : Found) → slice_get found place ≡ Some f → IsDerived rules b found f
    × Every (λ i. i < place) f.from

-- one of the pairs covers what the rule gives over the items: the rule's state is below the pair's, and each state of
-- its set is below one to which rules of b with the symbol lead from the sets of the items
pub record IsCovered (b : Automaton) (orders : Orders) (found : List Found) (r : Rule) (items : List Found)
    : Type 0 where
  pub pair : Found
  pub in_found : IsIn pair found
  pub state : AreOrdered orders.left r.state pair.state
  pub set : (m : ℕ) → IsMarked pair.marks m → (k : ℕ) × Tops b.rules r.symbol (sets_of items) k
      × AreOrdered orders.right m k

-- g's state is below f's, and each state of f's set is below one of g's
pub record IsAbove (orders : Orders) (f g : Found) : Type 0 where
  pub state : AreOrdered orders.left g.state f.state
  pub set : (m : ℕ) → IsMarked f.marks m → (k : ℕ) × IsMarked g.marks k × AreOrdered orders.right m k

-- so place by place
abbrev pub AreAbove : Orders → List Found → List Found → Type 0
AreAbove orders = Paired (IsAbove orders)

-- what the rule gives over the items at the places, found covers
abbrev pub CoversAt : Automaton → Orders → List Found → List Found → Rule → List ℕ → Type 0
CoversAt b orders old found r places = (items : List Found) → AreAt old places items → IsCovered b orders found r items

-- whether the place is one of these
abbrev pub is_among : ℕ → List ℕ → Bool
is_among i [] = false
is_among i (j ∷ js) = nat_eq j i || is_among i js

-- whether the pair that is taken up, if there is one, is at one of the places
abbrev pub is_due : Option ℕ → List ℕ → Bool
is_due None places = true
is_due (Some i) places = is_among i places

-- each mark says whether no later pair covers the pair in its place
abbrev pub AreLasting : Order → List Found → List Bool → Type 0
AreLasting order [] [] = Unit {0}
AreLasting order [] (m ∷ ms) = ⊥
AreLasting order (f ∷ fs) [] = ⊥
AreLasting order (f ∷ fs) (m ∷ ms) = MatchBool m (HasCover order fs f → ⊥) (HasCover order fs f)
    × AreLasting order fs ms

-- what the rule gives over the pairs at the places and at further ones that are ready, of which one is taken up, found
-- covers
abbrev pub CoversFrom : Automaton → Orders → List Found → Turn → List Found → Rule → List ℕ → Type 0
CoversFrom b orders old turn found r places = (rest : List ℕ) (items : List Found) → AreAt old (places ++ rest) items
    → Every (IsMarked turn.ready) rest → HaveStates r.children items → is_due turn.at (places ++ rest) ≡ true
    → IsCovered b orders found r items

-- what the rule gives over found pairs, found covers
abbrev pub CoversRule : Automaton → Orders → List Found → Rule → Type 0
CoversRule b orders found r = (items : List Found) → Every (λ f. IsIn f found) items → HaveStates r.children items
    → IsCovered b orders found r items

-- so for each of the rules
abbrev pub CoversRules : Automaton → Orders → List Found → List Rule → Type 0
CoversRules b orders found = Every (CoversRule b orders found)

-- pairs with P were added, none of which an earlier one covers, the old pairs counted
pub record Widens (order : Order) (P : Found → Type 0) (old before after : List Found) : Type 0 where
  pub more : List Found
  pub is : after ≡ before ++ more
  pub each : Every P more
  pub fresh : AreFresh order (old ++ before) → AreFresh order (old ++ after)

-- the pair has a root state of the left automaton, and none of the right one in its set
abbrev pub IsFailing : List ℕ → List ℕ → Found → Type 0
IsFailing lefts rights f = IsIn f.state lefts × (some_marked f.marks rights ≡ false)

-- the pairs of a search: they are derived, none is covered by an earlier one, and there are marks for those that no
-- later one covers, and for those that were taken up; where the search says so, one of them fails
pub record IsSearch (a b : Automaton) (orders : Orders) (x : Search) : Type 0 where
  pub derived : AreDerived a.rules b x.found
  pub proper : Every (IsProper a b orders) x.found
  pub fresh : AreFresh orders.left x.found
  pub lasting : AreLasting orders.left x.found x.live
  pub taken : length x.taken ≡ length x.found
  pub fails : x.failed ≡ true → (f : Found) × IsIn f x.found × IsFailing a.roots b.roots f

-- the pair at the place was taken up, and no later one covers it
abbrev pub IsReady : Search → ℕ → Type 0
IsReady x i = IsMarked x.live i × IsMarked x.taken i

-- what the rules give over pairs that are ready, at places with P, the search covers
abbrev pub CoversReady : Automaton → Automaton → Orders → Search → (List ℕ → Type 0) → Type 0
CoversReady a b orders x P = (r : Rule) (places : List ℕ) (items : List Found) → IsIn r a.rules
    → AreAt x.found places items → Every (IsReady x) places → HaveStates r.children items → P places
    → IsCovered b orders x.found r items

-- the pairs are derived, and none is covered by an earlier one; and where none fails, they cover what the rules give
-- over them
pub record IsExplored (a b : Automaton) (orders : Orders) (found : List Found) : Type 0 where
  pub upward : AreUpward a b orders
  pub derived : AreDerived a.rules b found
  pub proper : Every (IsProper a b orders) found
  pub fresh : AreFresh orders.left found
  pub closed : Every (λ f. IsFailing a.roots b.roots f → ⊥) found → CoversRules b orders found a.rules

-- the tree has a run of the left rules to the state of the pair at the place, and runs of b to the states of its set
-- alone
abbrev pub IsTreeAt : List Rule → Automaton → List Found → ℕ → Tree → Type 0
IsTreeAt rules b found place t = (f : Found) × (slice_get found place ≡ Some f) × RunOf rules f.state t
    × AreStatesOf b.rules b.states t f.marks

-- the state is below that of one of the pairs, and each state of its set is below one to which the tree has a run
pub record StandsFor (b : Automaton) (orders : Orders) (found : List Found) (q : ℕ) (t : Tree) : Type 0 where
  pub pair : Found
  pub in_found : IsIn pair found
  pub state : AreOrdered orders.left q pair.state
  pub set : (m : ℕ) → IsMarked pair.marks m → (k : ℕ) × RunOf b.rules k t × AreOrdered orders.right m k

-- the kept ones are of the found pairs, none is covered by another one, and each found pair is covered by one of them
pub record IsThinned (order : Order) (found kept : List Found) : Type 0 where
  pub of : Every (λ f. IsIn f found) kept
  pub apart : AreApart order kept
  pub cover : Every (HasCover order kept) found

-- the pair has the state and the marked states
abbrev pub IsPairOf : Found → Pair → Type 0
IsPairOf f x = (x.state ≡ f.state) × ((q : ℕ) → IsIn q x.set ↔ IsMarked f.marks q)
