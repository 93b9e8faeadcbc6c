-- The roots to which trees refer, as the code finds them.
use Rattle.std.specs.Prelude.{◌≡◌, ℕ, Bool, true, false, List, [], flat_map, Option, Some}
use Rattle.fore_base.specs.Lists.{Paired}
use Rattle.ta_core.specs.Auto.{Automaton}
use Rattle.ta_core.specs.Language.{InLanguage, RunOf}
use Rattle.ta_core.specs.declared.tree.Tree.{Tree}
use Rattle.fa_core.specs.Folding.{taken, left, top_places, place_refs}
use Rattle.fa_core.specs.Ways.{roots_met, ways}
use Rattle.fa_part.specs.inner.Thin.{Thin}

-- the roots to which each tree of the component's state refers, in the order of first visit
abbrev pub AreStateRefs : Option Automaton → ℕ → List ℕ → Type 0
AreStateRefs o q rs = (a : Automaton) (t : Tree) → o ≡ Some a → RunOf a.rules q t → rs ≡ roots_met (ways t)

-- those of the trees of these states, state by state, in one list
abbrev pub AreEdgeRefs : Option Automaton → List ℕ → List ℕ → Type 0
AreEdgeRefs o qs rs = (rss : List (List ℕ)) × Paired (AreStateRefs o) qs rss × (rs ≡ flat_map (λ x. x) rss)

-- the roots to which each tree of the automaton refers, in the order of first visit
abbrev pub AreRootRefs : Automaton → List ℕ → Type 0
AreRootRefs a rs = (t : Tree) → InLanguage a t → rs ≡ roots_met (ways t)

-- what the slots of the automaton's trees that are one of the fields refer to, without some that are there twice
abbrev pub AreTakenRefs : Option Automaton → List ℕ → List ℕ → Type 0
AreTakenRefs o fs rs = (a : Automaton) (t : Tree) → o ≡ Some a → InLanguage a t
    → Thin [] (place_refs (taken fs (top_places t))) rs

-- and the others
abbrev pub AreLeftRefs : Option Automaton → List ℕ → List ℕ → Type 0
AreLeftRefs o fs rs = (a : Automaton) (t : Tree) → o ≡ Some a → InLanguage a t
    → Thin [] (place_refs (left fs (top_places t))) rs

-- the first of these, where the fields are taken, and else the second
abbrev pub ArePickedRefs : Bool → Option Automaton → List ℕ → List ℕ → Type 0
ArePickedRefs true = AreTakenRefs
ArePickedRefs false = AreLeftRefs
