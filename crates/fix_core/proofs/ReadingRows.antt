-- Worked values of kept forests read as forests, and of which of them cover others, each made by hand.
use Rattle.std.proofs.Common.{◌≡◌, ℕ, List, [], ◌∷◌, Some, None, true, false, refl, inl, inr, subst}
use Rattle.fore_base.specs.declared.store.Datum.TheVariants.{Known}
use Rattle.ta_core.specs.Auto.{Automaton}
use Rattle.ta_core.specs.Language.{InLanguage, IsWithin, run_none}
use Rattle.ta_core.specs.declared.auto.Rule.{Rule}
use Rattle.ta_core.specs.declared.symbol.Symbol.TheVariants.{Null as NullLeaf}
use Rattle.ta_core.proofs.Runs.{tree_of, run_tree}
use Rattle.fa_core.specs.Covering.{Covers}
use Rattle.fa_core.specs.declared.forest.Target.{Target}
use Rattle.fa_core.specs.declared.forest.Target.TheVariants.{Null, Uninit}
use Rattle.fa_pool.specs.declared.kept.Kept.{Kept}
use Rattle.fix_core.specs.Counted.{rules_in}
use Rattle.fix_core.specs.Reads.{no_states, auto_at, read, read_if}
use Rattle.fix_core.specs.inner.Holding.{IsCoveredBy}

-- the rule of a leaf that is null, an automaton whose one tree this leaf is, and one that has no tree
abbrev leaf : Rule
leaf = record { state = 0; symbol = NullLeaf; children = [] }

abbrev one : Automaton
one = record { states = 1; roots = 0 ∷ []; rules = leaf ∷ [] }

abbrev none : Automaton
none = record { states = 1; roots = []; rules = [] }

-- a pool of both, and forests that are kept in it
abbrev pool : List Automaton
pool = one ∷ none ∷ []

abbrev kept : List Target → List ℕ → Kept
kept vs ns = record { parts = ns; vars = vs; data_vars = Known 7 ∷ [] }

abbrev full : Kept
full = kept [] (0 ∷ [])

abbrev empty : Kept
empty = kept [] (1 ∷ [])

-- a kept forest reads as its automata in the order of its numbers, with its targets and data
reads_in_order : read pool (kept (Null ∷ []) (1 ∷ 0 ∷ 1 ∷ []))
    ≡ record { autos = none ∷ one ∷ none ∷ []; vars = Null ∷ []; data_vars = Known 7 ∷ [] }
reads_in_order = refl

reads_past_the_end : auto_at pool 2 ≡ no_states
reads_past_the_end = refl

-- one rule, none, and three: each automaton counts as often as it stands
rules_counted : rules_in (one ∷ none ∷ record one { rules = leaf ∷ leaf ∷ leaf ∷ [] } ∷ one ∷ []) ≡ 5
rules_counted = refl

no_rules_counted : rules_in [] ≡ 0
no_rules_counted = refl

reads_none : read_if pool None ≡ None
reads_none = refl

reads_some : read_if pool (Some full) ≡ Some (read pool full)
reads_some = refl

-- the automaton with a tree is not within that without one
null_in_one : InLanguage one (tree_of NullLeaf [])
null_in_one = (0, inl refl, run_tree one.rules leaf [] (inl refl) run_none)

one_not_within_none : IsWithin one none → ⊥
one_not_within_none w = (w (tree_of NullLeaf []) null_in_one).1

none_within_one : IsWithin none one
none_within_one t l = absurd l.1

full_covers_empty : IsCoveredBy pool (empty ∷ full ∷ []) empty true
full_covers_empty =
    (full, inr (inl refl), record { vars = refl; data_vars = refl; within = (none_within_one, tt) })

empty_covers_no_full : IsCoveredBy pool (empty ∷ []) full false
empty_covers_no_full wide (inl same) c =
    one_not_within_none (subst (λ (k : Kept). Covers (read pool k) (read pool full)) same c).within.0
empty_covers_no_full wide (inr i) c = i

no_targets_are_one : {v : Target} → [] ≡ v ∷ [] → ⊥
no_targets_are_one e = cc

other_targets_cover_none : IsCoveredBy pool (kept (Uninit ∷ []) (0 ∷ []) ∷ []) full true → ⊥
other_targets_cover_none h = elim h.1 [
  | inl same ↦
      no_targets_are_one (subst (λ (k : Kept). Covers (read pool k) (read pool full)) same h.2).vars
  | inr i ↦ i
]
