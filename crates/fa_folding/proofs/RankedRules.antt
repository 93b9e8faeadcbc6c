-- Automata with further rules at a state of their own keep their ranges.
use Rattle.std.proofs.Common.{ℕ, ◌+◌, List, refl, Option, Some, None, arith}
use Rattle.fore_base.specs.Lists.{Every}
use Rattle.fore_base.proofs.ListLemmas.{every_append}
use Rattle.ta_core.specs.Auto.{Automaton, IsRanked, IsRankedRule}
use Rattle.ta_core.specs.declared.auto.Rule.{Rule}
use Rattle.fa_split.proofs.FreshStates.{rules_more, states_more}
use Rattle.fa_folding.specs.Gaining.{edge_rules, with_rules}

pub with_ranked : (a : Automaton) (xs : List Rule) → IsRanked a → Every (IsRankedRule (a.states + 1)) xs
    → IsRanked (with_rules a xs)
with_ranked a xs ranked h = (
  states_more a.states (a.states + 1) (omega arith) a.roots ranked.0,
  every_append (IsRankedRule (a.states + 1)) a.rules xs
      (rules_more a.states (a.states + 1) (omega arith) a.rules ranked.1) h,
)

pub edge_ranked : (q : ℕ) (o : Option ℕ) → Every (IsRankedRule (q + 1)) (edge_rules q o)
edge_ranked q None = tt
edge_ranked q (Some j) = ((omega arith, tt, refl), tt)
