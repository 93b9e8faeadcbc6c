use Rattle.std.proofs.Common.{ℕ, List, ap, sym, subst, ◌∙◌}
use Rattle.ta_core.specs.Auto.{IsRanked}
use Rattle.ta_core.specs.declared.auto.Rule.{Rule}
use Rattle.fa_folding.specs.Gaining.{edge_rules, with_rules}
use Rattle.fa_folding.proofs.RankedRules.{edge_ranked, with_ranked}
use Rattle.fa_folding.proofs.gaining.input_auto.Goals as goal

pub gained_auto-requires-clause-base : goal.gained_auto-requires-clause-base
gained_auto-requires-clause-base c =
    let a = c.args.auto.now in
    subst (λ (xs : List Rule). IsRanked (with_rules a xs))
    (sym (c.in_ok-rules.ensures ∙ ap (λ (q : ℕ). edge_rules q c.args.output) c.states_of-state.ensures))
    (with_ranked a (edge_rules a.states c.args.output) c.known.ensures (edge_ranked a.states c.args.output))
