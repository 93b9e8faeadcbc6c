use Rattle.std.proofs.Common.{List, [], sym, subst}
use Rattle.ta_core.specs.Auto.{IsRanked}
use Rattle.ta_core.specs.declared.auto.Rule.{Rule}
use Rattle.fa_folding.specs.Gaining.{with_rules}
use Rattle.fa_folding.proofs.RankedRules.{with_ranked}
use Rattle.fa_folding.proofs.gaining.output_auto.Goals as goal

pub gained_auto-requires-clause-base : goal.gained_auto-requires-clause-base
gained_auto-requires-clause-base c =
    let a = c.args.auto.now in
    subst (λ (xs : List Rule). IsRanked (with_rules a xs)) (sym c.new.ensures) (with_ranked a [] c.known.ensures tt)
