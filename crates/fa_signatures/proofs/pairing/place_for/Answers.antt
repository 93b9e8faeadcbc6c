use Rattle.std.proofs.Common.{sym, subst}
use Rattle.fore_base.specs.Lists.{IsDistinct}
use Rattle.fore_base.proofs.ListLemmas.{distinct_push}
use Rattle.fa_signatures.proofs.pairing.place_for.Goals as goal

pub returns-clause-apart : goal.returns-clause-apart
returns-clause-apart c =
    let none = rw c.as_slice.ensures at c.in_default.ensures in
    λ d. subst IsDistinct (sym c.in_ok-push.ensures.ok) (distinct_push c.args.pairs.now _ d none)
