use Rattle.ta_core.proofs.Shifting.{shifted_ranked, shifted_same_language}
use Rattle.ta_core.proofs.joining.rename.Goals as goal

pub invariant_of-result : goal.invariant_of-result
invariant_of-result c = rw (c.in_ok-roots.ensures, c.as_slice.ensures, c.in_ok-rules.ensures, c.as_slice-2.ensures)
    (shifted_ranked c.args.by
    (record { states = c.auto.inside.states; roots = c.auto.inside.roots; rules = c.auto.inside.rules })
    c.auto.invariant)

pub returns-clause-language : goal.returns-clause-language
returns-clause-language c =
    rw (← c.auto.view_is, c.in_ok-roots.ensures, c.as_slice.ensures, c.in_ok-rules.ensures, c.as_slice-2.ensures)
    (shifted_same_language c.args.by
    (record { states = c.auto.inside.states; roots = c.auto.inside.roots; rules = c.auto.inside.rules }))
