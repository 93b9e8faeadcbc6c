use Rattle.ta_core.proofs.Shifting.{united_proper, united_union}
use Rattle.ta_core.proofs.joining.union.Goals as goal

pub invariant_of-result : goal.invariant_of-result
invariant_of-result c = rw (
  c.in_ok-append.ensures.ok,
  c.in_ok-roots.ensures,
  c.in_ok-more_roots.ensures,
  c.as_slice.ensures,
  c.in_ok-append-2.ensures.ok,
  c.in_ok-rules.ensures,
  c.in_ok-more_rules.ensures,
  c.as_slice-2.ensures,
)
    (united_proper (record { states = c.left.inside.states; roots = c.left.inside.roots; rules = c.left.inside.rules })
    (record { states = c.right.inside.states; roots = c.right.inside.roots; rules = c.right.inside.rules })
    c.left.invariant c.right.invariant)

pub returns-clause-language : goal.returns-clause-language
returns-clause-language c =
    rw (
      ← c.left.view_is,
      ← c.right.view_is,
      c.in_ok-append.ensures.ok,
      c.in_ok-roots.ensures,
      c.in_ok-more_roots.ensures,
      c.as_slice.ensures,
      c.in_ok-append-2.ensures.ok,
      c.in_ok-rules.ensures,
      c.in_ok-more_rules.ensures,
      c.as_slice-2.ensures,
    )
    (united_union (record { states = c.left.inside.states; roots = c.left.inside.roots; rules = c.left.inside.rules })
    (record { states = c.right.inside.states; roots = c.right.inside.roots; rules = c.right.inside.rules })
    c.left.invariant)
