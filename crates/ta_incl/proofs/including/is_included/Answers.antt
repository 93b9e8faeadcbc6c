use Rattle.std.proofs.Common.{refl, ap, subst, ◌∙◌}
use Rattle.ta_core.specs.Auto.{Automaton, IsRanked}
use Rattle.ta_core.specs.Language.{IsWithin}
use Rattle.ta_incl.proofs.Answering.{answer_exact}
use Rattle.ta_incl.proofs.including.is_included.Goals as goal

pub returns : goal.returns
returns c =
    let h =
    rw (
      c.as_slice.ensures ∙ ap (λ (a : Automaton). a.roots) c.left.view_is,
      c.as_slice-2.ensures
          ∙ ap (λ (a : Automaton). a.roots) c.right.view_is,
      c.as_slice-3.ensures,
    ) at c.failing-place.ensures in
    let pa = subst (λ (a : Automaton). IsRanked a) c.left.view_is c.left.invariant in
    let pb = subst (λ (a : Automaton). IsRanked a) c.right.view_is c.right.invariant in
    answer_exact c.args.left.now c.args.right.now pa pb c.in_ok-search.search.orders c.in_ok-search.search.found
    c.failing-place.result c.is_none.result c.in_ok-search.ensures h c.is_none.ensures

pub returns-then-are_equal : goal.returns-then-are_equal
returns-then-are_equal c =
    let e = c.are_equal.ensures.0 c.if-are_equal.true in
    (λ _. subst (IsWithin c.args.left.now) e (λ t l. l), λ _. refl)
