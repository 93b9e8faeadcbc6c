use Rattle.std.proofs.Common.{◌<◌, refl}
use Rattle.fore_base.proofs.ListLemmas.{every_in, in_every}
use Rattle.ta_reduce.proofs.rooting.with_roots_once.Goals as goal

pub invariant_of-result : goal.invariant_of-result
invariant_of-result c =
    let same = rw c.as_slice.ensures at c.in_ok-roots.ensures.same in
    rw c.in_ok-rules.ensures
    ((
      in_every (λ q. q < c.auto.inside.states) c.in_ok-roots.roots
          (λ q i. every_in (λ x. x < c.auto.inside.states) c.auto.inside.roots q c.auto.invariant.0 ((same q).0 i)),
      c.auto.invariant.1,
    ))

pub returns : goal.returns
returns c =
    let same = rw c.as_slice.ensures at c.in_ok-roots.ensures.same in
    rw (← c.auto.view_is, c.in_ok-rules.ensures) (c.in_ok-roots.roots, refl, c.in_ok-roots.ensures.once, same)
