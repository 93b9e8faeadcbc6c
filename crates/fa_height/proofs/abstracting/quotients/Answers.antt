use Rattle.std.proofs.Common.{◌<◌, ℕ, length, take, subst}
use Rattle.fore_base.proofs.ListLemmas.{every_in, every_push, in_from_place, paired_push}
use Rattle.ta_core.specs.Language.{IsTrim}
use Rattle.fa_height.specs.Quotients.{IsQuotient}
use Rattle.fa_height.proofs.Joined.{get_there, take_there}
use Rattle.fa_height.proofs.abstracting.quotients.Goals as goal

pub quotient-requires-clause-trim : goal.quotient-requires-clause-trim
quotient-requires-clause-trim c =
    λ a e. every_in IsTrim c.args.forest.now.forest.autos a c.requires
    (in_from_place c.args.forest.now.forest.autos c.loop-root.root a e)

pub loop-root-preserved : goal.loop-root-preserved
loop-root-preserved c =
    let autos = c.args.forest.now.forest.autos in
    let less : c.loop-root.root < length autos = subst (λ (n : ℕ). c.loop-root.root < n)
    (rw c.forest.ensures at c.in_ok-count.ensures.value) c.loop-root-test.true in
    let a = get_there autos c.loop-root.root less in
    rw (c.in_ok-push.ensures.ok, take_there autos c.loop-root.root a.0 a.1) (
      paired_push (IsQuotient c.args.forest.now.face.boxes c.args.height) (take c.loop-root.root autos)
          c.loop-root.made a.0 c.in_ok-auto.auto c.loop-root.invariant.0 (c.in_ok-auto.ensures a.0 a.1),
      every_push _ _ _
          c.loop-root.invariant.1 c.known.ensures,
    )
