use Rattle.std.proofs.Common.{subst, Bool}
use Rattle.ta_core.specs.Language.{IsTrim}
use Rattle.fore_base.proofs.ListLemmas.{every_at}
use Rattle.fa_giving.specs.inner.Shaped.{IsOnceRoot}
use Rattle.fa_giving.specs.inner.Totals.{ForAll}
use Rattle.fa_giving.proofs.RootFields.{one_more}
use Rattle.fa_giving.proofs.below.are_below_once.Goals as goal

pub is_below_once-requires-clause-trim : goal.is_below_once-requires-clause-trim
is_below_once-requires-clause-trim c =
    every_at IsTrim c.args.autos.now c.loop-place.place c.index-autos-place.result c.requires.trim
    c.loop-place-test.true
    c.index-autos-place.is

pub loop-place-preserved : goal.loop-place-preserved
loop-place-preserved c =
    let face = c.args.face.now in
    let n = c.loop-place.place in
    let h = subst (λ (b : Bool). ForAll c.args.autos.now (IsOnceRoot face n) b) c.if-not-branch.false
    c.in_ok-is_below_once.ensures in
    λ ts k r l. one_more {Q = λ r. IsOnceRoot face r ts} n (λ r j. c.loop-place.invariant ts k r j) (h ts k) r l
