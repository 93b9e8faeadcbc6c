use Rattle.fa_cover.specs.inner.Tops.{KeepsTops}
use Rattle.fa_cover.proofs.Pairs.{IsUpTo}
use Rattle.fa_cover.proofs.tops.keep_tops.Given as goal

abbrev pub invariant-loop-place : goal.invariant-loop-place
invariant-loop-place l = IsUpTo KeepsTops l.narrow l.wide l.place
