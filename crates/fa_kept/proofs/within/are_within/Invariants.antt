use Rattle.fa_cover.proofs.Pairs.{IsUpTo}
use Rattle.fa_kept.specs.Memos.{IsWithinAt}
use Rattle.fa_kept.specs.inner.Asking.{AreRight}
use Rattle.fa_kept.proofs.within.are_within.Given as goal

abbrev pub invariant-loop-place : goal.invariant-loop-place
invariant-loop-place l = AreRight l.pool l.found × IsUpTo (IsWithinAt l.pool) l.narrow l.wide l.place
