use Rattle.ta_core.specs.Language.{HasSameLanguage}
use Rattle.fa_join.specs.inner.Apart.{IsApart}
use Rattle.fa_join.proofs.comparing.autos_apart.Given as goal

abbrev pub invariant-loop-place : goal.invariant-loop-place
invariant-loop-place l = IsApart HasSameLanguage l.left l.right l.place l.found
