use Rattle.ta_core.specs.Language.{IsWithin}
use Rattle.fa_cover.proofs.Pairs.{IsUpTo}
use Rattle.fa_cover.proofs.components.are_included.Given as goal

abbrev pub invariant-loop-place : goal.invariant-loop-place
invariant-loop-place l = IsUpTo IsWithin l.narrow l.wide l.place
