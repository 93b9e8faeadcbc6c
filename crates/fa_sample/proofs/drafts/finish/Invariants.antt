use Rattle.std.proofs.Common.{◌≡◌, ◌++◌, drop}
use Rattle.fa_sample.specs.inner.Written.{cells_done}
use Rattle.fa_sample.proofs.drafts.finish.Given as goal

abbrev pub invariant-loop-draft : goal.invariant-loop-draft
invariant-loop-draft l = l.cells ++ cells_done l.number (drop l.draft-index l.drafts) ≡ cells_done 1 l.drafts
