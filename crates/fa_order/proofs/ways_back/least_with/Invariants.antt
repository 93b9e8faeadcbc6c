use Rattle.std.proofs.Common.{ℕ, List, ◌++◌, take}
use Rattle.fa_order.specs.inner.Backs.{IsLeastIn}
use Rattle.fa_order.proofs.ways_back.least_with.Given as goal

abbrev pub invariant-loop-field : goal.invariant-loop-field
invariant-loop-field l = (xs : List ℕ) → IsLeastIn xs l.fn.least → IsLeastIn (xs ++ take l.field-index l.fields) l.least
