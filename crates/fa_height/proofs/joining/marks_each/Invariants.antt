use Rattle.std.proofs.Common.{◌≡◌, List, Some, length, slice_get}
use Rattle.fa_core.specs.declared.signature.Signature.{Signature}
use Rattle.fa_height.specs.inner.Joining.{AreMarksEach}
use Rattle.fa_height.proofs.joining.marks_each.Given as goal

abbrev pub invariant-loop-state : goal.invariant-loop-state
invariant-loop-state l = (length l.made ≡ l.state)
    × ((list : List Signature) → slice_get l.forest.signatures l.root ≡ Some list → AreMarksEach list l.state l.made)
