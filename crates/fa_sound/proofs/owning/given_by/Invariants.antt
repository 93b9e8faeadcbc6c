use Rattle.std.proofs.Common.{◌≡◌, ◌<◌, ℕ, length}
use Rattle.fa_filling.specs.Given.{given_to}
use Rattle.fa_sound.specs.inner.Owned.{given_of}
use Rattle.fa_sound.proofs.owning.given_by.Given as goal

abbrev pub invariant-loop-root : goal.invariant-loop-root
invariant-loop-root l = (length l.given ≡ l.root) × ((r : ℕ) → r < l.root → given_to l.given r ≡ given_of l.owns r)
