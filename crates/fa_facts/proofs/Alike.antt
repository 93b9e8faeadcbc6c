-- Lists that have each number equally often are rearranged.
use Rattle.std.proofs.Common.{◌≡◌, ℕ, List}
use Rattle.fa_core.specs.Rearranged.{Rearranged, often}
use Rattle.fa_core.proofs.SameCounts.{alike as by_counts}

pub alike : (xs ys : List ℕ) → ((n : ℕ) → often n xs ≡ often n ys) → Rearranged xs ys
alike = by_counts
