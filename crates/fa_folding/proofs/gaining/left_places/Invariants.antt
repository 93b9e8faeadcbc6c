use Rattle.std.proofs.Common.{◌≡◌, ◌++◌, drop, filter, not}
use Rattle.fa_core.specs.Folding.{is_one_of}
use Rattle.fa_folding.proofs.gaining.left_places.Given as goal

abbrev pub invariant-loop-place : goal.invariant-loop-place
invariant-loop-place l =
    l.left ++ filter (λ p. not (is_one_of l.fields p.0)) (drop l.place-index l.place-items)
    ≡ filter (λ p. not (is_one_of l.fields p.0)) l.place-items
