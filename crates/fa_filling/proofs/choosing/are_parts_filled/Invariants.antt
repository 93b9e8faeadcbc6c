use Rattle.std.proofs.Common.{◌≡◌, ◌↔◌, take, drop, []}
use Rattle.fa_filling.specs.Given.{given_to}
use Rattle.fa_filling.specs.Parted.{ArePartsFilled, all_tops}
use Rattle.fa_filling.proofs.choosing.are_parts_filled.Given as goal

abbrev pub invariant-loop-place : goal.invariant-loop-place
invariant-loop-place l =
    (ArePartsFilled l.face (given_to l.given) l.place (all_tops (take l.place l.parts)) (drop l.place l.parts)
    ↔ ArePartsFilled l.face (given_to l.given) 0 [] l.parts) × (l.tops ≡ all_tops l.parts)
