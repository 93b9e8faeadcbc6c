use Rattle.std.proofs.Common.{◌≡◌, ◌≤◌, ◌++◌, take, length, reverse}
use Rattle.fa_order.proofs.walking.push_all.Given as goal

abbrev pub invariant-loop-place : goal.invariant-loop-place
invariant-loop-place l = (l.place ≤ length l.roots)
    × (take l.place l.roots ++ reverse l.stack ≡ l.roots ++ reverse l.initial.stack)
