use Rattle.std.proofs.Common.{◌≡◌, take}
use Rattle.fa_unfold.specs.Unfolding.{grown_roots}
use Rattle.fa_unfold.proofs.lists.grown_roots.Given as goal

abbrev pub invariant-loop-own : goal.invariant-loop-own
invariant-loop-own l = l.made ≡ grown_roots l.boxes l.forest l.root (take l.own-index l.ends) l.port l.rules
