use Rattle.fa_reach.proofs.parting.has_hops.Given as goal

abbrev pub invariant-loop-part : goal.invariant-loop-part
invariant-loop-part l = Unit {0}
