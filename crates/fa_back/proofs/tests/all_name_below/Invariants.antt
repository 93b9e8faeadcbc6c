use Rattle.std.proofs.Common.{take}
use Rattle.fa_back.specs.Reached.{AllNameBelow}
use Rattle.fa_back.proofs.tests.all_name_below.Given as goal

abbrev pub invariant-loop-signature : goal.invariant-loop-signature
invariant-loop-signature l = AllNameBelow l.count (take l.signature-index l.signatures)
