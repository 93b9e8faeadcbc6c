use Rattle.fa_kept.specs.Memos.{Agrees}
use Rattle.room_pools.proofs.asking.asked.Given as goal

abbrev pub invariant-loop-place : goal.invariant-loop-place
invariant-loop-place g l = Agrees l.memo l.pool
