use Rattle.std.proofs.Common.{take}
use Rattle.fore_base.specs.Lists.{Every}
use Rattle.fa_pool.specs.Pools.{IsKeptIn}
use Rattle.room_pools.proofs.showing.are_kept_in.Given as goal

abbrev pub invariant-loop-kept : goal.invariant-loop-kept
invariant-loop-kept l = Every (IsKeptIn l.pool) (take l.kept-index l.all)
