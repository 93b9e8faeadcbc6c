use Rattle.fore_base.specs.Lists.{Every}
use Rattle.fa_pool.specs.Pools.{IsKeptIn}
use Rattle.fa_kept.specs.Memos.{Agrees}
use Rattle.room_pools.proofs.turns.take_all.Given as goal

abbrev pub invariant-loop-forest : goal.invariant-loop-forest
invariant-loop-forest g l = Agrees l.memo l.pool × Every (IsKeptIn l.pool) l.nodes
