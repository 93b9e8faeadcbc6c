use Rattle.std.proofs.Common.{take}
use Rattle.fore_base.specs.Lists.{Paired}
use Rattle.fa_pool.specs.Pools.{IsNumber}
use Rattle.fa_pool.proofs.pool.Pool.autos_of.Given as goal

abbrev pub invariant-loop-number : goal.invariant-loop-number
invariant-loop-number l = Paired (IsNumber l.self) (take l.number-index l.numbers) l.autos
