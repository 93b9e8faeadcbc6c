use Rattle.std.proofs.Common.{take}
use Rattle.fa_pool.specs.Indexes.{MoreListed}
use Rattle.fa_pool.specs.inner.Numbered.{AreNumbered}
use Rattle.fa_pool.proofs.numbering.number_all.Given as goal

abbrev pub invariant-loop-auto : goal.invariant-loop-auto
invariant-loop-auto l = MoreListed l.initial.index l.index
    × AreNumbered l.index l.held (take l.auto-index l.autos) l.numbers l.more
