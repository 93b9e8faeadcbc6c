use Rattle.fa_pool.proofs.Numbers.{numbers_within}
use Rattle.fa_pool.proofs.pool.Pool.keep.Goals as goal

pub returns-clause-within : goal.returns-clause-within
returns-clause-within c =
    let within = numbers_within _ _ _ c.in_ok-made.ensures.numbered.numbers in
    rw (c.in_ok-append.ensures.ok, ← c.as_slice-held.ensures, c.in_ok-parts.ensures, c.as_slice-4.ensures) within
