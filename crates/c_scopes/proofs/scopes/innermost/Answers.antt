use Rattle.std.proofs.Common.{◌-◌, ap, ◌∙◌, reverse, arith}
use Rattle.c_scopes.proofs.ScopeLemmas.{block_last}
use Rattle.c_scopes.proofs.scopes.innermost.Goals as goal

pub returns : goal.returns
returns c =
    ap reverse c.as_slice.ensures
    ∙ block_last c.args.blocks.now (c.len-count.result - 1) c.at.result.now (omega arith)
    (ap (λ n. n - 1) c.len-count.ensures) c.at.ensures
