use Rattle.std.proofs.Common.{◌≡◌, ℕ, List, IfOk, subst}
use Rattle.c_scopes.proofs.ScopeLemmas.{inner_datums}
use Rattle.c_scopes.proofs.scopes.Table.datums.Goals as goal

pub returns : goal.returns
returns c =
    subst (λ (ns : List ℕ). IfOk c.datums_in.result (λ numbers. numbers ≡ ns))
    (inner_datums c.args.self.now c.innermost.result.now c.innermost.ensures) c.datums_in.ensures
