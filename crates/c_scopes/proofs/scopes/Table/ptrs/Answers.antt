use Rattle.std.proofs.Common.{◌≡◌, ℕ, List, IfOk, subst}
use Rattle.c_scopes.proofs.ScopeLemmas.{inner_ptrs}
use Rattle.c_scopes.proofs.scopes.Table.ptrs.Goals as goal

pub returns : goal.returns
returns c =
    subst (λ (ns : List ℕ). IfOk c.ptrs_in.result (λ numbers. numbers ≡ ns))
    (inner_ptrs c.args.self.now c.innermost.result.now c.innermost.ensures) c.ptrs_in.ensures
