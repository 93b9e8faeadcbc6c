use Rattle.std.proofs.Common.{◌≡◌, ◌∙◌}
use Rattle.fa_core.specs.Canonical.{var_roots}
use Rattle.fa_order.proofs.SharedRoots.{shared_decided}
use Rattle.fa_order.proofs.sharing.is_shared_root.Goals as goal

pub is_shared_by-requires : goal.is_shared_by-requires
is_shared_by-requires c = rw c.as_slice-3.ensures c.in_ok-signatures.ensures.few

pub returns : goal.returns
returns c =
    let F = c.args.forest.now.forest in
    let vars : c.as_slice-2.result.now ≡ var_roots F.vars =
    rw (c.as_slice.ensures, c.forest.ensures) at (c.as_slice-2.ensures ∙ c.in_ok-vars.ensures) in
    shared_decided c.args.forest.now.face.boxes F c.in_ok-signatures.signatures c.in_ok-signatures.ensures.signed
    c.args.root c.is_shared_by.result (rw (vars, c.as_slice-3.ensures) at c.is_shared_by.ensures)
