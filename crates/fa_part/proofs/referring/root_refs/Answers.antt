use Rattle.std.proofs.Common.{◌≡◌, List, ℕ, map, sym, subst}
use Rattle.std.proofs.lemmas.Result.{IfOk-weaker}
use Rattle.fore_base.specs.Lists.{Paired}
use Rattle.fa_core.specs.Cells.{roots_in}
use Rattle.fa_core.specs.declared.signature.Signature.{Signature}
use Rattle.fa_part.specs.inner.Referring.{AreRootRefs}
use Rattle.fa_part.proofs.SignedRefs.{all_refs_by}
use Rattle.fa_part.proofs.referring.root_refs.Goals as goal

pub returns : goal.returns
returns c =
    let autos = c.args.forest.now.forest.autos in
    let ss = c.in_ok-signatures.signatures in
    IfOk-weaker c.references.result
    (λ (all : List (List ℕ)). all ≡ map (λ (s : Signature). roots_in s.refs) ss) (Paired AreRootRefs autos)
    (λ all same. subst (Paired AreRootRefs autos) (sym same)
    (all_refs_by c.args.forest.now.face.boxes autos ss c.in_ok-signatures.ensures.signed))
    (rw c.as_slice.ensures at c.references.ensures)
