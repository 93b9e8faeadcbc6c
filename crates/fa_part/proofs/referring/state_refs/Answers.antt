use Rattle.std.proofs.Common.{◌≡◌, ◌∙◌, List, ℕ, ap, slice_get}
use Rattle.std.proofs.lemmas.Result.{IfOk-weaker}
use Rattle.fa_core.specs.Cells.{roots_in}
use Rattle.fa_order.proofs.SameMarks.{signature_roots}
use Rattle.fa_part.specs.inner.Referring.{AreStateRefs}
use Rattle.fa_part.proofs.referring.state_refs.Goals as goal

pub returns : goal.returns
returns c =
    let bs = c.args.forest.now.face.boxes in
    let o = slice_get c.args.forest.now.forest.autos c.args.root in
    IfOk-weaker c.marked_roots.result (λ (made : List ℕ). made ≡ roots_in c.signature.result.now.refs)
    (AreStateRefs o c.args.state)
    (λ made same a t e r.
    same ∙ ap roots_in (c.signature.ensures.trees a t e r) ∙ signature_roots bs t)
    (rw c.as_slice.ensures at c.marked_roots.ensures)
