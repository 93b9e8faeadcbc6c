use Rattle.std.proofs.Common.{◌≡◌, List, ℕ, Some, slice_get, sym, subst}
use Rattle.std.proofs.lemmas.Result.{IfOk-weaker}
use Rattle.ta_core.specs.Auto.{Automaton}
use Rattle.fa_core.specs.Cells.{roots_in}
use Rattle.fa_part.specs.inner.Referring.{AreRootRefs}
use Rattle.fa_part.proofs.SignedRefs.{refs_by}
use Rattle.fa_part.proofs.referring.component_refs.Goals as goal

pub returns : goal.returns
returns c =
    let o = slice_get c.args.forest.now.forest.autos c.args.root in
    let s = c.in_ok-signature.signature in
    IfOk-weaker c.marked_roots.result (λ (made : List ℕ). made ≡ roots_in s.refs)
    (λ (made : List ℕ). (a : Automaton) → o ≡ Some a → AreRootRefs a made)
    (λ made same a e.
    subst (AreRootRefs a) (sym same) (refs_by c.args.forest.now.face.boxes a s (c.in_ok-signature.ensures a e)))
    (rw c.as_slice.ensures at c.marked_roots.ensures)
