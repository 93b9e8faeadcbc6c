-- What the trees of components refer to, by their signatures.
use Rattle.std.proofs.Common.{◌∙◌, List, [], ◌∷◌, map, sym, ap}
use Rattle.fore_base.specs.Lists.{Paired}
use Rattle.ta_core.specs.Auto.{Automaton}
use Rattle.fa_core.specs.Cells.{roots_in}
use Rattle.fa_core.specs.declared.faces.BoxFace.{BoxFace}
use Rattle.fa_core.specs.declared.signature.Signature.{Signature}
use Rattle.fa_merge.specs.Signed.{IsSignatureOf}
use Rattle.fa_order.proofs.SameMarks.{signature_roots}
use Rattle.fa_part.specs.inner.Referring.{AreRootRefs}

module _ (bs : List BoxFace) where
  pub refs_by : (a : Automaton) (s : Signature) → IsSignatureOf bs a s → AreRootRefs a (roots_in s.refs)
  refs_by a s h = λ t i. sym (ap roots_in (h t i)) ∙ signature_roots bs t

  pub all_refs_by : (autos : List Automaton) (ss : List Signature) → Paired (IsSignatureOf bs) autos ss
      → Paired AreRootRefs autos (map (λ (s : Signature). roots_in s.refs) ss)
  all_refs_by [] [] h = tt
  all_refs_by [] (s ∷ ss) h = absurd h
  all_refs_by (a ∷ autos) [] h = absurd h
  all_refs_by (a ∷ autos) (s ∷ ss) h = (refs_by a s h.0, all_refs_by autos ss h.1)
