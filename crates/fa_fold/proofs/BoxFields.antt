-- The fields that the ports of the boxes of a table cover, by the numbers of the boxes.
use Rattle.std.proofs.Common.{◌≡◌, ◌<◌, ℕ, List, length, subst, Some, slice_get, arith}
use Rattle.fore_base.specs.Lists.{Paired}
use Rattle.fore_base.proofs.ListLemmas.{paired_long, same_item}
use Rattle.ta_incl.proofs.Places.{paired_get}
use Rattle.fa_core.specs.Boxes.{Boxes}
use Rattle.fa_part.specs.Ports.{AreFieldsOf}
use Rattle.fa_part.specs.declared.ports.PortFields.{PortFields}
use Rattle.fa_fold.specs.inner.Fields.{AreBoxFields}

module _ (T : Boxes) (xs : List PortFields) (h : Paired (AreFieldsOf T.face.boxes) T.defs xs) (n : ℕ) where
  pub fields_low : n < length T.defs → n < length xs
  fields_low low = let e = paired_long (AreFieldsOf T.face.boxes) T.defs xs h in omega (arith, low, e)

  pub fields_at : (x : PortFields) → slice_get xs n ≡ Some x → AreBoxFields T n x
  fields_at x at b there =
      let k = paired_get (AreFieldsOf T.face.boxes) T.defs xs n b h there in
      subst (AreFieldsOf T.face.boxes b) (same_item xs n k.0 x k.1 at) k.2
