-- Lists that are contained in others: each item no more often, in any order.
use Rattle.std.proofs.Common.{List, [], ◌++◌, sym, append-nil, append_assoc}
use Rattle.fore_base.specs.Lists.{IsDistinct}
use Rattle.fa_core.specs.Rearranged.{Rearranged, chain}
use Rattle.fa_core.proofs.Permuted.{distinct_moved, distinct_parts}
use Rattle.fa_core.proofs.Rearranging.{after, before, both, equal, exchange, same}

module _ {X : Type 0} where
  -- ys is xs with further items, in any order
  abbrev pub IsContained : List X → List X → Type 0
  IsContained xs ys = (zs : List X) × Rearranged ys (xs ++ zs)

  pub contained_same : (xs : List X) → IsContained xs xs
  contained_same xs = ([], equal (sym (append-nil xs)))

  pub contained_none : (ys : List X) → IsContained [] ys
  contained_none ys = (ys, same ys)

  crossed : (a b c d : List X) → Rearranged ((a ++ b) ++ (c ++ d)) ((a ++ c) ++ (b ++ d))
  crossed a b c d =
      chain (equal (append_assoc a b (c ++ d)))
      (chain (after a (exchange b c d)) (equal (sym (append_assoc a c (b ++ d)))))

  pub contained_both : (us ws xs ys : List X) → IsContained us ws → IsContained xs ys → IsContained (us ++ xs) (ws ++ ys)
  contained_both us ws xs ys (zs, a) (vs, b) = (zs ++ vs, chain (both a b) (crossed us zs xs vs))

  -- in what stands behind other items, and before others
  pub contained_later : (us xs ys : List X) → IsContained xs ys → IsContained xs (us ++ ys)
  contained_later us xs ys (zs, a) = (us ++ zs, chain (after us a) (exchange us xs zs))

  pub contained_first : (us xs ys : List X) → IsContained xs ys → IsContained xs (ys ++ us)
  contained_first us xs ys (zs, a) = (zs ++ us, chain (before us a) (equal (append_assoc xs zs us)))

  -- where no item of the list stands twice, none does in what is contained in it
  pub distinct_contained : (xs ys : List X) → IsContained xs ys → IsDistinct ys → IsDistinct xs
  distinct_contained xs ys (zs, a) d = (distinct_parts xs zs (distinct_moved a d)).0

  pub contained_chain : (xs ys zs : List X) → IsContained xs ys → IsContained ys zs → IsContained xs zs
  contained_chain xs ys zs (us, a) (vs, b) =
      (us ++ vs, chain b (chain (before vs a) (equal (append_assoc xs us vs))))
