-- Lists that are equal as far as they were compared.
use Rattle.std.proofs.Common.{◌≡◌, ℕ, ◌+◌, ◌<◌, List, [], ◌∷◌, ◌++◌, length, get_or, slice_get, Some, take, sym, ap}
use Rattle.std.proofs.Common.{◌∙◌}
use Rattle.std.proofs.lemmas.Option.{slice_get_within, get_or_from_slice_get}
use Rattle.fore_base.proofs.ListLemmas.{take_item}

-- one more item is the same
pub same_more : {X : Type 0} (xs ys : List X) (i : ℕ) (x : X) → i < length xs → x ≡ get_or xs i x
    → take i xs ≡ take i ys → slice_get ys i ≡ Some x → take (i + 1) xs ≡ take (i + 1) ys
same_more {X} xs ys i x low at same other =
    take_item xs i x low at ∙ ap (λ (zs : List X). zs ++ x ∷ []) same
    ∙ sym (take_item ys i x (slice_get_within ys i x other) (sym (get_or_from_slice_get ys i x x other)))
