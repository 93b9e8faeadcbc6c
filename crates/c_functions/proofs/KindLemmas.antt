-- Kinds that are compared one after the other.
use Rattle.std.proofs.Common.{◌≡◌, suc, Bool, true, false, ◌&&◌, List, [], ◌∷◌, length, map, refl, ap, ◌∙◌}
use Rattle.std.proofs.Math.Bool.{and-false}
use Rattle.std.proofs.lemmas.List.{length-map}
use Rattle.c_typing.specs.Functions.{same_kind, same_kinds}
use Rattle.c_typing.specs.declared.meaning.Kind.{Kind}

-- lists of two lengths are not the same
kinds_apart : (ks ls : List Kind) → (length ks ≡ length ls → ⊥) → same_kinds ks ls ≡ false
kinds_apart [] [] h = absurd (h refl)
kinds_apart [] (l ∷ ls) h = refl
kinds_apart (k ∷ ks) [] h = refl
kinds_apart (k ∷ ks) (l ∷ ls) h =
    ap (λ (b : Bool). same_kind k l && b) (kinds_apart ks ls (λ e. h (ap suc e))) ∙ and-false (same_kind k l)

pub mapped_apart : {X : Type 0} (f : X → Kind) (ks : List Kind) (xs : List X) → (length ks ≡ length xs → ⊥)
    → same_kinds ks (map f xs) ≡ false
mapped_apart f ks xs h = kinds_apart ks (map f xs) (λ e. h (e ∙ length-map xs f))
