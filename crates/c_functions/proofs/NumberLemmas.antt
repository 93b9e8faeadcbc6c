-- The number of a text among some, and one more.
use Rattle.std.proofs.Common.{◌≡◌, ℕ, suc, Bool, true, false, cond, List, [], ◌∷◌, ◌++◌, length, Option, Some}
use Rattle.std.proofs.Common.{None, refl, ap, ◌∙◌}
use Rattle.c_typing.specs.Texts.{Text, same, one_more, number_of}

none_more : (o : Option ℕ) → one_more o ≡ None → o ≡ None
none_more None e = refl
none_more (Some n) e = cc

some_more : (o p : Option ℕ) (i : ℕ) → ((k : ℕ) → o ≡ Some k → p ≡ Some k) → one_more o ≡ Some i → one_more p ≡ Some i
some_more None p i rest e = cc
some_more (Some k) p i rest e = ap one_more (rest k refl) ∙ e

either_first : (b : Bool) (o p : Option ℕ) (i : ℕ) → ((k : ℕ) → o ≡ Some k → p ≡ Some k)
    → cond b (Some 0) (one_more o) ≡ Some i → cond b (Some 0) (one_more p) ≡ Some i
either_first true o p i rest e = e
either_first false o p i rest e = some_more o p i rest e

pub number_first : (x m : Text) (ns : List Text) (i : ℕ) → number_of x ns ≡ Some i → number_of x (ns ++ m ∷ []) ≡ Some i
number_first x m [] i h = cc
number_first x m (n ∷ ns) i h =
    either_first (same x n) (number_of x ns) (number_of x (ns ++ m ∷ [])) i (λ k e. number_first x m ns k e) h

more_last : (b : Bool) (k : ℕ) → one_more (cond b (Some k) None) ≡ cond b (Some (suc k)) None
more_last true k = refl
more_last false k = refl

either_later : (b last : Bool) (o p : Option ℕ) (n : ℕ) → (o ≡ None → p ≡ cond last (Some n) None)
    → cond b (Some 0) (one_more o) ≡ None → cond b (Some 0) (one_more p) ≡ cond last (Some (suc n)) None
either_later true last o p n rest e = cc
either_later false last o p n rest e = ap one_more (rest (none_more o e)) ∙ more_last last n

-- where it is none of them, it is the last or none
pub number_later : (x m : Text) (ns : List Text) → number_of x ns ≡ None
    → number_of x (ns ++ m ∷ []) ≡ cond (same x m) (Some (length ns)) None
number_later x m [] h = refl
number_later x m (n ∷ ns) h =
    either_later (same x n) (same x m) (number_of x ns) (number_of x (ns ++ m ∷ [])) (length ns)
    (λ e. number_later x m ns e) h
