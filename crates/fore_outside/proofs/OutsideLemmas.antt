-- How contents grow in turns.
use Rattle.std.proofs.Common.{◌+◌, ◌-◌, ℕ, List, ◌++◌, Option, Some, None, length, take, drop, subst}
use Rattle.std.proofs.Math.Seq.{take-add}
use Rattle.std.proofs.lemmas.List.{take_rest, append_assoc}
use Rattle.fore_outside.specs.Outside.{Grew}

-- growing by a prefix, and then by the front of the rest, is growing by the longer prefix
pub grew_further : (a b c : Option (List ℕ)) (bytes : List ℕ) (done more : ℕ) → Grew a b (take done bytes)
    → Grew b c (take more (take (length bytes - done) (drop done bytes))) → Grew a c (take (done + more) bytes)
grew_further None b c bytes done more first then =
    let P : Option (List ℕ) → Type 0 = λ x. Grew x c (take more (take (length bytes - done) (drop done bytes))) in
    subst P first then
grew_further (Some held) b c bytes done more first then =
    let P : Option (List ℕ) → Type 0 = λ x. Grew x c (take more (take (length bytes - done) (drop done bytes))) in
    let grown : P (Some (held ++ take done bytes)) = subst P first then in
    cc (
      grown,
      take_rest bytes done,
      take-add done more bytes,
      append_assoc held (take done bytes) (take more (drop done bytes)),
    )
