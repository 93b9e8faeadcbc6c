-- The roots that are none of the inner roots, one by one.
use Rattle.std.proofs.Common.{◌≡◌, ◌<◌, ◌+◌, ◌-◌, ℕ, suc, Bool, true, false, List, [], ◌∷◌, ◌++◌, sym, ap}
use Rattle.std.proofs.Common.{◌∙◌}
use Rattle.std.proofs.Common.{append_assoc, append-nil, arith, if◌then◌else◌}
use Rattle.fa_core.specs.Ways.{has}
use Rattle.fa_merge.specs.Reordered.{counted}
use Rattle.fa_folding.specs.Made.{kept_of}

kept_more : (inner made rest : List ℕ) (root : ℕ)
    → (made ++ kept_of inner (root ∷ [])) ++ kept_of inner rest ≡ made ++ kept_of inner (root ∷ rest)
kept_more inner made rest root = here (has root inner)
  where
    here : (b : Bool) → (made ++ (if b then [] else root ∷ [])) ++ kept_of inner rest
        ≡ made ++ (if b then kept_of inner rest else root ∷ kept_of inner rest)
    here true = ap (λ (z : List ℕ). z ++ kept_of inner rest) (append-nil made)
    here false = append_assoc made (root ∷ []) (kept_of inner rest)

pub kept_step : (inner made more total : List ℕ) (root count : ℕ) → root < count
    → more ≡ made ++ kept_of inner (root ∷ []) → made ++ kept_of inner (counted root (count - root)) ≡ total
    → more ++ kept_of inner (counted (root + 1) (count - (root + 1))) ≡ total
kept_step inner made more total root count l q h =
    let e : count - root ≡ suc (count - (root + 1)) = omega (arith, l) in
    let s : suc root ≡ root + 1 = omega arith in
    ap (λ (z : List ℕ). z ++ kept_of inner (counted (root + 1) (count - (root + 1)))) q
    ∙ kept_more inner made (counted (root + 1) (count - (root + 1))) root
    ∙ ap (λ (k : ℕ). made ++ kept_of inner (root ∷ counted k (count - (root + 1)))) (sym s)
    ∙ ap (λ (m : ℕ). made ++ kept_of inner (counted root m)) (sym e)
    ∙ h
