-- Fields that no box gives, and sums of nothing.
use Rattle.std.proofs.Common.{◌≡◌, ℕ, zero, suc, ◌<◌, ◌≤◌, ◌+◌, Bool, List, [], ◌∷◌}
use Rattle.std.proofs.Common.{replicate, set, refl, ap, ap₂, ◌∙◌, arith}
use Rattle.std.proofs.Math.Bool.{and-true}
use Rattle.std.proofs.lemmas.Bool.Decides.{nat_tests}
use Rattle.fore_base.specs.Lists.{IsIn}
use Rattle.fore_base.proofs.ListLemmas.{in_left, in_right}
use Rattle.ta_core.specs.declared.symbol.Slot.{Slot}
use Rattle.ta_core.specs.declared.symbol.Slot.TheVariants.{Field, Link, Hook}
use Rattle.fa_core.specs.declared.faces.BoxFace.{BoxFace}
use Rattle.fa_core.specs.Ways.{gives_out_of}
use Rattle.fa_core.proofs.Counts.{often_out}
use Rattle.fa_giving.specs.declared.totals.Extremes.{Extremes}
use Rattle.fa_giving.specs.inner.Totals.{added, given_fields, none_given, total}
use Rattle.fa_giving.specs.inner.Worths.{capped, weight}
use Rattle.fa_giving.proofs.Weights.{capped_low}

-- what an edge gives, boxes give
gives_in : (f : ℕ) (bs : List BoxFace) (b : ℕ) → IsIn f (gives_out_of bs b) → IsIn f (given_fields bs)
gives_in f [] b i = i
gives_in f (x ∷ bs) zero i = in_left f x.gives_out (given_fields bs) i
gives_in f (x ∷ bs) (suc b) i = in_right f x.gives_out (given_fields bs) (gives_in f bs b i)

-- so no edge gives another field
pub no_weight : (f : ℕ) (bs : List BoxFace) → (IsIn f (given_fields bs) → ⊥) → (x : Slot) → weight bs f x ≡ 0
no_weight f bs n (Field g) = refl
no_weight f bs n (Hook b) = refl
no_weight f bs n (Link b) = often_out f (gives_out_of bs b) (λ i. n (gives_in f bs b i))

capped_same : (n : ℕ) → n ≤ 2 → capped (n + 0) ≡ n
capped_same n l = grind (arith, nat_tests)

added_none : (x : Extremes) → x.most ≤ 2 → added x none_given ≡ x
added_none x l =
    ap₂ (λ (m : ℕ) (b : Bool). let e : Extremes = record { most = m; none = b }
    in e) (capped_same x.most l) (and-true x.none)

total_nones : (n : ℕ) (x : Extremes) → x.most ≤ 2 → total x (replicate n none_given) ≡ x
total_nones zero x l = refl
total_nones (suc n) x l =
    ap (λ (y : Extremes). total y (replicate n none_given)) (added_none x l) ∙ total_nones n x l

-- one component gives something
pub total_one : (n i : ℕ) (x own : Extremes) → i < n → x.most ≤ 2
    → total x (set (replicate n none_given) i own) ≡ added x own
total_one zero i x own within l = absurd (let no : i < 0 → ⊥ = λ h. omega (arith, h) in no within)
total_one (suc n) zero x own within l = total_nones n (added x own) (capped_low (x.most + own.most))
total_one (suc n) (suc i) x own within l =
    ap (λ (y : Extremes). total y (set (replicate n none_given) i own)) (added_none x l)
    ∙ total_one n i x own (let h : i < n = omega (arith, within) in h) l
