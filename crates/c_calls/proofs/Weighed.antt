-- Weights up to a cap, one depth after another; and that weights are one, and there where no function leads to itself.
use Rattle.std.proofs.Common.{◌≡◌, ℕ, suc, ◌<◌, ◌+◌, List, [], ◌∷◌, length, get_or, min, sym, ap}
use Rattle.std.proofs.Common.{subst, ◌∙◌, arith}
use Rattle.std.proofs.Math.Numerals.{suc-eq-add-one}
use Rattle.fore_base.proofs.ListLemmas.{every_weaker}
use Rattle.c_calls.proofs.Capping.{cap_sum}
use Rattle.c_calls.proofs.Places.{every_called}
use Rattle.c_calls.specs.Calls.{AreCalls, called_by}
use Rattle.c_calls.specs.Weights.{Weighs, Weigh, weighs, none, more, weight_within, AreWeights}
use Rattle.c_calls.specs.inner.Weighing.{AreWeightsWithin, AreNextWeights}

module _ (statements : List ℕ) (calls : List (List ℕ)) where
  pub weights_deeper : (cap n : ℕ) (old new : List ℕ) → AreCalls calls → AreWeightsWithin statements calls cap n old
      → AreNextWeights statements calls cap old new → AreWeightsWithin statements calls cap (n + 1) new
  weights_deeper cap n old new within h k = subst (λ (m : ℕ). AreWeightsWithin statements calls cap m new)
      (suc-eq-add-one n) deeper
    where
      deeper : AreWeightsWithin statements calls cap (suc n) new
      deeper = record {
        long = k.long;
        each = λ f l.
            k.each f l ∙ cap_sum (weight_within statements calls n) (λ g. get_or old g 0) cap (called_by calls f)
            (get_or statements f 0)
            (every_weaker (λ g. g < length calls) (λ g. get_or old g 0 ≡ min (weight_within statements calls n g) cap)
            (called_by calls f) h.each (every_called (λ g. g < length calls) calls f within));
      }

  pub weights_done : (cap : ℕ) (weights : List ℕ) → AreWeightsWithin statements calls cap (length calls) weights
      → AreWeights statements calls cap weights
  weights_done cap weights h = record { long = h.long; each = h.each }

  -- A function has one weight.
  mutual
    pub one_weight : (f v w : ℕ) → Weighs statements calls f v → Weighs statements calls f w → v ≡ w
    one_weight f v w (weighs a d) (weighs b e) =
        d ∙ ap (λ (n : ℕ). get_or statements f 0 + n) (one_sum _ _ _ a b) ∙ sym e

    one_sum : (gs : List ℕ) (v w : ℕ) → Weigh statements calls gs v → Weigh statements calls gs w → v ≡ w
    one_sum [] v w (none d) (none e) = d ∙ sym e
    one_sum (g ∷ gs) v w (more a b d) (more p q e) =
        let here = one_weight g _ _ a p in
        let later = one_sum gs _ _ b q in
        omega (arith, d, e, here, later)
