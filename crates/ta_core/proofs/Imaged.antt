-- Automata whose states have other numbers are in range again.
use Rattle.std.proofs.Common.{◌≡◌, ℕ, ◌<◌, List, [], ◌∷◌, length, map, slice_index, ◌∙◌}
use Rattle.std.proofs.lemmas.List.{length-map}
use Rattle.fore_base.specs.Lists.{Every}
use Rattle.ta_core.specs.declared.auto.Rule.{Rule}
use Rattle.ta_core.specs.Auto.{Automaton, IsRanked, IsRankedRule}
use Rattle.ta_core.specs.Renumbered.{renumbered, image}
use Rattle.fore_base.proofs.ListLemmas.{in_place, every_in}

module _ (m n : ℕ) (f : ℕ → ℕ) (low : (q : ℕ) → q < m → f q < n) where
  image_states : (qs : List ℕ) → Every (λ q. q < m) qs → Every (λ q. q < n) (map f qs)
  image_states [] h = tt
  image_states (q ∷ qs) h = (low q h.0, image_states qs h.1)

  image_rules : (rs : List Rule) → Every (IsRankedRule m) rs → Every (IsRankedRule n) (map (renumbered f) rs)
  image_rules [] h = tt
  image_rules (r ∷ rs) h =
      ((low r.state h.0.0, image_states r.children h.0.1, length-map r.children f ∙ h.0.2), image_rules rs h.1)

-- each state has a number in the table
pub numbered_low : (numbers : List ℕ) (n : ℕ) → Every (λ q. q < n) numbers → (q : ℕ) → q < length numbers
    → slice_index numbers q < n
numbered_low numbers n h q l = every_in (λ (p : ℕ). p < n) numbers (slice_index numbers q) h (in_place numbers q 0 l)

pub image_proper : (numbers : List ℕ) (n : ℕ) (a : Automaton) → length numbers ≡ a.states → Every (λ q. q < n) numbers
    → IsRanked a → IsRanked (image n (λ q. slice_index numbers q) a)
image_proper numbers n a e h p =
    let low : (q : ℕ) → q < a.states → slice_index numbers q < n = λ q l. numbered_low numbers n h q (rw e l) in (
      image_states a.states n (λ q. slice_index numbers q) low a.roots p.0,
      image_rules a.states n (λ q. slice_index numbers q) low a.rules p.1,
    )
