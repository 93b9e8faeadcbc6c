-- The uses of states in rules.
use Rattle.std.proofs.Common.{◌≡◌, inl, inr, ℕ, zero, suc, ◌<◌, ◌+◌, List, [], ◌∷◌, ◌++◌, length, get_or, set}
use Rattle.std.proofs.Common.{slice_get}
use Rattle.std.proofs.Common.{Some, refl, sym, ap, subst, ◌∙◌, arith}
use Rattle.std.proofs.lemmas.Bool.{cases_lt}
use Rattle.std.proofs.lemmas.List.{append_assoc, append-nil}
use Rattle.std.proofs.lemmas.Option.{slice_get_within, get_or_from_slice_get}
use Rattle.fore_base.specs.Lists.{IsIn, Every}
use Rattle.fore_base.proofs.ListLemmas.{every_get, in_append, in_left, in_last, in_push, in_right}
use Rattle.ta_core.specs.declared.auto.Rule.{Rule}
use Rattle.ta_sim.specs.declared.grouping.Use.{Use}
use Rattle.ta_sim.specs.inner.Matching.{group_at}
use Rattle.ta_sim.specs.inner.Using.{AreGroupedUses, placed, uses_below, uses_in, all_uses}
use Rattle.ta_sim.proofs.Groups.{grouped_push}

-- the uses in one more rule
pub all_uses_push : (rules : List Rule) (r : Rule) → all_uses (rules ++ r ∷ []) ≡ all_uses rules ++ uses_in r
all_uses_push [] r = append-nil (uses_in r)
all_uses_push (s ∷ rules) r =
    ap (λ (us : List Use). uses_in s ++ us) (all_uses_push rules r)
    ∙ sym (append_assoc (uses_in s) (all_uses rules) (uses_in r))

-- a use of the rule is at a place of it
below_place : (r : Rule) (n : ℕ) (u : Use) → IsIn u (uses_below r n) → (i : ℕ) × (i < n) × (u ≡ placed r i)
below_place r zero u h = absurd h
below_place r (suc n) u h = elim (in_push (placed r n) u (uses_below r n) h) [
  | inl i ↦ (let w = below_place r n u i in (w.0, (let l = w.1 in omega (arith, l)), w.2))
  | inr e ↦ (n, omega arith, e)
]

place_below : (r : Rule) (n i : ℕ) → i < n → IsIn (placed r i) (uses_below r n)
place_below r zero i l = absurd (omega (arith, l))
place_below r (suc n) i l = elim (cases_lt i n) [
  | inl k ↦ in_left (placed r i) (uses_below r n) (placed r n ∷ []) (place_below r n i k)
  | inr k ↦ (let e : i ≡ n = omega (arith, k, l) in
      subst (λ (j : ℕ). IsIn (placed r j) (uses_below r n ++ placed r n ∷ [])) (sym e)
      (in_last (placed r n) (uses_below r n)))
]

get_there : (qs : List ℕ) (i : ℕ) → i < length qs → slice_get qs i ≡ Some (get_or qs i 0)
get_there [] i l = absurd (omega (arith, l))
get_there (q ∷ qs) zero l = refl
get_there (q ∷ qs) (suc i) l = get_there qs i (omega (arith, l))

-- each use of a state is at a place of a rule where the state is its child
pub used_from : (rules : List Rule) (u : Use) → IsIn u (all_uses rules) → IsIn u.rule rules
    × (slice_get u.rule.children u.place ≡ Some u.child)
used_from [] u h = absurd h
used_from (r ∷ rules) u h = elim (in_append u (uses_in r) (all_uses rules) h) [
  | inl i ↦ (let w = below_place r (length r.children) u i in (
    inl (ap (λ (x : Use). x.rule) w.2),
    subst (λ (x : Use). slice_get x.rule.children x.place ≡ Some x.child) (sym w.2) (get_there r.children w.0 w.1),
  ))
  | inr i ↦ (let w = used_from rules u i in (inr w.0, w.1))
]

-- where the state is a child of a rule, that is a use of it
pub used_to : (rules : List Rule) (r : Rule) (i q : ℕ) → IsIn r rules → slice_get r.children i ≡ Some q
    → IsIn (placed r i) (all_uses rules)
used_to [] r i q h e = absurd h
used_to (s ∷ rules) r i q (inl d) e =
    in_left (placed r i) (uses_in s) (all_uses rules)
    (subst (λ (x : Rule). IsIn (placed r i) (uses_in x)) d
    (place_below r (length r.children) i (slice_get_within r.children i q e)))
used_to (s ∷ rules) r i q (inr h) e = in_right (placed r i) (uses_in s) (all_uses rules) (used_to rules r i q h e)

-- the state of a use is what stands at its place
pub placed_child : (r : Rule) (i q : ℕ) → slice_get r.children i ≡ Some q → (placed r i).child ≡ q
placed_child r i q e = get_or_from_slice_get r.children i q 0 e

-- one more use of the rule
pub uses_more : (before : List Use) (r : Rule) (n i : ℕ) (groups : List (List Use)) → i < length r.children
    → Every (λ q. q < n) r.children → AreGroupedUses (before ++ uses_below r i) n groups
    → AreGroupedUses (before ++ uses_below r (i + 1)) n
    (set groups (get_or r.children i 0) (group_at groups (get_or r.children i 0) ++ placed r i ∷ []))
uses_more before r n i groups l low h =
    let e : suc i ≡ i + 1 = omega arith in
    let new = set groups (get_or r.children i 0) (group_at groups (get_or r.children i 0) ++ placed r i ∷ []) in
    subst (λ (k : ℕ). AreGroupedUses (before ++ uses_below r k) n new) e
    (subst (λ (us : List Use). AreGroupedUses us n new) (append_assoc before (uses_below r i) (placed r i ∷ []))
    (grouped_push (λ (u : Use). u.child) (before ++ uses_below r i) n groups (placed r i)
    (every_get (λ (q : ℕ). q < n) r.children i 0 low l) h))
