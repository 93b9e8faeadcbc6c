-- Where a root is dropped, no two others become one: so signatures stay uniform. The same for new numbers.
use Rattle.std.proofs.Common.{◌≡◌, ◌≢◌, ◌⊎◌, inl, inr, ℕ, ◌<◌, ◌≤◌, ◌+◌, Bool, true, false, true≢false, cond}
use Rattle.std.proofs.Common.{nat_eq, nat_lt, refl, sym, ap, subst, ◌∙◌, arith}
use Rattle.std.proofs.lemmas.Bool.{eq-eqb, ltb-true, lt-ltb}
use Rattle.ta_core.specs.Auto.{Automaton, IsRanked}
use Rattle.fa_core.specs.declared.faces.Face.{Face}
use Rattle.fa_core.specs.declared.forest.Target.{Target}
use Rattle.fa_core.specs.declared.forest.Target.TheVariants.{Null, Uninit, Dangling, At}
use Rattle.fa_core.specs.Filled.{RulesFit, HasSignatures}
use Rattle.fa_core.specs.Placed.{placed_auto}
use Rattle.fa_merge.specs.Dropped.{drop_leaf}
use Rattle.fa_merge.specs.Merged.{lowered}
use Rattle.fa_merge.specs.Reordered.{renumber}
use Rattle.fa_merge.proofs.Lowered.{lowered_above, lowered_below}
use Rattle.fa_leaves.specs.Leaves.{AreApart}
use Rattle.fa_leaves.proofs.PutSigns.{put_signed}

abbrev Is : Target → ℕ → Type 0
Is Null j = ⊥
Is Uninit j = ⊥
Is Dangling j = ⊥
Is (At k) j = k ≡ j

is_at : (t : Target) (j : ℕ) → t ≡ At j → Is t j
is_at t j e = subst (λ (z : Target). Is z j) (sym e) refl

dropped_number : (r k j : ℕ) → drop_leaf r k ≡ At j → (k ≢ r) × (lowered r k ≡ j)
dropped_number r k j e = here (nat_eq r k) refl (is_at (drop_leaf r k) j e)
  where
    here : (b : Bool) → nat_eq r k ≡ b → Is (cond b Dangling (At (lowered r k))) j → (k ≢ r) × (lowered r k ≡ j)
    here true d h = absurd h
    here false d h = ((λ z. true≢false (sym (eq-eqb r k (sym z)) ∙ d)), h)

above_or : (r k : ℕ) → (r < k) ⊎ (k ≤ r)
above_or r k = here (nat_lt r k) refl
  where
    here : (b : Bool) → nat_lt r k ≡ b → (r < k) ⊎ (k ≤ r)
    here true e = inl (lt_of e)
      where
        lt_of : nat_lt r k ≡ true → r < k
        lt_of e = ltb-true r k e
    here false e = inr (omega (arith, (λ (l : r < k). true≢false (sym (lt-ltb r k l) ∙ e))))

-- a number other than r, by its lower one
raised : (r k j : ℕ) → k ≢ r → lowered r k ≡ j → ((r ≤ j) × (k ≡ j + 1)) ⊎ ((j < r) × (k ≡ j))
raised r k j n e = elim (above_or r k) [
  | inl l ↦ (let a = lowered_above r k l in inl (omega (arith, a, e, l), omega (arith, a, e)))
  | inr l ↦ (let a = lowered_below r k l in inr (omega (arith, a, e, l, n), omega (arith, a, e)))
]

pub drop_apart : (r : ℕ) → AreApart (drop_leaf r)
drop_apart r k l j a b =
    let x = dropped_number r k j a in
    let y = dropped_number r l j b in
    elim (raised r k j x.0 x.1) [
      | inl u ↦ elim (raised r l j y.0 y.1) [
        | inl v ↦ u.1
            ∙ sym v.1
        | inr v ↦ (let p = u.0 in let q = v.0 in absurd (omega (arith, p, q)))
      ]
      | inr u ↦ elim (raised r l j y.0 y.1) [
        | inl v ↦
            (let p = u.0 in let q = v.0 in absurd (omega (arith, p, q)))
        | inr v ↦ u.1 ∙ sym v.1
      ]
    ]

pub renumber_apart : (f g : ℕ → ℕ) → ((k : ℕ) → g (f k) ≡ k) → AreApart (renumber f)
renumber_apart f g there k l j a b = sym (there k) ∙ ap g (is_at (At (f k)) j a ∙ sym (is_at (At (f l)) j b)) ∙ there l

-- a component without a root keeps its uniform signatures
pub dropped_signed : (face : Face) (r : ℕ) (a : Automaton) → IsRanked a → RulesFit face a → HasSignatures face.boxes a
    → HasSignatures face.boxes (placed_auto (drop_leaf r) a)
dropped_signed face r a ranked fits h = put_signed face (drop_leaf r) (drop_apart r) a ranked fits h
