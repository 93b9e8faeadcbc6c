-- Members of what is covered, and lists of numbers by place.
use Rattle.std.proofs.Common.{◌≡◌, ◌⊎◌, ℕ, suc, zero, ◌<◌, List, [], ◌∷◌, length, slice_set, replicate}
use Rattle.std.proofs.Common.{refl, sym, ap, ◌∙◌, subst, arith, inl, inr}
use Rattle.fore_base.specs.declared.shape.Shape.{Shape}
use Rattle.fore_base.specs.declared.store.Store.{Store}
use Rattle.fa_core.specs.Covering.{Covers}
use Rattle.fa_core.specs.Member.{Stands}
use Rattle.fa_core.specs.declared.boxes.BoxDef.{BoxDef}
use Rattle.fa_core.specs.declared.forest.Forest.{Forest}
use Rattle.fa_core.proofs.Composed.{covered_members}
use Rattle.fix_core.specs.Listed.{numbers_at}

pub covered_member : (hs : List Shape) (T : List BoxDef) (F G : Forest) (s : Store) → Covers F G → Stands hs T G s
    → Stands hs T F s
covered_member hs T F G s w m = covered_members hs T F G w s m

-- lists of numbers by place

-- a list that is written is at its place, and the others are as they were
set_place : (lists : List (List ℕ)) (place : ℕ) (own : List ℕ) → place < length lists
    → numbers_at (slice_set lists place own) place ≡ own
set_place [] place own h = absurd (omega (arith, h))
set_place (x ∷ xs) zero own h = refl
set_place (x ∷ xs) (suc place) own h = set_place xs place own (omega (arith, h))

set_other : (lists : List (List ℕ)) (place other : ℕ) (own : List ℕ) → (other ≡ place → ⊥)
    → numbers_at (slice_set lists place own) other ≡ numbers_at lists other
set_other [] place other own differ = refl
set_other (x ∷ xs) zero zero own differ = absurd (differ refl)
set_other (x ∷ xs) zero (suc other) own differ = refl
set_other (x ∷ xs) (suc place) zero own differ = refl
set_other (x ∷ xs) (suc place) (suc other) own differ = set_other xs place other own (λ e. differ (ap suc e))

pub set_length : {X : Type 0} (xs : List X) (i : ℕ) (x : X) → length (slice_set xs i x) ≡ length xs
set_length [] i x = refl
set_length (y ∷ ys) zero x = refl
set_length (y ∷ ys) (suc i) x = ap suc (set_length ys i x)

-- of empty lists each is empty
pub none_at_place : (count place : ℕ) → numbers_at (replicate count []) place ≡ []
none_at_place zero place = refl
none_at_place (suc count) zero = refl
none_at_place (suc count) (suc place) = none_at_place count place

same_or_not : (a b : ℕ) → (a ≡ b) ⊎ (a ≡ b → ⊥)
same_or_not zero zero = inl refl
same_or_not zero (suc b) = inr (λ e. omega (arith, e))
same_or_not (suc a) zero = inr (λ e. omega (arith, e))
same_or_not (suc a) (suc b) =
    elim (same_or_not a b) [ inl e ↦ inl (ap suc e) | inr n ↦ inr (λ e. n (omega (arith, e))) ]

-- by cases: the place that was written, and another
pub at_or_other : (P : List ℕ → Type 0) (lists : List (List ℕ)) (place other : ℕ) (own : List ℕ) → place < length lists
    → (other ≡ place → P own) → ((other ≡ place → ⊥) → P (numbers_at lists other))
    → P (numbers_at (slice_set lists place own) other)
at_or_other P lists place other own inside here there = elim (same_or_not other place) [
  | inl e ↦ subst P (sym (ap (numbers_at (slice_set lists place own)) e ∙ set_place lists place own inside)) (here e)
  | inr n ↦ subst P (sym (set_other lists place other own n)) (there n)
]
