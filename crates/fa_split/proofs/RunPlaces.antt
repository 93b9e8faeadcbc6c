-- Runs of trees to states, one in each place: a tree or a state at one place changed.
use Rattle.std.proofs.Common.{◌≡◌, ◌≢◌, ℕ, zero, suc, ◌<◌, length, List, [], ◌∷◌, refl, sym, ap, subst, slice_get}
use Rattle.std.proofs.Common.{slice_set, slice_index_or, Some, arith}
use Rattle.std.proofs.lemmas.Option.{none-some, same_Some}
use Rattle.ta_core.specs.Language.{RunOf, RunEach, run_none, run_more}
use Rattle.ta_core.specs.declared.auto.Rule.{Rule}
use Rattle.ta_core.specs.declared.tree.Tree.{Tree}

-- the item at a place that is there
pub at_index : (qs : List ℕ) (p : ℕ) → p < length qs → slice_get qs p ≡ Some (slice_index_or qs p 0)
at_index [] p l = absurd (omega (arith, l))
at_index (q ∷ qs) zero l = refl
at_index (q ∷ qs) (suc p) l = at_index qs p (omega (arith, l))

pub set_here : {X : Type 0} (xs : List X) (p : ℕ) (x y : X) → slice_get xs p ≡ Some x → slice_get (slice_set xs p y) p
    ≡ Some y
set_here [] p x y e = absurd (none-some x e)
set_here (z ∷ xs) zero x y e = refl
set_here (z ∷ xs) (suc p) x y e = set_here xs p x y e

pub set_back : {X : Type 0} (xs : List X) (p : ℕ) (x y : X) → slice_get xs p ≡ Some x → slice_set (slice_set xs p y) p x
    ≡ xs
set_back [] p x y e = refl
set_back {X} (z ∷ xs) zero x y e = ap (λ (w : X). w ∷ xs) (sym (same_Some z x e))
set_back {X} (z ∷ xs) (suc p) x y e = ap (λ (w : List X). z ∷ w) (set_back xs p x y e)

pub set_again : {X : Type 0} (xs : List X) (p : ℕ) (x y : X) → slice_set (slice_set xs p y) p x ≡ slice_set xs p x
set_again [] p x y = refl
set_again (z ∷ xs) zero x y = refl
set_again {X} (z ∷ xs) (suc p) x y = ap (λ (w : List X). z ∷ w) (set_again xs p x y)

pub set_same : {X : Type 0} (xs : List X) (p : ℕ) (x : X) → slice_get xs p ≡ Some x → slice_set xs p x ≡ xs
set_same [] p x e = refl
set_same {X} (z ∷ xs) zero x e = ap (λ (w : X). w ∷ xs) (sym (same_Some z x e))
set_same {X} (z ∷ xs) (suc p) x e = ap (λ (w : List X). z ∷ w) (set_same xs p x e)

pub set_other : {X : Type 0} (xs : List X) (p k : ℕ) (y : X) → k ≢ p → slice_get (slice_set xs p y) k ≡ slice_get xs k
set_other [] p k y d = refl
set_other (z ∷ xs) zero zero y d = absurd (d refl)
set_other (z ∷ xs) zero (suc k) y d = refl
set_other (z ∷ xs) (suc p) zero y d = refl
set_other (z ∷ xs) (suc p) (suc k) y d = set_other xs p k y (λ e. d (ap (λ n. suc n) e))

module _ (rules : List Rule) where
  -- the tree in the place of a state
  pub each_at : (qs : List ℕ) (ts : List Tree) (p q : ℕ) → RunEach rules qs ts → slice_get qs p ≡ Some q → (t : Tree)
      × (slice_get ts p ≡ Some t) × RunOf rules q t
  each_at qs ts p q run_none e = absurd (none-some q e)
  each_at qs ts zero q (run_more {q = z} {t = t} a b) e =
      (t, refl, subst (λ (y : ℕ). RunOf rules y t) (same_Some z q e) a)
  each_at qs ts (suc p) q (run_more {qs = zs} {ts = us} a b) e = each_at zs us p q b e

  -- another state with a tree of it
  pub each_set : (qs : List ℕ) (ts : List Tree) (p z : ℕ) (w : Tree) → RunEach rules qs ts → RunOf rules z w
      → RunEach rules (slice_set qs p z) (slice_set ts p w)
  each_set qs ts p z w run_none k = run_none
  each_set qs ts zero z w (run_more a b) k = run_more k b
  each_set qs ts (suc p) z w (run_more {qs = zs} {ts = us} a b) k = run_more a (each_set zs us p z w b k)

  -- another tree of the same state
  pub each_with : (qs : List ℕ) (ts : List Tree) (p q : ℕ) (w : Tree) → RunEach rules qs ts → slice_get qs p ≡ Some q
      → RunOf rules q w → RunEach rules qs (slice_set ts p w)
  each_with qs ts p q w run_none e k = run_none
  each_with qs ts zero q w (run_more {q = z} a b) e k =
      run_more (subst (λ (y : ℕ). RunOf rules y w) (sym (same_Some z q e)) k) b
  each_with qs ts (suc p) q w (run_more {qs = zs} {ts = us} a b) e k = run_more a (each_with zs us p q w b e k)
