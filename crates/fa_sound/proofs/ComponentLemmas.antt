-- Components by their roots, and what stays where one is set.
use Rattle.std.proofs.Common.{◌≡◌, ℕ, zero, suc, ◌<◌, length, List, [], ◌∷◌, refl, sym, arith}
use Rattle.std.specs.Prelude.{slice_get, slice_set, Some}
use Rattle.std.proofs.lemmas.Option.{none-some, same_Some}
use Rattle.fore_base.specs.Lists.{Every, Paired}
use Rattle.ta_core.specs.Auto.{Automaton}
use Rattle.fa_sound.specs.Components.{component_at}

pub item_component : (xs : List Automaton) (k : ℕ) (a : Automaton) → slice_get xs k ≡ Some a → a ≡ component_at xs k
item_component [] k a e = absurd (none-some a e)
item_component (x ∷ xs) zero a e = sym (same_Some x a e)
item_component (x ∷ xs) (suc k) a e = item_component xs k a e

pub component_got : (autos : List Automaton) (k : ℕ) →
    k < length autos → slice_get autos k ≡ Some (component_at autos k)
component_got [] k l = absurd (omega (arith, l))
component_got (a ∷ autos) zero l = refl
component_got (a ∷ autos) (suc k) l = component_got autos k (omega (arith, l))

-- what is set is one of the list
pub set_here : {X : Type 0} (P : X → Type 0) (xs : List X) (k : ℕ) (x : X) →
    k < length xs → Every P (slice_set xs k x) → P x
set_here P [] k x l h = absurd (omega (arith, l))
set_here P (y ∷ xs) zero x l h = h.0
set_here P (y ∷ xs) (suc k) x l h = set_here P xs k x (omega (arith, l)) h.1

pub set_paired : {X Y : Type 0} (R : X → Y → Type 0) (xs : List X) (ys : List Y) (k : ℕ) (x : X) (y : Y) →
    Paired R xs ys → R x y → Paired R (slice_set xs k x) (slice_set ys k y)
set_paired R [] [] k x y h r = tt
set_paired R [] (b ∷ ys) k x y h r = absurd h
set_paired R (a ∷ xs) [] k x y h r = absurd h
set_paired R (a ∷ xs) (b ∷ ys) zero x y h r = (r, h.1)
set_paired R (a ∷ xs) (b ∷ ys) (suc k) x y h r = (h.0, set_paired R xs ys k x y h.1 r)
