-- The place of a field among the children of a cell: what stands at the end of the field is the child there.
use Rattle.std.proofs.Common.{◌≡◌, ℕ, zero, suc, ◌<◌, ◌≤◌, ◌+◌, Bool, true, false, nat_eq, if◌then◌else◌, List, [], ◌∷◌}
use Rattle.std.proofs.Common.{Some, None, refl, sym, ap, subst, arith}
use Rattle.std.proofs.lemmas.Option.{none-some, same_Some}
use Rattle.ta_core.specs.Arity.{child_slots}
use Rattle.ta_core.specs.declared.symbol.Slot.{Slot}
use Rattle.ta_core.specs.declared.symbol.Slot.TheVariants.{Field, Link, Hook}
use Rattle.fa_core.specs.Dressed.{Parts, no_parts, field, link, hook, leaf}
use Rattle.fa_core.specs.Member.{slots_of}
use Rattle.fa_core.specs.declared.forest.Target.{Target}
use Rattle.fa_edit.specs.Leaves.{end_of_field, put_leaf}
use Rattle.fa_edit.specs.Plain.{field_place_from}
use Rattle.fa_split.specs.Split.{end_at, set_end}

module _ (f : ℕ) where
  -- the place is not before the first, and one of the children
  pub place_above : (k : ℕ) (ss : List Slot) (q : ℕ) → field_place_from k f ss ≡ Some q → k ≤ q
  place_above k [] q e = absurd (none-some q e)
  place_above k (Field g ∷ ss) q e = here (nat_eq g f) e (place_above (suc k) ss q)
    where
      here : (b : Bool) → (if b then Some k else field_place_from (suc k) f ss) ≡ Some q
          → (field_place_from (suc k) f ss ≡ Some q → suc k ≤ q) → k ≤ q
      here true w later = let s : k ≡ q = same_Some k q w in omega (arith, s)
      here false w later = let s = later w in omega (arith, s)
  place_above k (Link b ∷ ss) q e = let s = place_above (suc k) ss q e in omega (arith, s)
  place_above k (Hook b ∷ ss) q e = place_above k ss q e

  pub place_below : (k : ℕ) (ss : List Slot) (q : ℕ) → field_place_from k f ss ≡ Some q → q < k + child_slots ss
  place_below k [] q e = absurd (none-some q e)
  place_below k (Field g ∷ ss) q e = here (nat_eq g f) e (place_below (suc k) ss q)
    where
      here : (b : Bool) → (if b then Some k else field_place_from (suc k) f ss) ≡ Some q
          → (field_place_from (suc k) f ss ≡ Some q → q < suc k + child_slots ss) → q < k + (child_slots ss + 1)
      here true w later = let s : k ≡ q = same_Some k q w in omega (arith, s)
      here false w later = let s = later w in omega (arith, s)
  place_below k (Link b ∷ ss) q e = let s = place_below (suc k) ss q e in omega (arith, s)
  place_below k (Hook b ∷ ss) q e = place_below k ss q e

  next_place : (k p : ℕ) (ss : List Slot) → field_place_from (suc k) f ss ≡ Some (k + suc p)
      → field_place_from (suc k) f ss ≡ Some (suc k + p)
  next_place k p ss e = let s : k + suc p ≡ suc k + p = omega arith in
      subst (λ (n : ℕ). field_place_from (suc k) f ss ≡ Some n) s e

  not_here : (k : ℕ) (ss : List Slot) → field_place_from (suc k) f ss ≡ Some (k + 0) → ⊥
  not_here k ss e = let s = place_above (suc k) ss (k + 0) e in omega (arith, s)

  -- what stands at the end of the field is the child there
  pub end_from : (k p : ℕ) (ps : Parts) → field_place_from k f (slots_of ps) ≡ Some (k + p) → end_of_field f ps
      ≡ end_at p ps
  end_from k p no_parts e = absurd (none-some (k + p) e)
  end_from k p (field g x ps) e = here (nat_eq g f) p e (λ q. end_from (suc k) q ps)
    where
      here : (b : Bool) (p : ℕ) → (if b then Some k else field_place_from (suc k) f (slots_of ps)) ≡ Some (k + p)
          → ((q : ℕ) → field_place_from (suc k) f (slots_of ps) ≡ Some (suc k + q) → end_of_field f ps ≡ end_at q ps)
          → (if b then Some x else end_of_field f ps) ≡ end_at p (field g x ps)
      here true zero w later = refl
      here true (suc p) w later = absurd (let s : k ≡ k + suc p = same_Some k (k + suc p) w in omega (arith, s))
      here false zero w later = absurd (not_here k (slots_of ps) w)
      here false (suc p) w later = later p (next_place k p (slots_of ps) w)
  end_from k zero (link b inside x ps) e = absurd (not_here k (slots_of ps) e)
  end_from k (suc p) (link b inside x ps) e = end_from (suc k) p ps (next_place k p (slots_of ps) e)
  end_from k p (hook b inside ps) e = end_from k p ps e

  -- and a leaf put there is put at the end of the field
  pub put_from : (u : Target) (k p : ℕ) (ps : Parts) → field_place_from k f (slots_of ps) ≡ Some (k + p)
      → put_leaf f u ps ≡ set_end p (leaf u) ps
  put_from u k p no_parts e = absurd (none-some (k + p) e)
  put_from u k p (field g x ps) e = here (nat_eq g f) p e (λ q. put_from u (suc k) q ps)
    where
      here : (b : Bool) (p : ℕ) → (if b then Some k else field_place_from (suc k) f (slots_of ps)) ≡ Some (k + p)
          → ((q : ℕ) → field_place_from (suc k) f (slots_of ps) ≡ Some (suc k + q) → put_leaf f u ps
          ≡ set_end q (leaf u) ps) → (if b then field g (leaf u) ps else field g x (put_leaf f u ps))
          ≡ set_end p (leaf u) (field g x ps)
      here true zero w later = refl
      here true (suc p) w later = absurd (let s : k ≡ k + suc p = same_Some k (k + suc p) w in omega (arith, s))
      here false zero w later = absurd (not_here k (slots_of ps) w)
      here false (suc p) w later = ap (field g x) (later p (next_place k p (slots_of ps) w))
  put_from u k zero (link b inside x ps) e = absurd (not_here k (slots_of ps) e)
  put_from u k (suc p) (link b inside x ps) e =
      ap (link b inside x) (put_from u (suc k) p ps (next_place k p (slots_of ps) e))
  put_from u k p (hook b inside ps) e = ap (hook b inside) (put_from u k p ps e)

  -- where the slots have not the field, nothing stands at its end
  pub none_from : (k : ℕ) (ps : Parts) → field_place_from k f (slots_of ps) ≡ None → end_of_field f ps ≡ None
  none_from k no_parts e = refl
  none_from k (field g x ps) e = here (nat_eq g f) e (none_from (suc k) ps)
    where
      here : (b : Bool) → (if b then Some k else field_place_from (suc k) f (slots_of ps)) ≡ None
          → (field_place_from (suc k) f (slots_of ps) ≡ None → end_of_field f ps ≡ None)
          → (if b then Some x else end_of_field f ps) ≡ None
      here true w later = absurd (none-some k (sym w))
      here false w later = later w
  none_from k (link b inside x ps) e = none_from (suc k) ps e
  none_from k (hook b inside ps) e = none_from k ps e
