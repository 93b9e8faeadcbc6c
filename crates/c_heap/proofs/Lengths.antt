-- How many cells there are after a write and after a cell's end.
use Rattle.std.proofs.Common.{◌≡◌, ◌≤◌, ℕ, suc, nat_eq, Bool, true, false, if◌then◌else◌, List, [], ◌∷◌, length, refl}
use Rattle.std.proofs.Common.{ap, arith}
use Rattle.fore_base.specs.declared.store.Value.{Value}
use Rattle.fore_base.specs.declared.store.Datum.{Datum}
use Rattle.fore_base.specs.declared.store.CellRec.{CellRec}
use Rattle.fore_base.specs.Stores.{with_field, with_datum, dangle_in, without}

-- a cell that stands in the place of one, or one before others
length_put : (b : Bool) (c d : CellRec) (cs ds : List CellRec) → length ds ≡ length cs
    → length (if b then d ∷ cs else c ∷ ds) ≡ suc (length cs)
length_put true c d cs ds rest = refl
length_put false c d cs ds rest = ap suc rest

pub length_with_field : (cs : List CellRec) (n f : ℕ) (v : Value) → length (with_field cs n f v) ≡ length cs
length_with_field [] n f v = refl
length_with_field (c ∷ cs) n f v = length_put (nat_eq c.number n) c _ cs _ (length_with_field cs n f v)

pub length_with_datum : (cs : List CellRec) (n f : ℕ) (d : Datum) → length (with_datum cs n f d) ≡ length cs
length_with_datum [] n f d = refl
length_with_datum (c ∷ cs) n f d = length_put (nat_eq c.number n) c _ cs _ (length_with_datum cs n f d)

pub length_without : (n : ℕ) (cs : List CellRec) → length (without n cs) ≤ length cs
length_without n [] = omega arith
length_without n (c ∷ cs) = here (nat_eq c.number n) (length_without n cs)
  where
    here : (b : Bool) → length (without n cs) ≤ length cs
        → length (if b then without n cs else dangle_in n c ∷ without n cs) ≤ suc (length cs)
    here true rest = omega (arith, rest)
    here false rest = omega (arith, rest)

pub ruleset lengths = (length_with_field, length_with_datum, length_without)
