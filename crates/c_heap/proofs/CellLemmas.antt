-- What stands at the position of a cell.
use Rattle.std.proofs.Common.{◌≡◌, ◌≤◌, ◌<◌, ℕ, zero, suc, Bool, true, false, nat_eq, if◌then◌else◌, Option, Some, None}
use Rattle.std.proofs.Common.{List, [], ◌∷◌, ◌++◌, length, get_or, map, remove, slice_set, slice_index_or, refl, sym}
use Rattle.std.proofs.Common.{ap, ◌∙◌, subst, arith}
use Rattle.std.proofs.lemmas.Bool.{eqb-true}
use Rattle.std.proofs.lemmas.Bool.Decides.{nat_tests}
use Rattle.fore_base.specs.declared.store.Value.{Value}
use Rattle.fore_base.specs.declared.store.Value.TheVariants.{Uninit}
use Rattle.fore_base.specs.declared.store.Datum.{Datum}
use Rattle.fore_base.specs.declared.store.Datum.TheVariants.{Undefined}
use Rattle.fore_base.specs.declared.store.CellRec.{CellRec}
use Rattle.fore_base.specs.Lists.{Every}
use Rattle.fore_base.specs.Stores.{field_in, with_field, datum_in, with_datum, dangle_in, without}
use Rattle.c_types.proofs.CellsKept.{IsBelow}
use Rattle.c_heap.specs.Rising.{CellsRiseFrom, position_in, one_more}

-- the cell c of the number n is the first one, at i
pub data FoundAt (n : ℕ) : List CellRec → ℕ → CellRec → Type 0 where
  first : {c : CellRec} {cs : List CellRec} → nat_eq c.number n ≡ true → FoundAt n (c ∷ cs) zero c
  further : {b c : CellRec} {cs : List CellRec} {i : ℕ} → nat_eq b.number n ≡ false → FoundAt n cs i c
      → FoundAt n (b ∷ cs) (suc i) c

-- no cell has the number n
pub data Absent (n : ℕ) : List CellRec → Type 0 where
  none : Absent n []
  other : {b : CellRec} {cs : List CellRec} → nat_eq b.number n ≡ false → Absent n cs → Absent n (b ∷ cs)

pub data Position (n : ℕ) (cs : List CellRec) : Option ℕ → Type 0 where
  found : {i : ℕ} (c : CellRec) → FoundAt n cs i c → Position n cs (Some i)
  missing : Absent n cs → Position n cs None

pub positioned : (n : ℕ) (cs : List CellRec) → Position n cs (position_in cs n)
positioned n [] = missing none
positioned n (c ∷ cs) = here (nat_eq c.number n) refl (position_in cs n) (positioned n cs)
  where
    later : nat_eq c.number n ≡ false → (p : Option ℕ) → Position n cs p → Position n (c ∷ cs) (one_more p)
    later is (Some i) (found d at) = found d (further is at)
    later is None (missing apart) = missing (other is apart)

    here : (b : Bool) → nat_eq c.number n ≡ b → (p : Option ℕ) → Position n cs p
        → Position n (c ∷ cs) (if b then Some 0 else one_more p)
    here true is p rest = found c (first is)
    here false is p rest = later is p rest

-- what a search that gave p says
pub placed : (n : ℕ) (cs : List CellRec) (r p : Option ℕ) → r ≡ position_in cs n → r ≡ p → Position n cs p
placed n cs r p position is = subst (Position n cs) (sym position ∙ is) (positioned n cs)

found_within : (n : ℕ) {cs : List CellRec} {i : ℕ} {c : CellRec} → FoundAt n cs i c → i < length cs
found_within n (first is) = omega arith
found_within n (further is at) = omega (arith, found_within n at)

found_get : (n : ℕ) {cs : List CellRec} {i : ℕ} {c : CellRec} (d : CellRec) → FoundAt n cs i c → get_or cs i d ≡ c
found_get n d (first is) = refl
found_get n d (further is at) = found_get n d at

-- What is looked up in the cell of a number: `out` is what stands in it, and `away` what is had where there is none.
module _ {X : Type 0} (n : ℕ) (out : CellRec → X) (away : X) (look : List CellRec → X) (ends : look [] ≡ away)
    (goes : (c : CellRec) (cs : List CellRec) → look (c ∷ cs) ≡ if nat_eq c.number n then out c else look cs) where
  found_look : {cs : List CellRec} {i : ℕ} {c : CellRec} → FoundAt n cs i c → look cs ≡ out c
  found_look (first {c} {cs} is) = goes c cs ∙ rw is refl
  found_look (further {b} {c} {cs} {i} is at) = goes b cs ∙ rw is (found_look at)

  absent_look : {cs : List CellRec} → Absent n cs → look cs ≡ away
  absent_look none = ends
  absent_look (other {b} {cs} is apart) = goes b cs ∙ rw is (absent_look apart)

  pub look_some : (i : ℕ) (cs : List CellRec) (d : CellRec) → Position n cs (Some i) → look cs ≡ out (get_or cs i d)
  look_some i cs d (found c at) = found_look at ∙ ap out (sym (found_get n d at))

  pub look_none : (cs : List CellRec) → Position n cs None → look cs ≡ away
  look_none cs (missing apart) = absent_look apart

-- What is written into the cell of a number: `own` is the cell with it.
module _ (n : ℕ) (own : CellRec → CellRec) (write : List CellRec → List CellRec) (ends : write [] ≡ [])
    (goes : (c : CellRec) (cs : List CellRec)
    → write (c ∷ cs) ≡ if nat_eq c.number n then own c ∷ cs else c ∷ write cs) where
  found_write : {cs : List CellRec} {i : ℕ} {c : CellRec} → FoundAt n cs i c → write cs ≡ slice_set cs i (own c)
  found_write (first {c} {cs} is) = goes c cs ∙ rw is refl
  found_write (further {b} {c} {cs} {i} is at) =
      goes b cs ∙ rw is (ap (λ (xs : List CellRec). b ∷ xs) (found_write at))

  absent_write : {cs : List CellRec} → Absent n cs → write cs ≡ cs
  absent_write none = ends
  absent_write (other {b} {cs} is apart) = goes b cs ∙ rw is (ap (λ (xs : List CellRec). b ∷ xs) (absent_write apart))

  write_some : (i : ℕ) (cs : List CellRec) (d : CellRec) → Position n cs (Some i) → write cs
      ≡ slice_set cs i (own (get_or cs i d))
  write_some i cs d (found c at) = found_write at
      ∙ ap (λ (x : CellRec). slice_set cs i (own x)) (sym (found_get n d at))

  write_none : (cs : List CellRec) → Position n cs None → write cs ≡ cs
  write_none cs (missing apart) = absent_write apart

  -- numbers keep rising
  rises_write : ((c : CellRec) → (own c).number ≡ c.number) → (low : ℕ) (cs : List CellRec) → CellsRiseFrom low cs
      → CellsRiseFrom low (write cs)
  rises_write same low [] h = subst (CellsRiseFrom low) (sym ends) tt
  rises_write same low (c ∷ cs) h = subst (CellsRiseFrom low) (sym (goes c cs))
      (here (nat_eq c.number n) (rises_write same (suc c.number) cs h.1))
    where
      here : (b : Bool) → CellsRiseFrom (suc c.number) (write cs)
          → CellsRiseFrom low (if b then own c ∷ cs else c ∷ write cs)
      here true rest = subst (λ k. (low ≤ k) × CellsRiseFrom (suc k) cs) (sym (same c)) h
      here false rest = (h.0, rest)

-- Fields

pub field_some : (n f i : ℕ) (cs : List CellRec) (d : CellRec) → Position n cs (Some i) → field_in cs n f
    ≡ slice_index_or (get_or cs i d).fields f Uninit
field_some n f = look_some n (λ (c : CellRec). slice_index_or c.fields f Uninit) Uninit
    (λ (cs : List CellRec). field_in cs n f) refl (λ c cs. refl)

pub field_none : (n f : ℕ) (cs : List CellRec) → Position n cs None → field_in cs n f ≡ Uninit
field_none n f = look_none n (λ (c : CellRec). slice_index_or c.fields f Uninit) Uninit
    (λ (cs : List CellRec). field_in cs n f) refl (λ c cs. refl)

abbrev pub with_at : CellRec → ℕ → Value → CellRec
with_at c f v = record c { fields = slice_set c.fields f v }

pub with_some : (n f i : ℕ) (v : Value) (cs : List CellRec) (d : CellRec) → Position n cs (Some i) → with_field cs n f v
    ≡ slice_set cs i (with_at (get_or cs i d) f v)
with_some n f i v = write_some n (λ c. with_at c f v) (λ (cs : List CellRec). with_field cs n f v) refl (λ c cs. refl) i

pub with_none : (n f : ℕ) (v : Value) (cs : List CellRec) → Position n cs None → with_field cs n f v ≡ cs
with_none n f v = write_none n (λ c. with_at c f v) (λ (cs : List CellRec). with_field cs n f v) refl (λ c cs. refl)

pub rises_with : (n f : ℕ) (v : Value) (low : ℕ) (cs : List CellRec) → CellsRiseFrom low cs
    → CellsRiseFrom low (with_field cs n f v)
rises_with n f v = rises_write n (λ c. with_at c f v) (λ (cs : List CellRec). with_field cs n f v) refl (λ c cs. refl)
    (λ c. refl)

-- Data fields

pub datum_some : (n f i : ℕ) (cs : List CellRec) (d : CellRec) → Position n cs (Some i) → datum_in cs n f
    ≡ slice_index_or (get_or cs i d).datums f Undefined
datum_some n f = look_some n (λ (c : CellRec). slice_index_or c.datums f Undefined) Undefined
    (λ (cs : List CellRec). datum_in cs n f) refl (λ c cs. refl)

pub datum_none : (n f : ℕ) (cs : List CellRec) → Position n cs None → datum_in cs n f ≡ Undefined
datum_none n f = look_none n (λ (c : CellRec). slice_index_or c.datums f Undefined) Undefined
    (λ (cs : List CellRec). datum_in cs n f) refl (λ c cs. refl)

abbrev pub with_datum_at : CellRec → ℕ → Datum → CellRec
with_datum_at c f v = record c { datums = slice_set c.datums f v }

pub with_datum_some : (n f i : ℕ) (v : Datum) (cs : List CellRec) (d : CellRec) → Position n cs (Some i)
    → with_datum cs n f v ≡ slice_set cs i (with_datum_at (get_or cs i d) f v)
with_datum_some n f i v = write_some n (λ c. with_datum_at c f v) (λ (cs : List CellRec). with_datum cs n f v) refl
    (λ c cs. refl) i

pub with_datum_none : (n f : ℕ) (v : Datum) (cs : List CellRec) → Position n cs None → with_datum cs n f v ≡ cs
with_datum_none n f v = write_none n (λ c. with_datum_at c f v) (λ (cs : List CellRec). with_datum cs n f v) refl
    (λ c cs. refl)

pub rises_with_datum : (n f : ℕ) (d : Datum) (low : ℕ) (cs : List CellRec) → CellsRiseFrom low cs
    → CellsRiseFrom low (with_datum cs n f d)
rises_with_datum n f d = rises_write n (λ c. with_datum_at c f d) (λ (cs : List CellRec). with_datum cs n f d) refl
    (λ c cs. refl) (λ c. refl)

-- The end of a cell

absent_without : (n : ℕ) {cs : List CellRec} → Absent n cs → without n cs ≡ map (dangle_in n) cs
absent_without n none = refl
absent_without n (other {b} is apart) = rw is (ap (λ (xs : List CellRec). dangle_in n b ∷ xs) (absent_without n apart))

pub without_none : (n : ℕ) (cs : List CellRec) → Position n cs None → without n cs ≡ map (dangle_in n) cs
without_none n cs (missing apart) = absent_without n apart

-- where the numbers rise above n, none is n
above : (n low : ℕ) (cs : List CellRec) → n < low → CellsRiseFrom low cs → Absent n cs
above n low [] less h = none
above n low (c ∷ cs) less h =
    let order : low ≤ c.number = h.0 in
    let differs : nat_eq c.number n ≡ false = grind (arith, nat_tests) in
    other differs (above n (suc c.number) cs (omega arith) h.1)

found_without : (n low : ℕ) {cs : List CellRec} {i : ℕ} {c : CellRec} → CellsRiseFrom low cs → FoundAt n cs i c
    → without n cs ≡ map (dangle_in n) (remove cs i)
found_without n low h (first {c} {cs} is) =
    rw is (absent_without n (above n (suc c.number) cs (omega (arith, eqb-true c.number n is)) h.1))
found_without n low h (further {b} {c} {cs} {i} is at) =
    rw is (ap (λ (xs : List CellRec). dangle_in n b ∷ xs) (found_without n (suc b.number) h.1 at))

pub without_some : (n i : ℕ) (cs : List CellRec) → CellsRiseFrom 0 cs → Position n cs (Some i)
    → without n cs ≡ map (dangle_in n) (remove cs i)
without_some n i cs h (found c at) = found_without n 0 h at

-- Numbers keep rising

rises_lower : (low high : ℕ) (cs : List CellRec) → low ≤ high → CellsRiseFrom high cs → CellsRiseFrom low cs
rises_lower low high [] less h = tt
rises_lower low high (c ∷ cs) less h = (omega (arith, h.0), h.1)

pub rises_without : (n low : ℕ) (cs : List CellRec) → CellsRiseFrom low cs → CellsRiseFrom low (without n cs)
rises_without n low [] h = tt
rises_without n low (c ∷ cs) h = here (nat_eq c.number n) (rises_without n (suc c.number) cs h.1)
  where
    here : (b : Bool) → CellsRiseFrom (suc c.number) (without n cs)
        → CellsRiseFrom low (if b then without n cs else dangle_in n c ∷ without n cs)
    here true rest = rises_lower low (suc c.number) (without n cs) (omega (arith, h.0)) rest
    here false rest = (h.0, rest)

-- a new cell of the number `next`
pub rises_grown : (next low : ℕ) (cs : List CellRec) (c : CellRec) → c.number ≡ next → low ≤ next → CellsRiseFrom low cs
    → Every (IsBelow next) cs → CellsRiseFrom low (cs ++ c ∷ [])
rises_grown next low [] c is less h below = (omega (arith, is), tt)
rises_grown next low (b ∷ cs) c is less h below =
    (h.0, rises_grown next (suc b.number) cs c is (omega (arith, below.0)) h.1 below.1)
