-- Changes of a store that take no reference to a cell away: where no cell had leaked before, none has after.
use Rattle.std.proofs.Common.{◌≡◌, inl, inr, ℕ, zero, suc, Bool, true, false, nat_eq, if◌then◌else◌, Ok, List, []}
use Rattle.std.proofs.Common.{◌∷◌, slice_set, slice_index_or, refl, sym, ap, ◌∙◌, subst, true≢false}
use Rattle.std.proofs.lemmas.Bool.{or_parts}
use Rattle.fore_base.specs.declared.store.Value.{Value}
use Rattle.fore_base.specs.declared.store.Value.TheVariants.{Uninit, Cell}
use Rattle.fore_base.specs.declared.store.Datum.{Datum}
use Rattle.fore_base.specs.declared.store.CellRec.{CellRec}
use Rattle.fore_base.specs.declared.store.Store.{Store}
use Rattle.fore_base.specs.Lists.{IsIn, Paired}
use Rattle.fore_base.specs.Heap.{Reach, by_var, by_field, Leaked, leaks}
use Rattle.fore_base.specs.Stores.{var_of, set_var, set_datum, set_each, kill, field_in, with_field, with_datum, walk}
use Rattle.fore_base.specs.Stores.{write_from, store_datum}
use Rattle.fore_base.proofs.ListLemmas.{paired_same}
use Rattle.fore_base.proofs.Leaks.{leaks_leaked, sound_reached}
use Rattle.c_types.specs.Losses.{is_cell, hold_cell}
use Rattle.c_types.specs.Steps.{write_path}

-- the same cell, and what referred to a cell still does
abbrev pub KeptCell : CellRec → CellRec → Type 0
KeptCell c d = (d.number ≡ c.number) × ((n : ℕ) → IsIn (Cell n) c.fields → IsIn (Cell n) d.fields)

-- the same cells, and no reference to a cell is gone
pub record Keeps (s t : Store) : Type 0 where
  pub vars : (n : ℕ) → IsIn (Cell n) s.vars → IsIn (Cell n) t.vars
  pub cells : Paired KeptCell s.cells t.cells

-- where c is after the change
pub record After (c : CellRec) (ds : List CellRec) : Type 0 where
  pub cell : CellRec
  pub is_there : IsIn cell ds
  pub kept : KeptCell c cell

pub after : (cs ds : List CellRec) → Paired KeptCell cs ds → (c : CellRec) → IsIn c cs → After c ds
after [] [] p c h = absurd h
after [] (d ∷ ds) p c h = absurd p
after (b ∷ cs) [] p c h = absurd p
after (b ∷ cs) (d ∷ ds) p c (inl e) =
    record { cell = d; is_there = inl refl; kept = subst (λ x. KeptCell x d) (sym e) p.0 }
after (b ∷ cs) (d ∷ ds) p c (inr h) = let g : After c ds = after cs ds p.1 c h in
    record { cell = g.cell; is_there = inr g.is_there; kept = g.kept }

-- where d was before it
pub record Before (d : CellRec) (cs : List CellRec) : Type 0 where
  pub cell : CellRec
  pub is_there : IsIn cell cs
  pub same : d.number ≡ cell.number

pub before : (cs ds : List CellRec) → Paired KeptCell cs ds → (d : CellRec) → IsIn d ds → Before d cs
before [] [] p d h = absurd h
before [] (e ∷ ds) p d h = absurd p
before (c ∷ cs) [] p d h = absurd p
before (c ∷ cs) (e ∷ ds) p d (inl is) =
    record { cell = c; is_there = inl refl; same = ap (λ (x : CellRec). x.number) is ∙ p.0.0 }
before (c ∷ cs) (e ∷ ds) p d (inr h) = let g : Before d cs = before cs ds p.1 d h in
    record { cell = g.cell; is_there = inr g.is_there; same = g.same }

-- what was reached is reached
pub reach_kept : (s t : Store) → Keeps s t → {n : ℕ} → Reach s n → Reach t n
reach_kept s t k {n} (by_var h) = by_var (k.vars n h)
reach_kept s t k {n} (by_field c there reached field) =
    let g : After c t.cells = after s.cells t.cells k.cells c there in
    by_field g.cell g.is_there (subst (Reach t) (sym g.kept.0) (reach_kept s t k reached)) (g.kept.1 n field)

-- where no cell had leaked, none has leaked
pub kept_sound : (s t : Store) → Keeps s t → leaks s ≡ false → leaks t ≡ false
kept_sound s t k sound = here (leaks t) refl
  where
    leaked : Leaked t → ⊥
    leaked l =
        let b : Before l.cell s.cells = before s.cells t.cells k.cells l.cell l.is_there in
        l.unreached (subst (Reach t) (sym b.same) (reach_kept s t k (sound_reached s sound b.cell b.is_there)))

    here : (b : Bool) → leaks t ≡ b → leaks t ≡ false
    here true is = absurd (leaked (leaks_leaked t is))
    here false is = is

pub same_cells : (cs : List CellRec) → Paired KeptCell cs cs
same_cells cs = paired_same KeptCell (λ c. (refl, λ n h. h)) cs

pub keeps_all : (s : Store) → Keeps s s
keeps_all s = record { vars = λ n h. h; cells = same_cells s.cells }

-- Variables

set_kept : (vs : List Value) (x : ℕ) (v : Value) → is_cell (slice_index_or vs x Uninit) ≡ false → (n : ℕ)
    → IsIn (Cell n) vs → IsIn (Cell n) (slice_set vs x v)
set_kept [] x v e n h = absurd h
set_kept (w ∷ vs) zero v e n (inl is) = absurd (true≢false (ap is_cell is ∙ e))
set_kept (w ∷ vs) zero v e n (inr h) = inr h
set_kept (w ∷ vs) (suc x) v e n (inl is) = inl is
set_kept (w ∷ vs) (suc x) v e n (inr h) = inr (set_kept vs x v e n h)

pub set_var_keeps : (s : Store) (x : ℕ) (v : Value) → is_cell (var_of s x) ≡ false → Keeps s (set_var s x v)
set_var_keeps s x v e = record { vars = set_kept s.vars x v e; cells = same_cells s.cells }

pub set_datum_keeps : (s : Store) (x : ℕ) (d : Datum) → Keeps s (set_datum s x d)
set_datum_keeps s x d = record { vars = λ n h. h; cells = same_cells s.cells }

-- what holds no cell holds none after another variable has died
pub unset_at : (vs : List Value) (x y : ℕ) → is_cell (slice_index_or vs y Uninit) ≡ false
    → is_cell (slice_index_or (slice_set vs x Uninit) y Uninit) ≡ false
unset_at (w ∷ vs) zero zero e = refl
unset_at (w ∷ vs) (suc x) (suc y) e = unset_at vs x y e
unset_at _ _ _ e = e

unset_each : (vs : List Value) (x : ℕ) (ys : List ℕ) → hold_cell vs ys ≡ false → hold_cell (slice_set vs x Uninit) ys
    ≡ false
unset_each vs x [] e = refl
unset_each vs x (y ∷ ys) e =
    let parts : (is_cell (slice_index_or vs y Uninit) ≡ false) × (hold_cell vs ys ≡ false) =
    or_parts (is_cell (slice_index_or vs y Uninit)) (hold_cell vs ys) e in
    rw (unset_at vs x y parts.0) (unset_each vs x ys parts.1)

each_kept : (vs : List Value) (xs : List ℕ) → hold_cell vs xs ≡ false → (n : ℕ) → IsIn (Cell n) vs
    → IsIn (Cell n) (set_each vs xs Uninit)
each_kept vs [] e n h = h
each_kept vs (x ∷ xs) e n h =
    let parts : (is_cell (slice_index_or vs x Uninit) ≡ false) × (hold_cell vs xs ≡ false) =
    or_parts (is_cell (slice_index_or vs x Uninit)) (hold_cell vs xs) e in
    each_kept (slice_set vs x Uninit) xs (unset_each vs x xs parts.1) n (set_kept vs x Uninit parts.0 n h)

pub kill_keeps : (s : Store) (ps ds : List ℕ) → hold_cell s.vars ps ≡ false → Keeps s (kill ps ds s)
kill_keeps s ps ds e = record { vars = each_kept s.vars ps e; cells = same_cells s.cells }

-- Fields

with_field_kept : (n f : ℕ) (v : Value) (cs : List CellRec) → is_cell (field_in cs n f) ≡ false
    → Paired KeptCell cs (with_field cs n f v)
with_field_kept n f v [] e = tt
with_field_kept n f v (c ∷ cs) e = here (nat_eq c.number n) e (with_field_kept n f v cs)
  where
    here : (b : Bool) → is_cell (if b then slice_index_or c.fields f Uninit else field_in cs n f) ≡ false
        → (is_cell (field_in cs n f) ≡ false → Paired KeptCell cs (with_field cs n f v))
        → Paired KeptCell (c ∷ cs)
        (if b then record c { fields = slice_set c.fields f v } ∷ cs else c ∷ with_field cs n f v)
    here true old rest = ((refl, set_kept c.fields f v old), same_cells cs)
    here false old rest = ((refl, λ m h. h), rest old)

pub field_keeps : (s : Store) (n f : ℕ) (v : Value) → is_cell (field_in s.cells n f) ≡ false
    → Keeps s (record s { cells = with_field s.cells n f v })
field_keeps s n f v e = record { vars = λ m h. h; cells = with_field_kept n f v s.cells e }

with_datum_kept : (n f : ℕ) (d : Datum) (cs : List CellRec) → Paired KeptCell cs (with_datum cs n f d)
with_datum_kept n f d [] = tt
with_datum_kept n f d (c ∷ cs) = here (nat_eq c.number n) (with_datum_kept n f d cs)
  where
    here : (b : Bool) → Paired KeptCell cs (with_datum cs n f d)
        → Paired KeptCell (c ∷ cs)
        (if b then record c { datums = slice_set c.datums f d } ∷ cs else c ∷ with_datum cs n f d)
    here true rest = ((refl, λ m h. h), same_cells cs)
    here false rest = ((refl, λ m h. h), rest)

pub datum_keeps : (s : Store) (n f : ℕ) (d : Datum) → Keeps s (record s { cells = with_datum s.cells n f d })
datum_keeps s n f d = record { vars = λ m h. h; cells = with_datum_kept n f d s.cells }

pub store_datum_keeps : (s t : Store) (v : Value) (f : ℕ) (d : Datum) → store_datum s v f d ≡ Ok t → Keeps s t
store_datum_keeps s t (Cell n) f d e = let same : record s { cells = with_datum s.cells n f d } ≡ t = cc in
    subst (Keeps s) same (datum_keeps s n f d)
store_datum_keeps s t _ f d e = cc

pub store_datum_vars : (s t : Store) (v : Value) (f : ℕ) (d : Datum) → store_datum s v f d ≡ Ok t → t.vars ≡ s.vars
store_datum_vars s t (Cell n) f d e = let same : record s { cells = with_datum s.cells n f d } ≡ t = cc in
    ap (λ (u : Store). u.vars) (sym same)
store_datum_vars s t _ f d e = cc

-- Paths: what stood at the end of the path was no cell

pub write_from_vars : (s t : Store) (fs : List ℕ) (v : Value) (f : ℕ) (new : Value) → write_from s v f fs new ≡ Ok t
    → t.vars ≡ s.vars
write_from_vars s t [] (Cell n) f new e = let same : record s { cells = with_field s.cells n f new } ≡ t = cc in
    ap (λ (u : Store). u.vars) (sym same)
write_from_vars s t (g ∷ gs) (Cell n) f new e = write_from_vars s t gs (field_in s.cells n f) g new e
write_from_vars s t _ _ f new e = cc

pub write_from_keeps : (s t : Store) (fs : List ℕ) (v : Value) (f : ℕ) (old new : Value) → walk s v (f ∷ fs) ≡ Ok old
    → is_cell old ≡ false → write_from s v f fs new ≡ Ok t → Keeps s t
write_from_keeps s t [] (Cell n) f old new was none e =
    let is : field_in s.cells n f ≡ old = cc in
    let same : record s { cells = with_field s.cells n f new } ≡ t = cc in
    subst (Keeps s) same (field_keeps s n f new (ap is_cell is ∙ none))
write_from_keeps s t (g ∷ gs) (Cell n) f old new was none e =
    write_from_keeps s t gs (field_in s.cells n f) g old new was none e
write_from_keeps s t _ _ f old new was none e = cc

pub write_path_keeps : (s t : Store) (x : ℕ) (fs : List ℕ) (old new : Value) → walk s (var_of s x) fs ≡ Ok old
    → is_cell old ≡ false → write_path s x fs new ≡ Ok t → Keeps s t
write_path_keeps s t x [] old new was none e =
    let is : var_of s x ≡ old = cc in
    let same : set_var s x new ≡ t = cc in
    subst (Keeps s) same (set_var_keeps s x new (ap is_cell is ∙ none))
write_path_keeps s t x (f ∷ fs) old new was none e = write_from_keeps s t fs (var_of s x) f old new was none e
