-- Cells keep their numbers and structs when a field or a datum is written, a cell is made, or another cell ends.
use Rattle.std.proofs.Common.{◌≡◌, ◌<◌, ◌+◌, ◌⊎◌, inl, inr, ℕ, Bool, true, false, nat_eq, if◌then◌else◌, List, [], ◌∷◌}
use Rattle.std.proofs.Common.{◌++◌, refl, sym, ◌∙◌, subst, arith}
use Rattle.fore_base.specs.declared.store.Value.{Value}
use Rattle.fore_base.specs.declared.store.Datum.{Datum}
use Rattle.fore_base.specs.declared.store.CellRec.{CellRec}
use Rattle.fore_base.specs.Lists.{Every}
use Rattle.fore_base.specs.Stores.{with_field, with_datum, dangle_in, without}
use Rattle.fore_base.specs.Heap.{HasCell, AllDiffer}
use Rattle.c_types.specs.Fits.{HasCellOf}

abbrev pub IsBelow : ℕ → CellRec → Type 0
IsBelow next c = c.number < next

pub cell_of_is : (cs : List CellRec) (n shape : ℕ) → HasCellOf cs n shape → HasCell cs n
cell_of_is [] n shape has = absurd has
cell_of_is (c ∷ cs) n shape (inl e) = inl e.0
cell_of_is (c ∷ cs) n shape (inr has) = inr (cell_of_is cs n shape has)

-- Cells of the same numbers and structs, one after the other

abbrev pub SameHeads : List CellRec → List CellRec → Type 0
SameHeads [] [] = Unit {0}
SameHeads [] (d ∷ ds) = ⊥
SameHeads (c ∷ cs) [] = ⊥
SameHeads (c ∷ cs) (d ∷ ds) = (c.number ≡ d.number) × (c.shape ≡ d.shape) × SameHeads cs ds

same_heads : (cs : List CellRec) → SameHeads cs cs
same_heads [] = tt
same_heads (c ∷ cs) = (refl, refl, same_heads cs)

-- a cell that stands in the place of one, or one before others
heads_put : (b : Bool) (c d : CellRec) (cs ds : List CellRec) → c.number ≡ d.number → c.shape ≡ d.shape
    → SameHeads cs ds → SameHeads (c ∷ cs) (if b then d ∷ cs else c ∷ ds)
heads_put true c d cs ds number shape rest = (number, shape, same_heads cs)
heads_put false c d cs ds number shape rest = (refl, refl, rest)

pub heads_with : (n f : ℕ) (v : Value) (cs : List CellRec) → SameHeads cs (with_field cs n f v)
heads_with n f v [] = tt
heads_with n f v (c ∷ cs) = heads_put (nat_eq c.number n) c _ cs _ refl refl (heads_with n f v cs)

pub heads_with_datum : (n f : ℕ) (d : Datum) (cs : List CellRec) → SameHeads cs (with_datum cs n f d)
heads_with_datum n f d [] = tt
heads_with_datum n f d (c ∷ cs) = heads_put (nat_eq c.number n) c _ cs _ refl refl (heads_with_datum n f d cs)

heads_cell : (cs ds : List CellRec) (m : ℕ) → SameHeads cs ds → HasCell ds m → HasCell cs m
heads_cell [] [] m same has = has
heads_cell [] (d ∷ ds) m same has = absurd same
heads_cell (c ∷ cs) [] m same has = absurd same
heads_cell (c ∷ cs) (d ∷ ds) m same (inl e) = inl (same.0 ∙ e)
heads_cell (c ∷ cs) (d ∷ ds) m same (inr has) = inr (heads_cell cs ds m same.2 has)

pub heads_cell_of : (cs ds : List CellRec) → SameHeads cs ds → (m t : ℕ) → HasCellOf cs m t → HasCellOf ds m t
heads_cell_of [] [] same m t has = has
heads_cell_of [] (d ∷ ds) same m t has = absurd same
heads_cell_of (c ∷ cs) [] same m t has = absurd same
heads_cell_of (c ∷ cs) (d ∷ ds) same m t (inl e) = inl (sym same.0 ∙ e.0, sym same.1 ∙ e.1)
heads_cell_of (c ∷ cs) (d ∷ ds) same m t (inr has) = inr (heads_cell_of cs ds same.2 m t has)

pub heads_differ : (cs ds : List CellRec) → SameHeads cs ds → AllDiffer cs → AllDiffer ds
heads_differ [] [] same apart = tt
heads_differ [] (d ∷ ds) same apart = absurd same
heads_differ (c ∷ cs) [] same apart = absurd same
heads_differ (c ∷ cs) (d ∷ ds) same apart = (
  (λ has. apart.0 (subst (HasCell cs) (sym same.0) (heads_cell cs ds d.number same.2 has))),
  heads_differ cs ds same.2 apart.1,
)

pub heads_below : (next : ℕ) (cs ds : List CellRec) → SameHeads cs ds → Every (IsBelow next) cs
    → Every (IsBelow next) ds
heads_below next [] [] same below = tt
heads_below next [] (d ∷ ds) same below = absurd same
heads_below next (c ∷ cs) [] same below = absurd same
heads_below next (c ∷ cs) (d ∷ ds) same below =
    (subst (λ n. n < next) same.0 below.0, heads_below next cs ds same.2 below.1)

-- The end of a cell

pub without_cell : (n m : ℕ) (cs : List CellRec) → HasCell (without n cs) m → HasCell cs m
without_cell n m [] has = has
without_cell n m (c ∷ cs) has = here (nat_eq c.number n) (without_cell n m cs) has
  where
    later : (HasCell (without n cs) m → HasCell cs m) → HasCell (dangle_in n c ∷ without n cs) m → HasCell (c ∷ cs) m
    later rest (inl e) = inl e
    later rest (inr g) = inr (rest g)

    here : (b : Bool) → (HasCell (without n cs) m → HasCell cs m)
        → HasCell (if b then without n cs else dangle_in n c ∷ without n cs) m → HasCell (c ∷ cs) m
    here true rest h = inr (rest h)
    here false rest h = later rest h

pub without_differ : (n : ℕ) (cs : List CellRec) → AllDiffer cs → AllDiffer (without n cs)
without_differ n [] apart = tt
without_differ n (c ∷ cs) apart = here (nat_eq c.number n) (without_differ n cs apart.1)
  where
    here : (b : Bool) → AllDiffer (without n cs) → AllDiffer (if b then without n cs else dangle_in n c ∷ without n cs)
    here true rest = rest
    here false rest = ((λ has. apart.0 (without_cell n c.number cs has)), rest)

pub without_below : (n next : ℕ) (cs : List CellRec) → Every (IsBelow next) cs → Every (IsBelow next) (without n cs)
without_below n next [] below = tt
without_below n next (c ∷ cs) below = here (nat_eq c.number n) (without_below n next cs below.1)
  where
    here : (b : Bool) → Every (IsBelow next) (without n cs)
        → Every (IsBelow next) (if b then without n cs else dangle_in n c ∷ without n cs)
    here true rest = rest
    here false rest = (below.0, rest)

pub without_cell_of : (n m t : ℕ) (cs : List CellRec) → nat_eq m n ≡ false → HasCellOf cs m t
    → HasCellOf (without n cs) m t
without_cell_of n m t [] other has = has
without_cell_of n m t (c ∷ cs) other (inl e) =
    let stays : nat_eq c.number n ≡ false = subst (λ k. nat_eq k n ≡ false) (sym e.0) other in
    rw stays (inl e)
without_cell_of n m t (c ∷ cs) other (inr has) = here (nat_eq c.number n) (without_cell_of n m t cs other has)
  where
    here : (b : Bool) → HasCellOf (without n cs) m t
        → HasCellOf (if b then without n cs else dangle_in n c ∷ without n cs) m t
    here true rest = rest
    here false rest = inr rest

-- A new cell

pub append_cell_of : (cs : List CellRec) (c : CellRec) (m t : ℕ) → HasCellOf cs m t → HasCellOf (cs ++ c ∷ []) m t
append_cell_of [] c m t has = absurd has
append_cell_of (b ∷ cs) c m t (inl e) = inl e
append_cell_of (b ∷ cs) c m t (inr has) = inr (append_cell_of cs c m t has)

pub last_cell_of : (cs : List CellRec) (c : CellRec) → HasCellOf (cs ++ c ∷ []) c.number c.shape
last_cell_of [] c = inl (refl, refl)
last_cell_of (b ∷ cs) c = inr (last_cell_of cs c)

append_cell : (cs : List CellRec) (c : CellRec) (m : ℕ) → HasCell (cs ++ c ∷ []) m → HasCell cs m ⊎ (c.number ≡ m)
append_cell [] c m (inl e) = inr e
append_cell [] c m (inr has) = absurd has
append_cell (b ∷ cs) c m (inl e) = inl (inl e)
append_cell (b ∷ cs) c m (inr has) = elim (append_cell cs c m has) [ inl g ↦ inl (inr g) | inr e ↦ inr e ]

cell_below : (next m : ℕ) (cs : List CellRec) → Every (IsBelow next) cs → HasCell cs m → m < next
cell_below next m [] below has = absurd has
cell_below next m (c ∷ cs) below (inl e) = subst (λ n. n < next) e below.0
cell_below next m (c ∷ cs) below (inr has) = cell_below next m cs below.1 has

append_apart : (cs : List CellRec) (c : CellRec) → (HasCell cs c.number → ⊥) → AllDiffer cs → AllDiffer (cs ++ c ∷ [])
append_apart [] c fresh apart = ((λ has. has), tt)
append_apart (b ∷ cs) c fresh apart = (
  (λ has. elim (append_cell cs c b.number has) [ inl g ↦ apart.0 g | inr e ↦ fresh (inl (sym e)) ]),
  append_apart cs c (λ has. fresh (inr has)) apart.1,
)

pub append_differ : (next : ℕ) (cs : List CellRec) (c : CellRec) → c.number ≡ next → Every (IsBelow next) cs
    → AllDiffer cs → AllDiffer (cs ++ c ∷ [])
append_differ next cs c is below apart =
    append_apart cs c (λ has. omega (arith, is, cell_below next c.number cs below has)) apart

pub append_below : (next : ℕ) (cs : List CellRec) (c : CellRec) → c.number ≡ next → Every (IsBelow next) cs
    → Every (IsBelow (next + 1)) (cs ++ c ∷ [])
append_below next [] c is below = (omega (arith, is), tt)
append_below next (b ∷ cs) c is below = (omega (arith, below.0), append_below next cs c is below.1)
