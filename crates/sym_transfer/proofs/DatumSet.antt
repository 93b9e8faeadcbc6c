-- A data field of a store that is set: the head of its cell is a fact in front of others, which stay.
use Rattle.std.proofs.Common.{◌≡◌, ◌⊎◌, inl, inr, ℕ, Bool, true, false, nat_eq, if◌then◌else◌, List, [], ◌∷◌, ◌++◌}
use Rattle.std.proofs.Common.{slice_get, slice_set, Option, Some, None, refl, sym, ap, subst}
use Rattle.std.proofs.lemmas.Bool.{eq-eqb, ne_eqb}
use Rattle.std.proofs.lemmas.Option.{none-some, same_Some}
use Rattle.fore_base.specs.Heap.{HasCell, AllDiffer}
use Rattle.fore_base.specs.Lists.{IsIn}
use Rattle.fore_base.specs.Stores.{with_datum}
use Rattle.fore_base.specs.declared.store.CellRec.{CellRec}
use Rattle.fore_base.specs.declared.store.Datum.{Datum}
use Rattle.fore_base.proofs.ListLemmas.{in_append}
use Rattle.fa_core.specs.Dressed.{Fact, Head}
use Rattle.fa_core.specs.Member.{points, cell_facts, store_facts}
use Rattle.fa_core.specs.Rearranged.{Rearranged, chain}
use Rattle.fa_core.proofs.Rearranging.{equal, after, middle}
use Rattle.fa_back.proofs.FactParts.{fact_cell}
use Rattle.c_cfg.specs.Edges.{datum_field_of}
use Rattle.sym_transfer.proofs.CellSet.{with_cell}
use Rattle.sym_transfer.proofs.Facts.{fact_shape, fact_datums, fact_has, no_head}
use Rattle.sym_transfer.proofs.Places.{set_twice, set_same}

-- the head of cell n
abbrev pub head_in : List CellRec → ℕ → Option Fact
head_in [] n = None
head_in (c ∷ cs) n = if nat_eq c.number n then Some (Head c.number c.shape c.datums) else head_in cs n

pub head_is_in : (n s : ℕ) (es : List Datum) (cs : List CellRec) → AllDiffer cs → IsIn (Head n s es) (store_facts cs)
    → head_in cs n ≡ Some (Head n s es)
head_is_in n s es [] d h = absurd h
head_is_in n s es (c ∷ cs) (d, ds) h =
    here (in_append (Head n s es) (cell_facts c) (store_facts cs) h) (head_is_in n s es cs ds)
  where
    here : IsIn (Head n s es) (cell_facts c) ⊎ IsIn (Head n s es) (store_facts cs)
        → (IsIn (Head n s es) (store_facts cs) → head_in cs n ≡ Some (Head n s es)) → head_in (c ∷ cs) n
        ≡ Some (Head n s es)
    here (inl (inl e)) rest = rw (eq-eqb c.number n (ap fact_cell (sym e))) (ap Some (sym e))
    here (inl (inr i)) rest = absurd (no_head n s es c.number 0 c.fields i)
    here (inr i) rest = rw (ne_eqb c.number n (λ e. d (subst (HasCell cs) (sym e) (fact_has (Head n s es) cs i))))
        (rest i)

pub data_field_is : (n s f : ℕ) (es : List Datum) (cs : List CellRec) → head_in cs n ≡ Some (Head n s es)
    → datum_field_of cs n f ≡ slice_get es f
data_field_is n s f es [] e = absurd (none-some (Head n s es) e)
data_field_is n s f es (c ∷ cs) e = here (nat_eq c.number n) e (data_field_is n s f es cs)
  where
    here : (b : Bool) → (if b then Some (Head c.number c.shape c.datums) else head_in cs n) ≡ Some (Head n s es)
        → (head_in cs n ≡ Some (Head n s es) → datum_field_of cs n f ≡ slice_get es f)
        → (if b then slice_get c.datums f else datum_field_of cs n f) ≡ slice_get es f
    here true q rest = ap (λ (x : Fact). slice_get (fact_datums x) f)
        (same_Some (Head c.number c.shape c.datums) (Head n s es) q)
    here false q rest = rest q

-- the head comes to the front, whatever its datum, and the rest stays
pub head_split : (cs : List CellRec) (n s : ℕ) (es : List Datum) → head_in cs n ≡ Some (Head n s es) → (R : List Fact)
    × ((f : ℕ) (x : Datum) → Rearranged (store_facts (with_datum cs n f x)) (Head n s (slice_set es f x) ∷ R))
head_split [] n s es e = absurd (none-some (Head n s es) e)
head_split (c ∷ cs) n s es e = here (nat_eq c.number n) e (head_split cs n s es)
  where
    here : (b : Bool) → (if b then Some (Head c.number c.shape c.datums) else head_in cs n) ≡ Some (Head n s es)
        → (head_in cs n ≡ Some (Head n s es) → (R : List Fact)
        × ((f : ℕ) (x : Datum) → Rearranged (store_facts (with_datum cs n f x)) (Head n s (slice_set es f x) ∷ R)))
        → (R : List Fact)
        × ((f : ℕ) (x : Datum) → Rearranged
        (store_facts (if b then record c { datums = slice_set c.datums f x } ∷ cs else c ∷ with_datum cs n f x))
        (Head n s (slice_set es f x) ∷ R))
    here true q rest = (
      points c.number 0 c.fields ++ store_facts cs,
      λ f x.
          equal
          (ap (λ (y : Fact). Head (fact_cell y) (fact_shape y) (slice_set (fact_datums y) f x)
          ∷ (points c.number 0 c.fields ++ store_facts cs))
          (same_Some (Head c.number c.shape c.datums) (Head n s es) q)),
    )
    here false q rest =
        let k = rest q in (
          cell_facts c ++ k.0,
          λ f x.
              chain (after (cell_facts c) (k.1 f x)) (middle (cell_facts c) (Head n s (slice_set es f x)) k.0),
        )

pub with_datum_same : (cs : List CellRec) (n f : ℕ) (x : Datum) → datum_field_of cs n f ≡ Some x → with_datum cs n f x
    ≡ cs
with_datum_same [] n f x e = refl
with_datum_same (c ∷ cs) n f x e = here (nat_eq c.number n) e (with_datum_same cs n f x)
  where
    here : (b : Bool) → (if b then slice_get c.datums f else datum_field_of cs n f) ≡ Some x
        → (datum_field_of cs n f ≡ Some x → with_datum cs n f x ≡ cs)
        → (if b then record c { datums = slice_set c.datums f x } ∷ cs else c ∷ with_datum cs n f x) ≡ c ∷ cs
    here true q rest = ap (λ (w : List Datum). record c { datums = w } ∷ cs) (set_same c.datums f x q)
    here false q rest = ap (λ (w : List CellRec). c ∷ w) (rest q)

pub with_datum_twice : (cs : List CellRec) (n f : ℕ) (x y : Datum) → with_datum (with_datum cs n f x) n f y
    ≡ with_datum cs n f y
with_datum_twice [] n f x y = refl
with_datum_twice (c ∷ cs) n f x y = here (nat_eq c.number n) refl (with_datum_twice cs n f x y)
  where
    here : (b : Bool) → nat_eq c.number n ≡ b → with_datum (with_datum cs n f x) n f y ≡ with_datum cs n f y
        → with_datum (if b then record c { datums = slice_set c.datums f x } ∷ cs else c ∷ with_datum cs n f x) n f y
        ≡ (if b then record c { datums = slice_set c.datums f y } ∷ cs else c ∷ with_datum cs n f y)
    here true p rest = rw p (ap (λ (w : List Datum). record c { datums = w } ∷ cs) (set_twice c.datums f x y))
    here false p rest = rw p (ap (λ (w : List CellRec). c ∷ w) rest)

-- the cell of the number is changed, and no other
pub datum_cell : (cs : List CellRec) (n f : ℕ) (x : Datum) → with_datum cs n f x
    ≡ with_cell (λ c. record c { datums = slice_set c.datums f x }) cs n
datum_cell [] n f x = refl
datum_cell (c ∷ cs) n f x =
    ap (λ (es : List CellRec). if nat_eq c.number n then record c { datums = slice_set c.datums f x } ∷ cs else c ∷ es)
    (datum_cell cs n f x)
