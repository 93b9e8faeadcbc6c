-- What a store has: the fields and heads that are read in it are its facts.
use Rattle.std.proofs.Common.{◌≡◌, ◌⊎◌, inl, inr, ℕ, zero, suc, ◌+◌, true, false, nat_eq, List, []}
use Rattle.std.proofs.Common.{◌∷◌, slice_get, Some, sym, ap, ap₂, subst, ◌∙◌, true≢false, arith, zero-add}
use Rattle.std.proofs.lemmas.Bool.{eq-eqb, ne_eqb}
use Rattle.std.proofs.lemmas.Option.{none-some, same_Some}
use Rattle.fore_base.specs.Heap.{HasCell, AllDiffer}
use Rattle.fore_base.specs.Lists.{IsIn}
use Rattle.fore_base.specs.declared.store.CellRec.{CellRec}
use Rattle.fore_base.specs.declared.store.Datum.{Datum}
use Rattle.fore_base.specs.declared.store.Value.{Value}
use Rattle.fore_base.proofs.ListLemmas.{in_append}
use Rattle.fa_core.specs.Dressed.{Fact, Head, Points}
use Rattle.fa_core.specs.Member.{points, cell_facts, store_facts}
use Rattle.fa_back.proofs.FactParts.{fact_cell, fact_value}
use Rattle.fa_merge.proofs.FieldFacts.{is_head, fact_field}
use Rattle.c_cfg.specs.Edges.{field_of, struct_of}

-- what a head says of its cell
abbrev pub fact_shape : Fact → ℕ
fact_shape (Head c s ds) = s
fact_shape (Points c f v) = 0

abbrev pub fact_datums : Fact → List Datum
fact_datums (Head c s ds) = ds
fact_datums (Points c f v) = []

-- The fields of one cell

-- the fields that stand among the facts of a cell's fields
pub points_in : (n f : ℕ) (v : Value) (c k : ℕ) (vs : List Value) → IsIn (Points n f v) (points c k vs) → (j : ℕ)
    × (n ≡ c) × (f ≡ k + j) × (slice_get vs j ≡ Some v)
points_in n f v c k [] h = absurd h
points_in n f v c k (u ∷ vs) (inl e) =
    (zero, ap fact_cell e, ap fact_field e ∙ omega arith, ap (λ x. Some (fact_value x)) (sym e))
points_in n f v c k (u ∷ vs) (inr h) =
    let p = points_in n f v c (suc k) vs h in
    (suc p.0, p.1, p.2 ∙ omega arith, p.3)

pub in_points : (c k : ℕ) (vs : List Value) (j : ℕ) (v : Value) → slice_get vs j ≡ Some v
    → IsIn (Points c (k + j) v) (points c k vs)
in_points c k [] j v e = absurd (none-some v e)
in_points c k (u ∷ vs) zero v e = inl (ap₂ (λ n x. Points c n x) (omega arith) (sym (same_Some u v e)))
in_points c k (u ∷ vs) (suc j) v e =
    inr (subst (λ (n : ℕ). IsIn (Points c n v) (points c (suc k) vs)) (omega arith) (in_points c (suc k) vs j v e))

pub no_head : (n s : ℕ) (ds : List Datum) (c k : ℕ) (vs : List Value) → IsIn (Head n s ds) (points c k vs) → ⊥
no_head n s ds c k [] h = h
no_head n s ds c k (u ∷ vs) (inl e) = true≢false (ap is_head e)
no_head n s ds c k (u ∷ vs) (inr h) = no_head n s ds c (suc k) vs h

-- Cells of a store

of_points : (x : Fact) (m k : ℕ) (vs : List Value) → IsIn x (points m k vs) → m ≡ fact_cell x
of_points x m k [] i = absurd i
of_points x m k (u ∷ vs) (inl e) = ap fact_cell (sym e)
of_points x m k (u ∷ vs) (inr i) = of_points x m (suc k) vs i

-- a fact is one of a cell of the store
pub fact_has : (x : Fact) (cs : List CellRec) → IsIn x (store_facts cs) → HasCell cs (fact_cell x)
fact_has x [] h = h
fact_has x (c ∷ cs) h = here (in_append x (cell_facts c) (store_facts cs) h) (fact_has x cs)
  where
    here : IsIn x (cell_facts c) ⊎ IsIn x (store_facts cs) → (IsIn x (store_facts cs) → HasCell cs (fact_cell x))
        → HasCell (c ∷ cs) (fact_cell x)
    here (inl (inl e)) rest = inl (ap fact_cell (sym e))
    here (inl (inr i)) rest = inl (of_points x c.number 0 c.fields i)
    here (inr i) rest = inr (rest i)

-- cell m is not the first one where it is one of the others
apart : (c : CellRec) (cs : List CellRec) (m : ℕ) → (HasCell cs c.number → ⊥) → HasCell cs m → nat_eq c.number m ≡ false
apart c cs m d h = ne_eqb c.number m (λ e. d (subst (HasCell cs) (sym e) h))

-- a pointer among the facts is what is found in the store
pub field_there : (n f : ℕ) (v : Value) (cs : List CellRec) → AllDiffer cs → IsIn (Points n f v) (store_facts cs)
    → field_of cs n f ≡ Some v
field_there n f v [] d h = absurd h
field_there n f v (c ∷ cs) (d, ds) h =
    here (in_append (Points n f v) (cell_facts c) (store_facts cs) h) (field_there n f v cs ds)
  where
    mine : IsIn (Points n f v) (cell_facts c) → (nat_eq c.number n ≡ true) × (slice_get c.fields f ≡ Some v)
    mine (inl e) = absurd (true≢false (ap is_head (sym e)))
    mine (inr i) =
        let p = points_in n f v c.number 0 c.fields i in
        (eq-eqb c.number n (sym p.1), subst (λ (j : ℕ). slice_get c.fields j ≡ Some v) (sym (p.2 ∙ zero-add p.0)) p.3)

    here : IsIn (Points n f v) (cell_facts c) ⊎ IsIn (Points n f v) (store_facts cs)
        → (IsIn (Points n f v) (store_facts cs) → field_of cs n f ≡ Some v) → field_of (c ∷ cs) n f ≡ Some v
    here (inl i) rest = rw (mine i).0 (mine i).1
    here (inr i) rest = rw (apart c cs n d (fact_has (Points n f v) cs i)) (rest i)

pub head_there : (n s : ℕ) (es : List Datum) (cs : List CellRec) → AllDiffer cs → IsIn (Head n s es) (store_facts cs)
    → struct_of cs n ≡ Some s
head_there n s es [] d h = absurd h
head_there n s es (c ∷ cs) (d, ds) h =
    here (in_append (Head n s es) (cell_facts c) (store_facts cs) h) (head_there n s es cs ds)
  where
    here : IsIn (Head n s es) (cell_facts c) ⊎ IsIn (Head n s es) (store_facts cs)
        → (IsIn (Head n s es) (store_facts cs) → struct_of cs n ≡ Some s) → struct_of (c ∷ cs) n ≡ Some s
    here (inl (inl e)) rest = rw (eq-eqb c.number n (ap fact_cell (sym e))) (ap (λ x. Some (fact_shape x)) (sym e))
    here (inl (inr i)) rest = absurd (no_head n s es c.number 0 c.fields i)
    here (inr i) rest = rw (apart c cs n d (fact_has (Head n s es) cs i)) (rest i)
