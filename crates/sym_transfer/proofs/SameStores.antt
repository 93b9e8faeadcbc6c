-- Cells with the same facts are the same cells, in some order.
use Rattle.std.proofs.Common.{◌≡◌, inl, inr, ℕ, suc, true, false, nat_eq, length, List, [], ◌∷◌, ◌++◌, slice_get, Some}
use Rattle.std.proofs.Common.{refl, sym, ap, ap₂, subst, ◌∙◌, zero-add, arith}
use Rattle.std.proofs.lemmas.Bool.{eq-eqb, ne_eqb}
use Rattle.std.proofs.lemmas.List.Sorted.{IsPermutation-refl, IsPermutation-cons, IsPermutation-middle}
use Rattle.std.proofs.lemmas.List.Sorted.{IsPermutation-trans}
use Rattle.std.proofs.lemmas.Option.{same_Some}
use Rattle.std.specs.List.Sorted.{IsPermutation}
use Rattle.fore_base.specs.Heap.{HasCell, AllDiffer}
use Rattle.fore_base.specs.Lists.{IsIn, Every}
use Rattle.fore_base.specs.Shapes.{targets_of}
use Rattle.fore_base.specs.declared.shape.Shape.{Shape}
use Rattle.fore_base.specs.declared.store.CellRec.{CellRec}
use Rattle.fore_base.specs.declared.store.Datum.{Datum}
use Rattle.fore_base.specs.declared.store.Value.{Value}
use Rattle.fore_base.proofs.ListLemmas.{in_left, in_append, every_in}
use Rattle.fa_core.specs.Dressed.{Head, Points}
use Rattle.fa_core.specs.Member.{HasItsFields, points, cell_facts, store_facts}
use Rattle.fa_core.specs.Rearranged.{Rearranged, chain}
use Rattle.fa_core.proofs.Permuted.{Out, cancel_all, in_rearranged}
use Rattle.fa_core.proofs.Rearranging.{equal, back, after, exchange}
use Rattle.fa_back.proofs.FactParts.{fact_cell}
use Rattle.c_cfg.specs.Edges.{field_of}
use Rattle.sym_transfer.proofs.Facts.{fact_shape, fact_datums, in_points, no_head, field_there}

-- An item taken out of a list.

taken : {X : Type 0} (x : X) (xs : List X) → IsIn x xs → (us : List X) × Out x xs us
taken x [] i = absurd i
taken x (y ∷ ys) (inl e) = (ys, inl (e, refl))
taken x (y ∷ ys) (inr i) = let k = taken x ys i in (y ∷ k.0, inr (k.0, refl, k.1))

taken_moved : {X : Type 0} (x : X) (xs us : List X) → Out x xs us → IsPermutation (x ∷ us) xs
taken_moved x [] us o = absurd o
taken_moved {X} x (y ∷ ys) us (inl (e, f)) =
    subst (λ (z : List X). IsPermutation z (y ∷ ys)) (ap₂ (λ (a : X) (zs : List X). a ∷ zs) (sym e) (sym f))
    (IsPermutation-refl (y ∷ ys))
taken_moved {X} x (y ∷ ys) us (inr (vs, f, o)) =
    subst (λ (z : List X). IsPermutation (x ∷ z) (y ∷ ys)) (sym f)
    (IsPermutation-trans (x ∷ (y ∷ vs)) (y ∷ (x ∷ vs)) (y ∷ ys) (IsPermutation-middle (x ∷ []) y vs)
    (IsPermutation-cons y (x ∷ vs) ys (taken_moved x ys vs o)))

every_taken : {X : Type 0} (P : X → Type 0) (x : X) (xs us : List X) → Out x xs us → Every P xs → Every P us
every_taken P x [] us o h = absurd o
every_taken P x (y ∷ ys) us (inl (e, f)) h = subst (Every P) (sym f) h.1
every_taken P x (y ∷ ys) us (inr (vs, f, o)) h = subst (Every P) (sym f) (h.0, every_taken P x ys vs o h.1)

-- A cell taken out of a store.

pub number_there : (c : CellRec) (cs : List CellRec) → IsIn c cs → HasCell cs c.number
number_there c [] i = i
number_there c (x ∷ cs) (inl e) = inl (ap (λ (z : CellRec). z.number) (sym e))
number_there c (x ∷ cs) (inr i) = inr (number_there c cs i)

was_there : (c : CellRec) (cs us : List CellRec) → Out c cs us → (n : ℕ) → HasCell us n → HasCell cs n
was_there c [] us o n h = absurd o
was_there c (x ∷ cs) us (inl (e, f)) n h = inr (subst (λ (z : List CellRec). HasCell z n) f h)
was_there c (x ∷ cs) us (inr (vs, f, o)) n h =
    here (subst (λ (z : List CellRec). HasCell z n) f h) (was_there c cs vs o n)
  where
    here : HasCell (x ∷ vs) n → (HasCell vs n → HasCell cs n) → HasCell (x ∷ cs) n
    here (inl p) later = inl p
    here (inr i) later = inr (later i)

still_differ : (c : CellRec) (cs us : List CellRec) → Out c cs us → AllDiffer cs → AllDiffer us
still_differ c [] us o d = absurd o
still_differ c (x ∷ cs) us (inl (e, f)) d = subst AllDiffer (sym f) d.1
still_differ c (x ∷ cs) us (inr (vs, f, o)) d =
    subst AllDiffer (sym f) ((λ h. d.0 (was_there c cs vs o x.number h)), still_differ c cs vs o d.1)

facts_taken : (c : CellRec) (cs us : List CellRec) → Out c cs us
    → Rearranged (store_facts cs) (cell_facts c ++ store_facts us)
facts_taken c [] us o = absurd o
facts_taken c (x ∷ cs) us (inl (e, f)) =
    equal (ap₂ (λ (y : CellRec) (ys : List CellRec). cell_facts y ++ store_facts ys) (sym e) (sym f))
facts_taken c (x ∷ cs) us (inr (vs, f, o)) =
    chain (after (cell_facts x) (facts_taken c cs vs o))
    (chain (exchange (cell_facts x) (cell_facts c) (store_facts vs))
    (equal (ap (λ (ys : List CellRec). cell_facts c ++ store_facts ys) (sym f))))

-- One cell by its facts.

-- a head is that of a cell which is there
head_cell : (n s : ℕ) (ds : List Datum) (cs : List CellRec) → IsIn (Head n s ds) (store_facts cs) → (c : CellRec)
    × IsIn c cs × (n ≡ c.number) × (s ≡ c.shape) × (ds ≡ c.datums)
head_cell n s ds [] i = absurd i
head_cell n s ds (c ∷ cs) (inl e) = (c, inl refl, ap fact_cell e, ap fact_shape e, ap fact_datums e)
head_cell n s ds (c ∷ cs) (inr i) = elim (in_append (Head n s ds) (points c.number 0 c.fields) (store_facts cs) i) [
  | inl j ↦ absurd (no_head n s ds c.number 0 c.fields j)
  | inr j ↦ (let k = head_cell n s ds cs j in (k.0, inr k.1, k.2, k.3, k.4))
]

-- the fields of a cell are what is found by its number
own_field : (c : CellRec) (cs : List CellRec) → AllDiffer cs → IsIn c cs → (f : ℕ) → field_of cs c.number f
    ≡ slice_get c.fields f
own_field c [] d i f = absurd i
own_field c (x ∷ cs) d (inl e) f =
    let q : nat_eq x.number c.number ≡ true = eq-eqb x.number c.number (ap (λ (z : CellRec). z.number) (sym e)) in
    rw q (ap (λ (z : CellRec). slice_get z.fields f) (sym e))
own_field c (x ∷ cs) d (inr i) f =
    let q : nat_eq x.number c.number ≡ false =
    ne_eqb x.number c.number (λ w. d.0 (subst (HasCell cs) (sym w) (number_there c cs i))) in
    rw q (own_field c cs d.1 i f)

same_values : (vs ws : List Value) → length vs ≡ length ws
    → ((j : ℕ) (v : Value) → slice_get vs j ≡ Some v → slice_get ws j ≡ Some v) → vs ≡ ws
same_values [] [] e h = refl
same_values [] (w ∷ ws) e h = absurd (omega (arith, e))
same_values (v ∷ vs) [] e h = absurd (omega (arith, e))
same_values (v ∷ vs) (w ∷ ws) e h =
    let long : length vs ≡ length ws = omega (arith, e) in
    ap₂ (λ (a : Value) (zs : List Value). a ∷ zs) (sym (same_Some w v (h 0 v refl)))
    (same_values vs ws long (λ j u k. h (suc j) u k))

module _ (hs : List Shape) where
  same_cell : (x y : CellRec) (cs : List CellRec) → AllDiffer cs → IsIn y cs → x.number ≡ y.number → x.shape ≡ y.shape
      → x.datums ≡ y.datums → HasItsFields hs x → HasItsFields hs y
      → ((j : ℕ) (v : Value) → slice_get x.fields j ≡ Some v → IsIn (Points x.number j v) (store_facts cs)) → x ≡ y
  same_cell x y cs d i n s ds f g points =
      let long : length x.fields ≡ length y.fields = f ∙ ap (λ (z : ℕ). length (targets_of hs z)) s ∙ sym g in
      let fields : x.fields ≡ y.fields = same_values x.fields y.fields long (λ j v e.
      sym (own_field y cs d i j) ∙ ap (λ (m : ℕ). field_of cs m j) (sym n)
      ∙ field_there x.number j v cs d (points j v e)) in
      ap₂ (λ (m k : ℕ). record { number = m; shape = k; datums = x.datums; fields = x.fields }) n s
      ∙ ap₂ (λ (es : List Datum) (vs : List Value).
      record { number = y.number; shape = y.shape; datums = es; fields = vs }) ds fields

  -- cells with the same facts are the same
  pub same_stores : (xs ys : List CellRec) → AllDiffer ys → Every (HasItsFields hs) xs → Every (HasItsFields hs) ys
      → Rearranged (store_facts xs) (store_facts ys) → IsPermutation xs ys
  same_stores [] [] d f g r = IsPermutation-refl []
  same_stores [] (y ∷ ys) d f g r = absurd (in_rearranged (Head y.number y.shape y.datums) (back r) (inl refl))
  same_stores (x ∷ xs) ys d f g r =
      let h = head_cell x.number x.shape x.datums ys (in_rearranged (Head x.number x.shape x.datums) r (inl refl)) in
      let mine : ((j : ℕ) (v : Value) → slice_get x.fields j ≡ Some v → IsIn (Points x.number j v) (store_facts ys)) =
      (λ j v e.
      in_rearranged (Points x.number j v) r
      (inr (in_left (Points x.number j v) (points x.number 0 x.fields) (store_facts xs)
      (subst (λ (m : ℕ). IsIn (Points x.number m v) (points x.number 0 x.fields)) (zero-add j)
      (in_points x.number 0 x.fields j v e))))) in
      let same : x ≡ h.0 = same_cell x h.0 ys d h.1 h.2 h.3 h.4 f.0 (every_in (HasItsFields hs) ys h.0 g h.1) mine in
      let k = taken x ys (subst (λ (z : CellRec). IsIn z ys) (sym same) h.1) in
      IsPermutation-trans (x ∷ xs) (x ∷ k.0) ys
      (IsPermutation-cons x xs k.0
      (same_stores xs k.0 (still_differ x ys k.0 k.1 d) f.1 (every_taken (HasItsFields hs) x ys k.0 k.1 g)
      (cancel_all (cell_facts x) (store_facts xs) (store_facts k.0) (chain r (facts_taken x ys k.0 k.1)))))
      (taken_moved x ys k.0 k.1)
