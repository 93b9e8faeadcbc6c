-- The leak test is true exactly where some cell cannot be reached.
use Rattle.std.proofs.Common.{◌≡◌, ◌≤◌, ◌<◌, ◌⊎◌, inl, inr, ℕ, zero, suc, Bool, true, false, ◌||◌, nat_eq, List, []}
use Rattle.std.proofs.Common.{◌∷◌, ◌++◌, length, refl, sym, ap, ◌∙◌, subst, true≢false, arith}
use Rattle.std.proofs.lemmas.Bool.{eqb-true, eq-eqb}
use Rattle.fore_base.specs.declared.store.Value.{Value}
use Rattle.fore_base.specs.declared.store.Value.TheVariants.{Null, Uninit, Dangling, Cell}
use Rattle.fore_base.specs.declared.store.CellRec.{CellRec}
use Rattle.fore_base.specs.declared.store.Store.{Store}
use Rattle.fore_base.specs.Lists.{IsIn}
use Rattle.fore_base.specs.Heap.{Reach, by_var, by_field, Leaked, is_named, fields_named, cells_unnamed, left_after}
use Rattle.fore_base.specs.Heap.{is_some_left, leaks}

-- a number that is named is that of a value, and the other way

pub named_is_in : (n : ℕ) (vs : List Value) → is_named n vs ≡ true → IsIn (Cell n) vs
named_is_in n [] e = absurd (true≢false (sym e))
named_is_in n (Null ∷ vs) e = inr (named_is_in n vs e)
named_is_in n (Uninit ∷ vs) e = inr (named_is_in n vs e)
named_is_in n (Dangling ∷ vs) e = inr (named_is_in n vs e)
named_is_in n (Cell m ∷ vs) e = here (nat_eq m n) refl (named_is_in n vs)
  where
    here : (b : Bool) → nat_eq m n ≡ b → (is_named n vs ≡ true → IsIn (Cell n) vs) → IsIn (Cell n) (Cell m ∷ vs)
    here true is rest = inl (ap Cell (sym (eqb-true m n is)))
    here false is rest = inr (rest (rw is at e))

or_true : (b : Bool) → (b || true) ≡ true
or_true true = refl
or_true false = refl

pub in_is_named : (n : ℕ) (vs : List Value) → IsIn (Cell n) vs → is_named n vs ≡ true
in_is_named n [] h = absurd h
in_is_named n (Null ∷ vs) (inl e) = cc
in_is_named n (Null ∷ vs) (inr h) = in_is_named n vs h
in_is_named n (Uninit ∷ vs) (inl e) = cc
in_is_named n (Uninit ∷ vs) (inr h) = in_is_named n vs h
in_is_named n (Dangling ∷ vs) (inl e) = cc
in_is_named n (Dangling ∷ vs) (inr h) = in_is_named n vs h
in_is_named n (Cell m ∷ vs) (inl e) = let same : m ≡ n = cc in rw (eq-eqb m n same) refl
in_is_named n (Cell m ∷ vs) (inr h) = rw (in_is_named n vs h) (or_true (nat_eq m n))

in_front : {X : Type 0} (x : X) (xs ys : List X) → IsIn x xs → IsIn x (xs ++ ys)
in_front x [] ys h = absurd h
in_front x (z ∷ xs) ys (inl e) = inl e
in_front x (z ∷ xs) ys (inr h) = inr (in_front x xs ys h)

in_back : {X : Type 0} (x : X) (xs ys : List X) → IsIn x ys → IsIn x (xs ++ ys)
in_back x [] ys h = h
in_back x (z ∷ xs) ys h = inr (in_back x xs ys h)

in_either : {X : Type 0} (x : X) (xs ys : List X) → IsIn x (xs ++ ys) → IsIn x xs ⊎ IsIn x ys
in_either x [] ys h = inr h
in_either x (z ∷ xs) ys (inl e) = inl (inl e)
in_either x (z ∷ xs) ys (inr h) = elim (in_either x xs ys h) [ inl g ↦ inl (inr g) | inr g ↦ inr g ]

-- One round

-- a value among the fields of the named cells is a field of one of them
pub record FieldOf (vs : List Value) (cs : List CellRec) (v : Value) : Type 0 where
  pub cell : CellRec
  pub is_there : IsIn cell cs
  pub is_field : IsIn v cell.fields
  pub named : is_named cell.number vs ≡ true

further : {vs : List Value} {c : CellRec} {cs : List CellRec} {v : Value} → FieldOf vs cs v → FieldOf vs (c ∷ cs) v
further f = record { cell = f.cell; is_there = inr f.is_there; is_field = f.is_field; named = f.named }

pub field_of : (vs : List Value) (cs : List CellRec) (v : Value) → IsIn v (fields_named vs cs) → FieldOf vs cs v
field_of vs [] v h = absurd h
field_of vs (c ∷ cs) v h = here (is_named c.number vs) refl (field_of vs cs v)
  where
    either : is_named c.number vs ≡ true → (IsIn v (fields_named vs cs) → FieldOf vs cs v) → IsIn v c.fields
        ⊎ IsIn v (fields_named vs cs) → FieldOf vs (c ∷ cs) v
    either is rest (inl g) = record { cell = c; is_there = inl refl; is_field = g; named = is }
    either is rest (inr g) = further (rest g)

    here : (b : Bool) → is_named c.number vs ≡ b → (IsIn v (fields_named vs cs) → FieldOf vs cs v)
        → FieldOf vs (c ∷ cs) v
    here true is rest = either is rest (in_either v c.fields (fields_named vs cs) (rw is at h))
    here false is rest = further (rest (rw is at h))

pub field_named : (vs : List Value) (cs : List CellRec) (d : CellRec) (v : Value) → IsIn d cs → is_named d.number vs
    ≡ true → IsIn v d.fields → IsIn v (fields_named vs cs)
field_named vs [] d v h named field = absurd h
field_named vs (c ∷ cs) d v (inl e) named field =
    let this : is_named c.number vs ≡ true = subst (λ (x : CellRec). is_named x.number vs ≡ true) e named in
    rw this (in_front v c.fields (fields_named vs cs) (subst (λ (x : CellRec). IsIn v x.fields) e field))
field_named vs (c ∷ cs) d v (inr h) named field = here (is_named c.number vs) refl (field_named vs cs d v h named field)
  where
    here : (b : Bool) → is_named c.number vs ≡ b → IsIn v (fields_named vs cs) → IsIn v (fields_named vs (c ∷ cs))
    here true is rest = rw is (in_back v c.fields (fields_named vs cs) rest)
    here false is rest = rw is rest

-- a cell that is left was there, and is not named
pub left_was : (vs : List Value) (cs : List CellRec) (d : CellRec) → IsIn d (cells_unnamed vs cs) → IsIn d cs
    × (is_named d.number vs ≡ false)
left_was vs [] d h = absurd h
left_was vs (c ∷ cs) d h = here (is_named c.number vs) refl (left_was vs cs d)
  where
    later : IsIn d cs × (is_named d.number vs ≡ false) → IsIn d (c ∷ cs) × (is_named d.number vs ≡ false)
    later was = (inr was.0, was.1)

    first : is_named c.number vs ≡ false → (IsIn d (cells_unnamed vs cs) → IsIn d cs × (is_named d.number vs ≡ false))
        → IsIn d (c ∷ cells_unnamed vs cs) → IsIn d (c ∷ cs) × (is_named d.number vs ≡ false)
    first is rest (inl e) = (inl e, subst (λ (x : CellRec). is_named x.number vs ≡ false) (sym e) is)
    first is rest (inr g) = later (rest g)

    here : (b : Bool) → is_named c.number vs ≡ b
        → (IsIn d (cells_unnamed vs cs) → IsIn d cs × (is_named d.number vs ≡ false)) → IsIn d (c ∷ cs)
        × (is_named d.number vs ≡ false)
    here true is rest = later (rest (rw is at h))
    here false is rest = first is rest (rw is at h)

pub left_is : (vs : List Value) (cs : List CellRec) (d : CellRec) → IsIn d cs → is_named d.number vs ≡ false
    → IsIn d (cells_unnamed vs cs)
left_is vs [] d h unnamed = absurd h
left_is vs (c ∷ cs) d (inl e) unnamed =
    let this : is_named c.number vs ≡ false = subst (λ (x : CellRec). is_named x.number vs ≡ false) e unnamed in
    rw this (inl e)
left_is vs (c ∷ cs) d (inr h) unnamed = here (is_named c.number vs) refl (left_is vs cs d h unnamed)
  where
    here : (b : Bool) → is_named c.number vs ≡ b → IsIn d (cells_unnamed vs cs) → IsIn d (cells_unnamed vs (c ∷ cs))
    here true is rest = rw is rest
    here false is rest = rw is (inr rest)

-- either a round takes a cell out, or it names none
shorter : (vs : List Value) (cs : List CellRec) → (length (cells_unnamed vs cs) < length cs)
    ⊎ ((cells_unnamed vs cs ≡ cs) × (fields_named vs cs ≡ []))
shorter vs [] = inr (refl, refl)
shorter vs (c ∷ cs) = here (is_named c.number vs) refl (shorter vs cs)
  where
    here : (b : Bool) → is_named c.number vs ≡ b
        → ((length (cells_unnamed vs cs) < length cs) ⊎ ((cells_unnamed vs cs ≡ cs) × (fields_named vs cs ≡ [])))
        → (length (cells_unnamed vs (c ∷ cs)) < length (c ∷ cs))
        ⊎ ((cells_unnamed vs (c ∷ cs) ≡ c ∷ cs) × (fields_named vs (c ∷ cs) ≡ []))
    here true is (inl less) = inl (rw is (omega arith))
    here true is (inr same) = inl (rw (is, same.0) (omega arith))
    here false is (inl less) = inl (rw is (omega arith))
    here false is (inr same) = inr (rw is (ap (λ (ds : List CellRec). c ∷ ds) same.0), rw is same.1)

none_named : (cs : List CellRec) → cells_unnamed [] cs ≡ cs
none_named [] = refl
none_named (c ∷ cs) = ap (λ (ds : List CellRec). c ∷ ds) (none_named cs)

no_fields : (cs : List CellRec) → fields_named [] cs ≡ []
no_fields [] = refl
no_fields (c ∷ cs) = no_fields cs

-- no value takes nothing out
pub left_after_none : (n : ℕ) (cs : List CellRec) → left_after n [] cs ≡ cs
left_after_none zero cs = refl
left_after_none (suc n) cs = rw (no_fields cs, none_named cs) (left_after_none n cs)

-- All rounds

-- the fields of reached cells name cells that are reached
by_fields : (s : Store) (vs : List Value) (cs : List CellRec) → ((m : ℕ) → IsIn (Cell m) vs → Reach s m)
    → ((d : CellRec) → IsIn d cs → IsIn d s.cells) → (m : ℕ) → IsIn (Cell m) (fields_named vs cs) → Reach s m
by_fields s vs cs reached there m g =
    let f : FieldOf vs cs (Cell m) = field_of vs cs (Cell m) g in
    by_field f.cell (there f.cell f.is_there) (reached f.cell.number (named_is_in f.cell.number vs f.named)) f.is_field

-- where the values name only cells that are reached, each cell is reached or left
pub reached_or_left : (s : Store) (n : ℕ) (vs : List Value) (cs : List CellRec)
    → ((m : ℕ) → IsIn (Cell m) vs → Reach s m) → ((d : CellRec) → IsIn d cs → IsIn d s.cells) → (c : CellRec)
    → IsIn c cs → Reach s c.number ⊎ IsIn c (left_after n vs cs)
reached_or_left s zero vs cs reached there c h = inr h
reached_or_left s (suc n) vs cs reached there c h =
    here (is_named c.number vs) refl
    (reached_or_left s n (fields_named vs cs) (cells_unnamed vs cs) (by_fields s vs cs reached there)
    (λ d g. there d (left_was vs cs d g).0) c)
  where
    here : (b : Bool) → is_named c.number vs ≡ b
        → (IsIn c (cells_unnamed vs cs) → Reach s c.number
        ⊎ IsIn c (left_after n (fields_named vs cs) (cells_unnamed vs cs))) → Reach s c.number
        ⊎ IsIn c (left_after n (fields_named vs cs) (cells_unnamed vs cs))
    here true is rest = inl (reached c.number (named_is_in c.number vs is))
    here false is rest = rest (left_is vs cs c h is)

-- What is left in the end: cells that no value names, and that no cell but those that are left names.
pub record IsClosed (vs : List Value) (cs left : List CellRec) : Type 0 where
  pub was : (c : CellRec) → IsIn c left → IsIn c cs
  pub unnamed : (c : CellRec) → IsIn c left → is_named c.number vs ≡ false
  pub kept : (c d : CellRec) → IsIn c left → IsIn d cs → IsIn (Cell c.number) d.fields → IsIn d left

-- one round before
one_more : (vs : List Value) (cs left : List CellRec) → IsClosed (fields_named vs cs) (cells_unnamed vs cs) left
    → IsClosed vs cs left
one_more vs cs left rest = record {
  was = λ c h. (left_was vs cs c (rest.was c h)).0;
  unnamed = λ c h. (left_was vs cs c (rest.was c h)).1;
  kept = λ c d h g f. by_name c d h g f (is_named d.number vs) refl;
}
  where
    by_name : (c d : CellRec) → IsIn c left → IsIn d cs → IsIn (Cell c.number) d.fields → (b : Bool)
        → is_named d.number vs ≡ b → IsIn d left
    by_name c d h g f true is =
        absurd
        (true≢false (sym (in_is_named c.number (fields_named vs cs) (field_named vs cs d (Cell c.number) g is f))
        ∙ rest.unnamed c h))
    by_name c d h g f false is = rest.kept c d h (left_is vs cs d g is) f

pub left_is_closed : (n : ℕ) (vs : List Value) (cs : List CellRec) → length cs ≤ n → IsClosed vs cs (left_after n vs cs)
left_is_closed zero vs [] short = record { was = λ c h. h; unnamed = λ c h. absurd h; kept = λ c d h g f. g }
left_is_closed zero vs (c ∷ cs) short = absurd (omega (arith, short))
left_is_closed (suc n) vs cs short = here (shorter vs cs) (left_is_closed n (fields_named vs cs) (cells_unnamed vs cs))
  where
    here : (length (cells_unnamed vs cs) < length cs) ⊎ ((cells_unnamed vs cs ≡ cs) × (fields_named vs cs ≡ []))
        → (length (cells_unnamed vs cs) ≤ n
        → IsClosed (fields_named vs cs) (cells_unnamed vs cs) (left_after (suc n) vs cs))
        → IsClosed vs cs (left_after (suc n) vs cs)
    here (inl less) rest = one_more vs cs (left_after (suc n) vs cs) (rest (omega (arith, less, short)))
    here (inr same) rest =
        let all_left : left_after n (fields_named vs cs) (cells_unnamed vs cs) ≡ cs =
        rw (same.0, same.1) (left_after_none n cs) in
        subst (IsClosed vs cs) (sym all_left) (record {
          was = λ c h. h;
          unnamed = λ c h. (left_was vs cs c (subst (IsIn c) (sym same.0) h)).1;
          kept = λ c d h g f. g;
        })

-- The law

unreached : (s : Store) (left : List CellRec) → IsClosed s.vars s.cells left → (n : ℕ) → Reach s n → (c : CellRec)
    → IsIn c left → c.number ≡ n → ⊥
unreached s left closed n (by_var h) c g e =
    true≢false (sym (in_is_named n s.vars h) ∙ subst (λ m. is_named m s.vars ≡ false) e (closed.unnamed c g))
unreached s left closed n (by_field d there reached field) c g e =
    unreached s left closed d.number reached d
    (closed.kept c d g there (subst (λ m. IsIn (Cell m) d.fields) (sym e) field)) refl

pub leaks_leaked : (s : Store) → leaks s ≡ true → Leaked s
unfolding leaks
leaks_leaked s e = here (left_after (length s.cells) s.vars s.cells)
    (left_is_closed (length s.cells) s.vars s.cells (omega arith)) e
  where
    here : (left : List CellRec) → IsClosed s.vars s.cells left → is_some_left left ≡ true → Leaked s
    here [] closed e = absurd (true≢false (sym e))
    here (c ∷ cs) closed e =
        record {
          cell = c;
          is_there = closed.was c (inl refl);
          unreached = λ r. unreached s (c ∷ cs) closed c.number r c (inl refl) refl;
        }

pub sound_reached : (s : Store) → leaks s ≡ false → (c : CellRec) → IsIn c s.cells → Reach s c.number
unfolding leaks
sound_reached s e c h = here (left_after (length s.cells) s.vars s.cells) e
    (reached_or_left s (length s.cells) s.vars s.cells (λ m g. by_var g) (λ d g. g) c h)
  where
    here : (left : List CellRec) → is_some_left left ≡ false → Reach s c.number ⊎ IsIn c left → Reach s c.number
    here left e (inl r) = r
    here [] e (inr g) = absurd g
    here (d ∷ ds) e (inr g) = absurd (true≢false e)

pub sound_unleaked : (s : Store) → leaks s ≡ false → Leaked s → ⊥
sound_unleaked s e leaked = leaked.unreached (sound_reached s e leaked.cell leaked.is_there)
