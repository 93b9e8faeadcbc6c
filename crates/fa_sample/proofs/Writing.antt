-- The cells that are written have the facts, in another order, and their fields stand in rising order.
use Rattle.std.proofs.Common.{◌≡◌, ℕ, zero, suc, ◌<◌, ◌+◌, Bool, true, false, cond, nat_le, List, []}
use Rattle.std.proofs.Common.{◌∷◌, ◌++◌, map, length, length-append, refl, sym, ap, subst, ◌∙◌, arith, append_assoc}
use Rattle.std.proofs.Common.{append-nil}
use Rattle.fore_base.specs.Lists.{Every}
use Rattle.fore_base.specs.declared.store.Datum.{Datum}
use Rattle.fore_base.specs.declared.store.Value.{Value}
use Rattle.fa_core.specs.Dressed.{Fact, Head, Points}
use Rattle.fa_core.specs.Rearranged.{Rearranged, keep, swap, chain, insert, in_order}
use Rattle.fa_core.proofs.Rearranging.{same, equal, back, after, before, middle}
use Rattle.fa_core.proofs.Sorting.{order_same, ordered}
use Rattle.fa_sample.specs.declared.drafts.Draft.{Draft}
use Rattle.fa_sample.specs.declared.drafts.FieldValue.{FieldValue}
use Rattle.fa_sample.specs.inner.Written.{put_in, put_at, put_field, new_draft, written}
use Rattle.fa_sample.proofs.Numbering.{Counts}

-- the pointer of cell k
abbrev pub field_fact : ℕ → FieldValue → Fact
field_fact k x = Points k x.field x.value

-- the facts of cells from number k on
abbrev pub draft_facts : ℕ → List Draft → List Fact
draft_facts k [] = []
draft_facts k (c ∷ cs) = Head k c.shape c.datums ∷ (map (field_fact k) c.fields ++ draft_facts (suc k) cs)

put_in_facts : (k : ℕ) (x : FieldValue) (ys : List FieldValue)
    → Rearranged (map (field_fact k) (put_in x ys)) (field_fact k x ∷ map (field_fact k) ys)
put_in_facts k x [] = same (field_fact k x ∷ [])
put_in_facts k x (y ∷ ys) = here (nat_le x.field y.field) (put_in_facts k x ys)
  where
    here : (b : Bool) → Rearranged (map (field_fact k) (put_in x ys)) (field_fact k x ∷ map (field_fact k) ys)
        → Rearranged (map (field_fact k) (cond b (x ∷ (y ∷ ys)) (y ∷ put_in x ys)))
        (field_fact k x ∷ (field_fact k y ∷ map (field_fact k) ys))
    here true h = same (field_fact k x ∷ (field_fact k y ∷ map (field_fact k) ys))
    here false h = chain (keep (field_fact k y) h) (swap (field_fact k y) (field_fact k x) (map (field_fact k) ys))

put_at_facts : (k at : ℕ) (x : FieldValue) (cs : List Draft) → at < length cs
    → Rearranged (draft_facts k (put_at at x cs)) (field_fact (k + at) x ∷ draft_facts k cs)
put_at_facts k at x [] l = absurd (omega (arith, l))
put_at_facts k zero x (c ∷ cs) l =
    let e : k ≡ k + 0 = omega arith in
    subst (λ (n : ℕ). Rearranged (draft_facts k (put_at zero x (c ∷ cs))) (field_fact n x ∷ draft_facts k (c ∷ cs))) e
    (chain
    (keep (Head k c.shape c.datums) (before (draft_facts (suc k) cs) (put_in_facts k x c.fields)))
    (swap (Head k c.shape c.datums) (field_fact k x) (map (field_fact k) c.fields ++ draft_facts (suc k) cs)))
put_at_facts k (suc at) x (c ∷ cs) l =
    let e : suc k + at ≡ k + suc at = omega arith in
    let r = put_at_facts (suc k) at x cs (let z : suc at < suc (length cs) = l in omega (arith, z)) in
    subst (λ (n : ℕ). Rearranged (draft_facts k (put_at (suc at) x (c ∷ cs)))
    (field_fact n x ∷ draft_facts k (c ∷ cs))) e
    (chain
    (keep (Head k c.shape c.datums)
    (chain (after (map (field_fact k) c.fields) r)
    (middle (map (field_fact k) c.fields) (field_fact (suc k + at) x) (draft_facts (suc k) cs))))
    (swap (Head k c.shape c.datums) (field_fact (suc k + at) x)
    (map (field_fact k) c.fields ++ draft_facts (suc k) cs)))

pub put_at_long : (at : ℕ) (x : FieldValue) (cs : List Draft) → length (put_at at x cs) ≡ length cs
put_at_long at x [] = refl
put_at_long zero x (c ∷ cs) = refl
put_at_long (suc at) x (c ∷ cs) = ap suc (put_at_long at x cs)

new_facts : (k s : ℕ) (ds : List Datum) (cs : List Draft)
    → draft_facts k (cs ++ new_draft s ds ∷ []) ≡ draft_facts k cs ++ Head (k + length cs) s ds ∷ []
new_facts k s ds [] = let e : k ≡ k + 0 = omega arith in ap (λ (n : ℕ). Head n s ds ∷ []) e
new_facts k s ds (c ∷ cs) =
    let e : suc k + length cs ≡ k + suc (length cs) = omega arith in
    ap (λ (z : List Fact). Head k c.shape c.datums ∷ z)
    (ap (λ (z : List Fact). map (field_fact k) c.fields ++ z) (new_facts (suc k) s ds cs)
    ∙ sym (append_assoc (map (field_fact k) c.fields) (draft_facts (suc k) cs) (Head (suc k + length cs) s ds ∷ []))
    ∙ ap (λ (n : ℕ). (map (field_fact k) c.fields ++ draft_facts (suc k) cs) ++ Head n s ds ∷ []) e)

-- where the facts count on from the cells, the cells that are written have these facts too
pub written_facts : (fs : List Fact) (cs : List Draft) (n : ℕ) → Counts (suc (length cs)) fs n
    → Rearranged (draft_facts 1 (written fs cs)) (fs ++ draft_facts 1 cs)
written_facts [] cs n h = same (draft_facts 1 cs)
written_facts (Head c s ds ∷ fs) cs n h =
    let e : suc (length cs) ≡ length (cs ++ new_draft s ds ∷ []) =
    (let z = length-append cs (new_draft s ds ∷ []) in omega (arith, z)) in
    let r = written_facts fs (cs ++ new_draft s ds ∷ []) n
    (subst (λ (k : ℕ). Counts (suc k) fs n) e h.1) in
    let q : 1 + length cs ≡ c = (let z = h.0 in omega (arith, z)) in
    let m : draft_facts 1 (cs ++ new_draft s ds ∷ []) ≡ draft_facts 1 cs ++ Head c s ds ∷ [] =
    new_facts 1 s ds cs ∙ ap (λ (k : ℕ). draft_facts 1 cs ++ Head k s ds ∷ []) q in
    let w : Rearranged (draft_facts 1 cs ++ Head c s ds ∷ []) (Head c s ds ∷ draft_facts 1 cs) =
    chain (middle (draft_facts 1 cs) (Head c s ds) [])
    (equal (ap (λ (z : List Fact). Head c s ds ∷ z) (append-nil (draft_facts 1 cs)))) in
    chain r
    (chain (after fs (chain (equal m) w)) (middle fs (Head c s ds) (draft_facts 1 cs)))
written_facts (Points zero f v ∷ fs) cs n h = absurd (let a = h.0 in omega (arith, a))
written_facts (Points (suc at) f v ∷ fs) cs n h =
    let x : FieldValue = record { field = f; value = v } in
    let e = put_at_long at (record { field = f; value = v }) cs in
    let r = written_facts fs (put_at at (record { field = f; value = v }) cs) n
    (subst (λ (k : ℕ). Counts (suc k) fs n) (sym e) h.2) in
    let l : at < length cs = (let a = h.1 in omega (arith, a)) in
    chain r
    (chain (after fs (put_at_facts 1 at (record { field = f; value = v }) cs l))
    (equal_middle at f v fs cs))
  where
    equal_middle : (at f : ℕ) (v : Value) (fs : List Fact) (cs : List Draft)
        → Rearranged (fs ++ (Points (1 + at) f v ∷ draft_facts 1 cs)) (Points (suc at) f v ∷ (fs ++ draft_facts 1 cs))
    equal_middle at f v fs cs =
        let e : 1 + at ≡ suc at = omega arith in
        subst (λ (k : ℕ). Rearranged (fs ++ (Points (1 + at) f v ∷ draft_facts 1 cs))
        (Points k f v ∷ (fs ++ draft_facts 1 cs))) e (middle fs (Points (1 + at) f v) (draft_facts 1 cs))

-- the next number follows the cells
pub written_long : (fs : List Fact) (cs : List Draft) (n : ℕ) → Counts (suc (length cs)) fs n
    → suc (length (written fs cs)) ≡ n
written_long [] cs n h = h
written_long (Head c s ds ∷ fs) cs n h =
    let e : suc (length cs) ≡ length (cs ++ new_draft s ds ∷ []) =
    (let z = length-append cs (new_draft s ds ∷ []) in omega (arith, z)) in
    written_long fs (cs ++ new_draft s ds ∷ []) n (subst (λ (k : ℕ). Counts (suc k) fs n) e h.1)
written_long (Points zero f v ∷ fs) cs n h = absurd (let a = h.0 in omega (arith, a))
written_long (Points (suc at) f v ∷ fs) cs n h =
    written_long fs (put_at at (record { field = f; value = v }) cs) n
    (subst (λ (k : ℕ). Counts (suc k) fs n) (sym (put_at_long at (record { field = f; value = v }) cs)) h.2)

-- Rising order.

-- the numbers of the fields
abbrev pub keys : List FieldValue → List ℕ
keys xs = map (λ x. x.field) xs

-- they stand in rising order
abbrev pub IsSorted : Draft → Type 0
IsSorted c = in_order (keys c.fields) ≡ keys c.fields

put_in_keys : (x : FieldValue) (ys : List FieldValue) → keys (put_in x ys) ≡ insert x.field (keys ys)
put_in_keys x [] = refl
put_in_keys x (y ∷ ys) = here (nat_le x.field y.field) (put_in_keys x ys)
  where
    here : (b : Bool) → keys (put_in x ys) ≡ insert x.field (keys ys)
        → keys (cond b (x ∷ (y ∷ ys)) (y ∷ put_in x ys))
        ≡ cond b (x.field ∷ (y.field ∷ keys ys)) (y.field ∷ insert x.field (keys ys))
    here true h = refl
    here false h = ap (λ (z : List ℕ). y.field ∷ z) h

put_in_sorted : (x : FieldValue) (ys : List FieldValue) → in_order (keys ys) ≡ keys ys
    → in_order (keys (put_in x ys)) ≡ keys (put_in x ys)
put_in_sorted x ys h =
    let e : keys (put_in x ys) ≡ in_order (x.field ∷ keys ys) = put_in_keys x ys ∙ ap (insert x.field) (sym h) in
    ap in_order e ∙ order_same (back (ordered (x.field ∷ keys ys))) ∙ sym e

put_at_sorted : (at : ℕ) (x : FieldValue) (cs : List Draft) → Every IsSorted cs → Every IsSorted (put_at at x cs)
put_at_sorted at x [] h = tt
put_at_sorted zero x (c ∷ cs) h = (put_in_sorted x c.fields h.0, h.1)
put_at_sorted (suc at) x (c ∷ cs) h = (h.0, put_at_sorted at x cs h.1)

put_field_sorted : (n : ℕ) (x : FieldValue) (cs : List Draft) → Every IsSorted cs → Every IsSorted (put_field n x cs)
put_field_sorted zero x cs h = h
put_field_sorted (suc at) x cs h = put_at_sorted at x cs h

new_sorted : (s : ℕ) (ds : List Datum) (cs : List Draft) → Every IsSorted cs
    → Every IsSorted (cs ++ new_draft s ds ∷ [])
new_sorted s ds [] h = (refl, tt)
new_sorted s ds (c ∷ cs) h = (h.0, new_sorted s ds cs h.1)

pub written_sorted : (fs : List Fact) (cs : List Draft) → Every IsSorted cs → Every IsSorted (written fs cs)
written_sorted [] cs h = h
written_sorted (Head c s ds ∷ fs) cs h = written_sorted fs (cs ++ new_draft s ds ∷ []) (new_sorted s ds cs h)
written_sorted (Points c f v ∷ fs) cs h =
    written_sorted fs (put_field c (record { field = f; value = v }) cs)
    (put_field_sorted c (record { field = f; value = v }) cs h)
