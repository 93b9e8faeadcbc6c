-- The table of hops leads where the signatures say.
use Rattle.std.proofs.Common.{◌≡◌, ◌≢◌, ◌⊎◌, inl, inr, ℕ, zero, suc, ◌<◌, ◌+◌, Bool, List, []}
use Rattle.std.proofs.Common.{◌∷◌, ◌++◌, flat_map, length, replicate, refl, sym, ap, subst, ◌∙◌, arith}
use Rattle.std.proofs.Common.{Some, slice_get}
use Rattle.std.proofs.lemmas.List.{length-set, length-replicate, get_or-set_same, get_or-set_other}
use Rattle.std.proofs.lemmas.Option.{none-some, same_Some, slice_get_within}
use Rattle.fore_base.specs.Lists.{IsIn, Every}
use Rattle.fore_base.specs.Marks.{MarksOf}
use Rattle.fore_base.proofs.ListLemmas.{in_left, in_right, in_append, in_push, in_every, every_in}
use Rattle.fore_base.proofs.ListLemmas.{every_weaker, in_from_place}
use Rattle.fa_core.specs.declared.signature.RefMark.{RefMark}
use Rattle.fa_core.specs.declared.signature.Signature.{Signature}
use Rattle.fa_back.specs.declared.hops.Hop.{Hop}
use Rattle.fa_back.specs.Reached.{
  IsMarkAt,
  SignReached,
  from_there,
  down_to,
  back_to,
  reach_to,
  AllNameBelow,
  NamesBelow,
}
use Rattle.fore_search.specs.Reached.{row, IsReached, start, next}
use Rattle.fa_back.specs.BackHops.{hop}
use Rattle.fa_back.specs.inner.HopTables.{mark_hops, tree_hops, put_hop, put_hops, table_of}
use Rattle.fa_back.proofs.BackHops.{back_kinds, own_there, reach_there}
use Rattle.fa_back.proofs.RootMarks.{in_flat, flat_in}
use Rattle.fa_back.proofs.FactParts.{same_or_not}

-- Rows.

put_long : (table : List (List ℕ)) (h : Hop) → length (put_hop table h) ≡ length table
put_long table h = length-set table h.from (row table h.from ++ h.to ∷ [])

pub puts_long : (table : List (List ℕ)) (hs : List Hop) → length (put_hops table hs) ≡ length table
puts_long table [] = refl
puts_long table (h ∷ hs) = puts_long (put_hop table h) hs ∙ put_long table h

abbrev pub StartsBelow : ℕ → Hop → Type 0
StartsBelow n h = h.from < n

row_here : (table : List (List ℕ)) (h : Hop) → h.from < length table
    → row (put_hop table h) h.from ≡ row table h.from ++ h.to ∷ []
row_here table h l = get_or-set_same table h.from (row table h.from ++ h.to ∷ []) [] l

row_there : (table : List (List ℕ)) (h : Hop) (q : ℕ) → q ≢ h.from → row (put_hop table h) q ≡ row table q
row_there table h q n = get_or-set_other table h.from q (row table h.from ++ h.to ∷ []) [] n

put_row : (table : List (List ℕ)) (h : Hop) (q r : ℕ) → h.from < length table → IsIn r (row (put_hop table h) q)
    → IsIn r (row table q) ⊎ (hop q r ≡ h)
put_row table h q r l i = elim (same_or_not q h.from) [
  | inl e ↦ elim (in_push h.to r (row table h.from)
      (subst (λ (z : List ℕ). IsIn r z) (row_here table h l)
      (subst (λ (n : ℕ). IsIn r (row (put_hop table h) n)) e i))) [
        | inl j ↦ inl (subst (λ (n : ℕ). IsIn r (row table n)) (sym e) j)
        | inr z ↦ inr (ap (λ (n : ℕ). hop n r) e ∙ ap (hop h.from) z)
      ]
  | inr n ↦ inl (subst (λ (z : List ℕ). IsIn r z) (row_there table h q n) i)
]

row_put : (table : List (List ℕ)) (h : Hop) (q r : ℕ) → h.from < length table
    → IsIn r (row table q) ⊎ (hop q r ≡ h) → IsIn r (row (put_hop table h) q)
row_put table h q r l (inl i) = elim (same_or_not q h.from) [
  | inl e ↦ subst (λ (n : ℕ). IsIn r (row (put_hop table h) n)) (sym e)
      (subst (λ (z : List ℕ). IsIn r z) (sym (row_here table h l))
      (in_left r (row table h.from) (h.to ∷ []) (subst (λ (n : ℕ). IsIn r (row table n)) e i)))
  | inr n ↦ subst (λ (z : List ℕ). IsIn r z) (sym (row_there table h q n)) i
]
row_put table h q r l (inr e) =
    subst (λ (n : ℕ). IsIn r (row (put_hop table h) n)) (sym (ap (λ (z : Hop). z.from) e))
    (subst (λ (z : List ℕ). IsIn r z) (sym (row_here table h l))
    (in_right r (row table h.from) (h.to ∷ []) (inl (ap (λ (z : Hop). z.to) e))))

starts_still : (table : List (List ℕ)) (h : Hop) (hs : List Hop) → Every (StartsBelow (length table)) hs
    → Every (StartsBelow (length (put_hop table h))) hs
starts_still table h hs k = subst (λ (n : ℕ). Every (StartsBelow n) hs) (sym (put_long table h)) k

puts_row : (table : List (List ℕ)) (hs : List Hop) (q r : ℕ) → Every (StartsBelow (length table)) hs
    → IsIn r (row (put_hops table hs) q) → IsIn r (row table q) ⊎ IsIn (hop q r) hs
puts_row table [] q r l i = inl i
puts_row table (h ∷ hs) q r l i = elim (puts_row (put_hop table h) hs q r (starts_still table h hs l.1) i) [
  | inl j ↦ elim (put_row table h q r l.0 j) [ inl k ↦ inl k | inr k ↦ inr (inl k) ]
  | inr j ↦ inr (inr j)
]

row_puts : (table : List (List ℕ)) (hs : List Hop) (q r : ℕ) → Every (StartsBelow (length table)) hs
    → IsIn r (row table q) ⊎ IsIn (hop q r) hs → IsIn r (row (put_hops table hs) q)
row_puts table [] q r l (inl i) = i
row_puts table [] q r l (inr i) = absurd i
row_puts table (h ∷ hs) q r l (inl i) =
    row_puts (put_hop table h) hs q r (starts_still table h hs l.1) (inl (row_put table h q r l.0 (inl i)))
row_puts table (h ∷ hs) q r l (inr (inl e)) =
    row_puts (put_hop table h) hs q r (starts_still table h hs l.1) (inl (row_put table h q r l.0 (inr e)))
row_puts table (h ∷ hs) q r l (inr (inr i)) =
    row_puts (put_hop table h) hs q r (starts_still table h hs l.1) (inr i)

empty_row : (n q : ℕ) → row (replicate n []) q ≡ []
empty_row zero q = refl
empty_row (suc n) zero = refl
empty_row (suc n) (suc q) = empty_row n q

-- Hops by marks.

-- where a hop comes from
pub record HopFrom (j : ℕ) (ss : List Signature) (x : Hop) : Type 0 where
  pub place : ℕ
  pub sign : Signature
  pub ref : RefMark
  pub is_at : slice_get ss place ≡ Some sign
  pub is_in : IsIn ref sign.refs
  pub hops : IsIn x (mark_hops (j + place) ref)

in_hops : (j : ℕ) (ss : List Signature) (x : Hop) → IsIn x (tree_hops j ss) → HopFrom j ss x
in_hops j [] x h = absurd h
in_hops j (z ∷ ss) x h = elim (in_append x (flat_map (mark_hops j) z.refs) (tree_hops (suc j) ss) h) [
  | inl k ↦ (let m = flat_in (mark_hops j) z.refs x k in
      let here : j ≡ j + 0 = omega arith in
      record {
        place = 0;
        sign = z;
        ref = m.0;
        is_at = refl;
        is_in = m.1;
        hops = subst (λ (n : ℕ). IsIn x (mark_hops n m.0)) here m.2;
      })
  | inr k ↦ (let f = in_hops (suc j) ss x k in
      let later : suc j + f.place ≡ j + suc f.place = omega arith in
      record {
        place = suc f.place;
        sign = f.sign;
        ref = f.ref;
        is_at = f.is_at;
        is_in = f.is_in;
        hops = subst (λ (n : ℕ). IsIn x (mark_hops n f.ref)) later f.hops;
      })
]

hops_in : (i : ℕ) (ss : List Signature) (j : ℕ) (s : Signature) (m : RefMark) (x : Hop) → slice_get ss j ≡ Some s
    → IsIn m s.refs → IsIn x (mark_hops (i + j) m) → IsIn x (tree_hops i ss)
hops_in i [] j s m x e h k = absurd (none-some s e)
hops_in i (z ∷ ss) zero s m x e h k =
    let same : z ≡ s = same_Some z s e in
    let here : i + 0 ≡ i = omega arith in
    in_left x (flat_map (mark_hops i) z.refs) (tree_hops (suc i) ss)
    (in_flat (mark_hops i) z.refs m x (subst (λ (y : Signature). IsIn m y.refs) (sym same) h)
    (subst (λ (n : ℕ). IsIn x (mark_hops n m)) here k))
hops_in i (z ∷ ss) (suc j) s m x e h k =
    let next : i + suc j ≡ suc i + j = omega arith in
    in_right x (flat_map (mark_hops i) z.refs) (tree_hops (suc i) ss)
    (hops_in (suc i) ss j s m x e h (subst (λ (n : ℕ). IsIn x (mark_hops n m)) next k))

abbrev pub AreInside : ℕ → Hop → Type 0
AreInside n h = (h.from < n) × (h.to < n)

inside_is : (n : ℕ) (x : Hop) (i r : ℕ) → x ≡ hop i r → i < n → r < n → AreInside n x
inside_is n x i r e a b = subst (AreInside n) (sym e) (a, b)

module _ (ss : List Signature) (within : AllNameBelow (length ss) ss) where
  hop_inside : (x : Hop) → HopFrom 0 ss x → AreInside (length ss) x
  hop_inside x f =
      let here : 0 + f.place ≡ f.place = omega arith in
      let own : 0 + f.place < length ss =
      subst (λ (n : ℕ). n < length ss) (sym here) (slice_get_within ss f.place f.sign f.is_at) in
      let s = every_in (λ (s : Signature). Every (NamesBelow (length ss)) s.refs) ss f.sign within
      (in_from_place ss f.place f.sign f.is_at) in
      let m : NamesBelow (length ss) f.ref = every_in (NamesBelow (length ss)) f.sign.refs f.ref s f.is_in in
      elim f.hops [
        | inl e ↦ inside_is (length ss) x (0 + f.place) f.ref.root e own m.0
        | inr z ↦ elim (back_kinds (0 + f.place) f.ref x z) [
          | inl e ↦ inside_is (length ss) x f.ref.root (0 + f.place) e.0 m.0 own
          | inr e ↦ inside_is (length ss) x f.ref.root e.0 e.2 m.0
              (every_in (λ k. k < length ss) f.ref.reach e.0 m.1 e.1)
        ]
      ]

  pub hops_inside : Every (AreInside (length ss)) (tree_hops 0 ss)
  hops_inside = in_every (AreInside (length ss)) (tree_hops 0 ss) (λ x i. hop_inside x (in_hops 0 ss x i))

  pub starts_below : (table : List (List ℕ)) → length table ≡ length ss
      → Every (StartsBelow (length table)) (tree_hops 0 ss)
  starts_below table e = every_weaker (AreInside (length ss)) (StartsBelow (length table)) (tree_hops 0 ss)
      (λ x h. subst (λ (n : ℕ). x.from < n) (sym e) h.0) hops_inside

  starts : Every (StartsBelow (length (replicate {A = List ℕ} (length ss) []))) (tree_hops 0 ss)
  starts = starts_below (replicate (length ss) []) (length-replicate (length ss) [])

  pub table_long : length (table_of ss) ≡ length ss
  table_long = puts_long (replicate (length ss) []) (tree_hops 0 ss) ∙ length-replicate (length ss) []

  table_hop : (q r : ℕ) → IsIn r (row (table_of ss) q) → IsIn (hop q r) (tree_hops 0 ss)
  table_hop q r i = elim (puts_row (replicate (length ss) []) (tree_hops 0 ss) q r starts i) [
    | inl j ↦ absurd (subst (λ (z : List ℕ). IsIn r z) (empty_row (length ss) q) j)
    | inr j ↦ j
  ]

  hop_table : (q r : ℕ) → IsIn (hop q r) (tree_hops 0 ss) → IsIn r (row (table_of ss) q)
  hop_table q r i = row_puts (replicate (length ss) []) (tree_hops 0 ss) q r starts (inr i)

  -- each root to which the table leads is one of them
  pub rows_below : (q r : ℕ) → IsIn r (row (table_of ss) q) → r < length (table_of ss)
  rows_below q r i = subst (λ (n : ℕ). r < n) (sym table_long)
      (every_in (AreInside (length ss)) (tree_hops 0 ss) (hop q r) hops_inside (table_hop q r i)).1

  module _ (from : List ℕ) where
    by_mark : (q r : ℕ) → SignReached ss from q → HopFrom 0 ss (hop q r) → SignReached ss from r
    by_mark q r h f =
        let here : 0 + f.place ≡ f.place = omega arith in
        elim f.hops [
          | inl e ↦ down_to f.place f.ref
              (subst (SignReached ss from) (ap (λ (z : Hop). z.from) e ∙ here) h) (f.sign, f.is_at, f.is_in)
              (sym (ap (λ (z : Hop). z.to) e))
          | inr z ↦ elim (back_kinds (0 + f.place) f.ref (hop q r) z) [
            | inl e ↦ subst (SignReached ss from) (sym (ap (λ (z : Hop). z.to) e.0 ∙ here))
                (back_to f.ref (subst (SignReached ss from) (ap (λ (z : Hop). z.from) e.0) h)
                (f.sign, f.is_at, f.is_in) e.1)
            | inr e ↦ reach_to f.place f.ref (subst (SignReached ss from) (ap (λ (z : Hop). z.from) e.2) h)
                (f.sign, f.is_at, f.is_in) (subst (λ (n : ℕ). IsIn n f.ref.reach) (sym (ap (λ (z : Hop). z.to) e.2))
                e.1)
          ]
        ]

    pub reached_signed : (r : ℕ) → IsReached (table_of ss) from r → SignReached ss from r
    reached_signed r (start i) = from_there i
    reached_signed r (next q h i) = by_mark q r (reached_signed q h) (in_hops 0 ss (hop q r) (table_hop q r i))

    there : (j : ℕ) (m : RefMark) (x : Hop) → IsMarkAt ss j m → IsIn x (mark_hops j m) → IsIn x (tree_hops 0 ss)
    there j m x h i =
        let here : j ≡ 0 + j = omega arith in
        hops_in 0 ss j h.0 m x h.1 h.2 (subst (λ (n : ℕ). IsIn x (mark_hops n m)) here i)

    pub signed_reached : (r : ℕ) → SignReached ss from r → IsReached (table_of ss) from r
    signed_reached r (from_there i) = start i
    signed_reached r (down_to j m h i e) =
        next j (signed_reached j h) (hop_table j r (there j m (hop j r) i (inl (ap (hop j) (sym e)))))
    signed_reached r (back_to m h i b) =
        next m.root (signed_reached m.root h)
        (hop_table m.root r (there r m (hop m.root r) i (inr (own_there r m b))))
    signed_reached r (reach_to j m h i k) =
        next m.root (signed_reached m.root h)
        (hop_table m.root r (there j m (hop m.root r) i (inr (reach_there j m r k))))

  -- marks by the table are marks by the signatures
  pub marks_signed : (from : List ℕ) (marks : List Bool) → MarksOf (length (table_of ss)) (IsReached (table_of ss) from)
      marks
      → MarksOf (length ss) (SignReached ss from) marks
  marks_signed from marks m = record {
    long = m.long ∙ table_long;
    only = λ q h. reached_signed from q (m.only q h);
    each = λ q h. m.each q (signed_reached from q h);
  }
