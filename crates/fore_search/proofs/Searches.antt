-- The search for what is reached by a table, step by step.
use Rattle.std.proofs.Common.{◌≡◌, ◌⊎◌, inl, inr, ℕ, zero, suc, ◌<◌, ◌+◌, ◌-◌, Bool, true, false, true≢false, List, []}
use Rattle.std.proofs.Common.{◌∷◌, ◌++◌, length, get_or, set, replicate, refl, sym, subst, ◌∙◌, arith, Some, slice_get}
use Rattle.std.proofs.lemmas.List.{length-set, length_push}
use Rattle.std.proofs.lemmas.Option.{none-some, same_Some}
use Rattle.fore_base.specs.Lists.{IsIn, Every}
use Rattle.fore_base.specs.Marks.{IsMarked, MarksOf, marked_count}
use Rattle.fore_base.proofs.ListLemmas.{in_left, in_right, in_last, in_push, every_append, every_weaker, every_in}
use Rattle.fore_base.proofs.MarkLemmas.{
  marked_still,
  marked_new,
  marked_set,
  unmarked_none,
  marked_below,
  marked_default,
}
use Rattle.fore_base.proofs.MarkLemmas.{count_within, count_set}
use Rattle.fore_search.specs.Reached.{row, IsReached, start, next}
use Rattle.fore_search.specs.inner.Search.{Visits, Searching}

-- Numbers that are marked.

pub visits_none : (marks : List Bool) (todo : List ℕ) → Visits [] marks todo marks todo
visits_none marks todo = record {
  long = refl;
  stay = λ q h. h;
  all = tt;
  only = λ q h. inl h;
  kept = λ q h. h;
  due = λ q h. inl h;
  even = refl;
}

pub visits_more : (rs qs : List ℕ) (a : List Bool) (b : List ℕ) (c : List Bool) (d : List ℕ) (e : List Bool)
    (f : List ℕ) → Visits rs a b c d → Visits qs c d e f → Visits (rs ++ qs) a b e f
visits_more rs qs a b c d e f u v = record {
  long = v.long ∙ u.long;
  stay = λ q h. v.stay q (u.stay q h);
  all = every_append (IsMarked e) rs qs (every_weaker (IsMarked c) (IsMarked e) rs v.stay u.all) v.all;
  only = only;
  kept = λ q h. v.kept q (u.kept q h);
  due = due;
  even = (let x = u.even in let y = v.even in omega (arith, x, y));
}
  where
    only : (q : ℕ) → IsMarked e q → IsMarked a q ⊎ (IsIn q (rs ++ qs) × IsIn q f)
    only q h = elim (v.only q h) [
      | inl m ↦ elim (u.only q m) [ inl k ↦ inl k | inr k ↦ inr (in_left q rs qs k.0, v.kept q k.1) ]
      | inr k ↦ inr (in_right q rs qs k.0, k.1)
    ]

    due : (q : ℕ) → IsIn q f → IsIn q b ⊎ IsMarked e q
    due q h = elim (v.due q h) [
      | inl j ↦ elim (u.due q j) [ inl k ↦ inl k | inr m ↦ inr (v.stay q m) ]
      | inr m ↦ inr m
    ]

pub visits_known : (marks : List Bool) (todo : List ℕ) (r : ℕ) → IsMarked marks r
    → Visits (r ∷ []) marks todo marks todo
visits_known marks todo r m = record {
  long = refl;
  stay = λ q h. h;
  all = (m, tt);
  only = λ q h. inl h;
  kept = λ q h. h;
  due = λ q h. inl h;
  even = refl;
}

pub visits_new : (marks : List Bool) (todo : List ℕ) (r : ℕ) → r < length marks → get_or marks r false ≡ false
    → Visits (r ∷ []) marks todo (set marks r true) (todo ++ r ∷ [])
visits_new marks todo r l e = record {
  long = length-set marks r true;
  stay = λ q h. marked_still marks r q h;
  all = (marked_set marks r l, tt);
  only = λ q h. elim (marked_new marks r q h) [
    | inl z ↦ inr (inl z, subst (λ (n : ℕ). IsIn n (todo ++ r ∷ [])) (sym z) (in_last r todo))
    | inr m ↦ inl m
  ];
  kept = λ q h. in_left q todo (r ∷ []) h;
  due = λ q h. elim (in_push r q todo h) [
    | inl j ↦ inl j
    | inr z ↦ inr (subst (λ (n : ℕ). IsMarked (set marks r true) n) (sym z) (marked_set marks r l))
  ];
  even = (let one = count_set marks r (no_default (get_or marks r true) refl) in let long = length_push todo r in
      omega (arith, one, long));
}
  where
    no_default : (b : Bool) → get_or marks r true ≡ b → get_or marks r true ≡ false
    no_default true h = absurd (true≢false (sym (marked_default marks r l h) ∙ e))
    no_default false h = h

-- The search.

-- the row of q, read at its place
pub row_got : (table : List (List ℕ)) (q : ℕ) (x : List ℕ) → slice_get table q ≡ Some x → row table q ≡ x
row_got [] q x e = absurd (none-some x e)
row_got (y ∷ table) zero x e = same_Some y x e
row_got (y ∷ table) (suc q) x e = row_got table q x e

module _ (table : List (List ℕ)) (from : List ℕ) where
  pub search_first : (n : ℕ) (marks : List Bool) (todo : List ℕ) → length marks ≡ length table
      → Visits from (replicate n false) [] marks todo → Searching table from marks todo
  search_first n marks todo long v = record {
    long = long;
    only = λ q h. elim (v.only q h) [ inl m ↦ absurd (unmarked_none n q m) | inr k ↦ start k.0 ];
    first = v.all;
    due = λ q h. elim (v.due q h) [ inl i ↦ absurd i | inr m ↦ m ];
    closed = λ q h. elim (v.only q h) [ inl m ↦ absurd (unmarked_none n q m) | inr k ↦ inl k.1 ];
  }

  pub search_next : (marks : List Bool) (rest : List ℕ) (number : ℕ) (new : List Bool) (later : List ℕ)
      → Searching table from marks (rest ++ number ∷ []) → Visits (row table number) marks rest new later
      → Searching table from new later
  search_next marks rest number new later s v = record {
    long = v.long ∙ s.long;
    only = λ q h. elim (v.only q h) [
      | inl m ↦ s.only q m
      | inr k ↦ next number (s.only number (s.due number (in_last number rest))) k.0
    ];
    first = every_weaker (IsMarked marks) (IsMarked new) from v.stay s.first;
    due = λ q h. elim (v.due q h) [
      | inl i ↦ v.stay q (s.due q (in_left q rest (number ∷ []) i))
      | inr m ↦ m
    ];
    closed = closed;
  }
    where
      closed : (q : ℕ) → IsMarked new q → IsIn q later ⊎ Every (IsMarked new) (row table q)
      closed q h = elim (v.only q h) [
        | inl m ↦ elim (s.closed q m) [
          | inl i ↦ elim (in_push number q rest i) [
            | inl j ↦ inl (v.kept q j)
            | inr e ↦ inr (subst (λ (n : ℕ). Every (IsMarked new) (row table n)) (sym e) v.all)
          ]
          | inr k ↦ inr (every_weaker (IsMarked marks) (IsMarked new) (row table q) v.stay k)
        ]
        | inr k ↦ inl k.1
      ]

  pub search_done : (marks : List Bool) → Searching table from marks []
      → MarksOf (length table) (IsReached table from) marks
  search_done marks s = record { long = s.long; only = s.only; each = each }
    where
      closed : (q r : ℕ) → IsMarked marks q → IsIn r (row table q) → IsMarked marks r
      closed q r m i = elim (s.closed q m) [
        | inl j ↦ absurd j
        | inr k ↦ every_in (IsMarked marks) (row table q) r k i
      ]

      each : (q : ℕ) → IsReached table from q → IsMarked marks q
      each q (start i) = every_in (IsMarked marks) from q s.first i
      each q (next p h i) = closed p q (each p h) i

  pub search_place : (marks : List Bool) (rest : List ℕ) (number : ℕ)
      → Searching table from marks (rest ++ number ∷ [])
      → number < length table
  search_place marks rest number s =
      subst (λ (n : ℕ). number < n) s.long (marked_below marks number (s.due number (in_last number rest)))

  -- the list of numbers to be looked at, and how many have no mark
  pub search_falls : (marks : List Bool) (rest : List ℕ) (number : ℕ) (new : List Bool) (later : List ℕ)
      → Searching table from marks (rest ++ number ∷ []) → Visits (row table number) marks rest new later
      → length later + (length table - marked_count new)
      < length (rest ++ number ∷ []) + (length table - marked_count marks)
  search_falls marks rest number new later s v =
      let long = length_push rest number in
      let even = v.even in
      let old = count_within marks in
      let now = count_within new in
      let same = s.long in
      let also = v.long in
      omega (arith, long, even, old, now, same, also)
