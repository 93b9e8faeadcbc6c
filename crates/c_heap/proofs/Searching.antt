-- A search among cells in order of their numbers finds the position of a cell, or there is none.
use Rattle.std.proofs.Common.{◌≡◌, ◌≢◌, ◌≤◌, ◌<◌, inl, inr, ℕ, zero, suc, false, nat_eq, Some, None, Result, Ok, Err}
use Rattle.std.proofs.Common.{List, [], ◌∷◌, length, get_or, refl, sym, ◌∙◌, arith}
use Rattle.std.proofs.lemmas.Bool.{cases_lt, eq-eqb}
use Rattle.std.proofs.lemmas.Bool.Decides.{nat_tests}
use Rattle.std.specs.Ordering.{nat_cmp, ordering_index}
use Rattle.std.specs.Result.{result_ok}
use Rattle.std.specs.List.Sorted.{IsBinarySearchResult, IsNonDecreasingBy, IsSearchInRange}
use Rattle.std.specs.declared.cmp.Ordering.TheVariants.{Less, Equal, Greater}
use Rattle.fore_base.specs.declared.store.CellRec.{CellRec}
use Rattle.c_heap.specs.Rising.{CellsRiseFrom, position_in}

pub no_cell : CellRec
no_cell = record { number = 0; shape = 0; datums = []; fields = [] }

rises_above : (low : ℕ) (cs : List CellRec) → CellsRiseFrom low cs → (j : ℕ) (d : CellRec) → j < length cs
    → low ≤ (get_or cs j d).number
rises_above low [] h j d less = absurd (omega (arith, less))
rises_above low (c ∷ cs) h zero d less = h.0
rises_above low (c ∷ cs) h (suc j) d less =
    omega (arith, h.0, rises_above (suc c.number) cs h.1 j d (omega (arith, less)))

rises : (low : ℕ) (cs : List CellRec) → CellsRiseFrom low cs → (i j : ℕ) (d : CellRec) → i ≤ j → j < length cs
    → (get_or cs i d).number ≤ (get_or cs j d).number
rises low [] h i j d order less = absurd (omega (arith, less))
rises low (c ∷ cs) h zero zero d order less = omega arith
rises low (c ∷ cs) h zero (suc j) d order less =
    omega (arith, rises_above (suc c.number) cs h.1 j d (omega (arith, less)))
rises low (c ∷ cs) h (suc i) zero d order less = absurd (omega (arith, order))
rises low (c ∷ cs) h (suc i) (suc j) d order less =
    rises (suc c.number) cs h.1 i j d (omega (arith, order)) (omega (arith, less))

rank_rises : (x y n : ℕ) → x ≤ y → ordering_index (nat_cmp x n) ≤ ordering_index (nat_cmp y n)
rank_rises x y n less = grind (arith, nat_tests)

compared : (x n : ℕ) → x ≡ n → nat_cmp x n ≡ Equal
compared x n e = grind (arith, nat_tests)

equal_from : (x n : ℕ) → nat_cmp x n ≡ Equal → x ≡ n
equal_from x n e = grind (arith, nat_tests)

pub position_at : (low : ℕ) (cs : List CellRec) (n i : ℕ) (d : CellRec) → CellsRiseFrom low cs → i < length cs
    → (get_or cs i d).number ≡ n → position_in cs n ≡ Some i
position_at low [] n i d h less e = absurd (omega (arith, less))
position_at low (c ∷ cs) n zero d h less e = rw (eq-eqb c.number n e) refl
position_at low (c ∷ cs) n (suc i) d h less e =
    let above : suc c.number ≤ (get_or cs i d).number = rises_above (suc c.number) cs h.1 i d (omega (arith, less)) in
    let other : nat_eq c.number n ≡ false = grind (arith, nat_tests) in
    rw (other, position_at (suc c.number) cs n i d h.1 (omega (arith, less)) e) refl

absent : (cs : List CellRec) (n : ℕ) → ((j : ℕ) → j < length cs → (get_or cs j no_cell).number ≡ n → ⊥)
    → position_in cs n ≡ None
absent [] n none = refl
absent (c ∷ cs) n none =
    let first : c.number ≢ n = none zero (omega arith) in
    let other : nat_eq c.number n ≡ false = grind (arith, nat_tests) in
    rw (other, absent cs n (λ j less. none (suc j) (omega (arith, less)))) refl

pub searched_cells : (cs : List CellRec) (n : ℕ) (r : Result ℕ ℕ) → CellsRiseFrom 0 cs → IsSearchInRange r (length cs)
    → IsBinarySearchResult (λ c. nat_cmp c.number n) cs r → result_ok r ≡ position_in cs n
searched_cells cs n (Ok i) h range e =
    sym (position_at 0 cs n i no_cell h range (equal_from (get_or cs i no_cell).number n (e no_cell)))
searched_cells cs n (Err i) h range e = sym (absent cs n apart)
  where
    in_order : IsNonDecreasingBy (λ c. ordering_index (nat_cmp c.number n)) cs
    in_order a b d order less =
        rank_rises (get_or cs a d).number (get_or cs b d).number n (rises 0 cs h a b d order less)

    apart : (j : ℕ) → j < length cs → (get_or cs j no_cell).number ≡ n → ⊥
    apart j less same = elim (cases_lt j i) [
      | inl before ↦
          (let e1 : nat_cmp (get_or cs j no_cell).number n ≡ Less = (e in_order).0 j no_cell (omega arith) before in
          let e2 : Equal ≡ Less = sym (compared (get_or cs j no_cell).number n same) ∙ e1 in cc)
      | inr after ↦ (let e1 : nat_cmp (get_or cs j no_cell).number n ≡ Greater = (e in_order).1 j no_cell after less in
          let e2 : Equal ≡ Greater = sym (compared (get_or cs j no_cell).number n same) ∙ e1 in cc)
    ]
