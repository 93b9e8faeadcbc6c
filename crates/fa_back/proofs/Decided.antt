-- Which roots are reached is decided: the roots with those to which they lead are the cells of a store, of which it is
-- decided which are reached.
use Rattle.std.proofs.Common.{◌≡◌, ◌⊎◌, inl, inr, ℕ, zero, suc, ◌+◌, false, true≢false, List, [], ◌∷◌, map, length}
use Rattle.std.proofs.Common.{refl, sym, ap, subst, ◌∙◌, arith}
use Rattle.fore_base.specs.Heap.{Reach, by_var, by_field, is_named, left_after}
use Rattle.fore_base.specs.Lists.{IsIn}
use Rattle.fore_base.specs.declared.store.CellRec.{CellRec}
use Rattle.fore_base.specs.declared.store.Store.{Store}
use Rattle.fore_base.specs.declared.store.Value.TheVariants.{Cell}
use Rattle.fore_base.proofs.Leaks.{reached_or_left, left_is_closed, IsClosed, in_is_named}
use Rattle.fore_base.proofs.ListLemmas.{in_map, in_mapped}
use Rattle.fa_core.specs.declared.signature.Signature.{Signature}
use Rattle.fa_back.specs.Reached.{SignReached, AllNameBelow}
use Rattle.fore_search.specs.Reached.{row, IsReached, start, next}
use Rattle.fa_back.specs.inner.HopTables.{table_of}
use Rattle.fa_back.proofs.FactParts.{number_of}
use Rattle.fa_back.proofs.Tabled.{reached_signed, signed_reached}

-- The store.

abbrev cell_of : ℕ → List ℕ → CellRec
cell_of q roots = record { number = q; shape = 0; datums = []; fields = map Cell roots }

abbrev cells_from : ℕ → List (List ℕ) → List CellRec
cells_from q [] = []
cells_from q (roots ∷ table) = cell_of q roots ∷ cells_from (suc q) table

-- besides, it has a cell for the root that is asked for
abbrev store_of : List (List ℕ) → List ℕ → ℕ → Store
store_of table from r =
    record { next = 0; cells = cell_of r [] ∷ cells_from 0 table; vars = map Cell from; data_vars = [] }

cell_in : (q : ℕ) (table : List (List ℕ)) (c : CellRec) → IsIn c (cells_from q table) → (k : ℕ)
    × (c ≡ cell_of (q + k) (row table k))
cell_in q [] c i = absurd i
cell_in q (roots ∷ table) c (inl e) =
    let here : q ≡ q + 0 = omega arith in
    (0, e ∙ ap (λ (n : ℕ). cell_of n roots) here)
cell_in q (roots ∷ table) c (inr i) =
    let h = cell_in (suc q) table c i in
    let later : suc q + h.0 ≡ q + suc h.0 = omega arith in
    (suc h.0, h.1 ∙ ap (λ (n : ℕ). cell_of n (row table h.0)) later)

in_cells : (q : ℕ) (table : List (List ℕ)) (k r : ℕ) → IsIn r (row table k)
    → IsIn (cell_of (q + k) (row table k)) (cells_from q table)
in_cells q [] k r i = absurd i
in_cells q (roots ∷ table) zero r i =
    let here : q + 0 ≡ q = omega arith in
    inl (ap (λ (n : ℕ). cell_of n roots) here)
in_cells q (roots ∷ table) (suc k) r i =
    let later : suc q + k ≡ q + suc k = omega arith in
    inr (subst (λ (n : ℕ). IsIn (cell_of n (row table k)) (cells_from (suc q) table)) later
    (in_cells (suc q) table k r i))

-- what is left is not reached
not_left : (s : Store) (left : List CellRec) → IsClosed s.vars s.cells left → (n : ℕ) → Reach s n → (c : CellRec)
    → IsIn c left → c.number ≡ n → ⊥
not_left s left closed n (by_var h) c g e =
    true≢false (sym (in_is_named n s.vars h) ∙ subst (λ (m : ℕ). is_named m s.vars ≡ false) e (closed.unnamed c g))
not_left s left closed n (by_field d there reached j) c g e =
    not_left s left closed d.number reached d
    (closed.kept c d g there (subst (λ (m : ℕ). IsIn (Cell m) d.fields) (sym e) j)) refl

module _ (table : List (List ℕ)) (from : List ℕ) (r : ℕ) where
  reach_reached : (n : ℕ) → Reach (store_of table from r) n → IsReached table from n
  reach_reached n (by_var i) =
      let k = in_mapped Cell (Cell n) from i in
      start (subst (λ (m : ℕ). IsIn m from) (sym (ap number_of k.2)) k.1)
  reach_reached n (by_field c (inl e) w j) = absurd (subst (λ (z : CellRec). IsIn (Cell n) z.fields) e j)
  reach_reached n (by_field c (inr i) w j) =
      let h = cell_in 0 table c i in
      let here : 0 + h.0 ≡ h.0 = omega arith in
      let k = in_mapped Cell (Cell n) (row table h.0) (subst (λ (z : CellRec). IsIn (Cell n) z.fields) h.1 j) in
      next h.0 (subst (IsReached table from) (ap (λ (z : CellRec). z.number) h.1 ∙ here) (reach_reached c.number w))
      (subst (λ (m : ℕ). IsIn m (row table h.0)) (sym (ap number_of k.2)) k.1)

  reached_reach : (n : ℕ) → IsReached table from n → Reach (store_of table from r) n
  reached_reach n (start i) = by_var (in_map Cell n from i)
  reached_reach n (next q h i) =
      let here : q ≡ 0 + q = omega arith in
      by_field (cell_of (0 + q) (row table q)) (inr (in_cells 0 table q n i))
      (subst (Reach (store_of table from r)) here (reached_reach q h)) (in_map Cell n (row table q) i)

  from_or_not : IsReached table from r ⊎ (IsReached table from r → ⊥)
  from_or_not =
      let s = store_of table from r in
      elim (reached_or_left s (length s.cells) s.vars s.cells (λ m g. by_var g) (λ d g. g) (cell_of r []) (inl refl)) [
        | inl h ↦ inl (reach_reached r h)
        | inr i ↦ inr
            (λ h. not_left s (left_after (length s.cells) s.vars s.cells)
            (left_is_closed (length s.cells) s.vars s.cells (omega arith)) r (reached_reach r h) (cell_of r []) i refl)
      ]

-- a root is reached by the signatures, or it is not
pub reached_or_not : (ss : List Signature) → AllNameBelow (length ss) ss → (from : List ℕ) (r : ℕ)
    → SignReached ss from r ⊎ (SignReached ss from r → ⊥)
reached_or_not ss within from r = elim (from_or_not (table_of ss) from r) [
  | inl h ↦ inl (reached_signed ss within from r h)
  | inr h ↦ inr (λ w. h (signed_reached ss within from r w))
]
