-- Alike stores: one after the other, and the stores with which a run begins.
use Rattle.std.proofs.Common.{◌≡◌, inl, inr, ℕ, zero, suc, List, [], ◌∷◌, map, replicate, refl, sym, ap, ap₂, ◌∙◌}
use Rattle.std.proofs.Common.{subst}
use Rattle.fore_base.specs.declared.store.Value.{Value}
use Rattle.fore_base.specs.declared.store.Value.TheVariants.{Null, Uninit}
use Rattle.fore_base.specs.declared.store.CellRec.{CellRec}
use Rattle.fore_base.specs.declared.store.Store.{Store}
use Rattle.fore_base.specs.Heap.{HasCell, value_renamed, cell_renamed, IsAlike}
use Rattle.c_types.specs.Runs.{empty_store}
use Rattle.c_cfg.specs.Alike.{IsUnset}
use Rattle.c_cfg.proofs.Moving.{Moved, none, chain, moved, permuted, moved_map, moved_has}

module _ (f g : ℕ → ℕ) where
  value_twice : (v : Value) → value_renamed g (value_renamed f v) ≡ value_renamed (λ n. g (f n)) v
  value_twice Null = refl
  value_twice _ = refl

  values_twice : (vs : List Value) → map (value_renamed g) (map (value_renamed f) vs)
      ≡ map (value_renamed (λ n. g (f n))) vs
  values_twice [] = refl
  values_twice (v ∷ vs) = ap₂ (λ x xs. x ∷ xs) (value_twice v) (values_twice vs)

  cells_twice : (cs : List CellRec) → map (cell_renamed g) (map (cell_renamed f) cs)
      ≡ map (cell_renamed (λ n. g (f n))) cs
  cells_twice [] = refl
  cells_twice (c ∷ cs) = ap₂ (λ fs ds. record c { number = g (f c.number); fields = fs } ∷ ds) (values_twice c.fields)
      (cells_twice cs)

renamed_has : (f : ℕ → ℕ) (cs : List CellRec) (m : ℕ) → HasCell cs m → HasCell (map (cell_renamed f) cs) (f m)
renamed_has f [] m h = absurd h
renamed_has f (c ∷ cs) m (inl e) = inl (ap f e)
renamed_has f (c ∷ cs) m (inr h) = inr (renamed_has f cs m h)

pub alike_chain : (s t u : Store) → IsAlike s t → IsAlike t u → IsAlike s u
alike_chain s t u a b =
    let to_t : Moved (map (cell_renamed a.to) s.cells) t.cells = moved _ _ a.cells in
    let to_u : Moved (map (cell_renamed b.to) t.cells) u.cells = moved _ _ b.cells in
    let there : (m : ℕ) → HasCell s.cells m → HasCell t.cells (a.to m) =
    λ m h. moved_has (a.to m) to_t (renamed_has a.to s.cells m h) in
    record {
      to = λ n. b.to (a.to n);
      one_to_one = λ m n hm hn e. a.one_to_one m n hm hn (b.one_to_one (a.to m) (a.to n) (there m hm) (there n hn) e);
      vars = b.vars ∙ ap (map (value_renamed b.to)) a.vars ∙ values_twice a.to b.to s.vars;
      data_vars = b.data_vars ∙ a.data_vars;
      cells =
          permuted
          (subst (λ cs. Moved cs u.cells) (cells_twice a.to b.to s.cells)
          (chain (moved_map (cell_renamed b.to) to_t) to_u));
    }

pub unset_renamed : (f : ℕ → ℕ) (n : ℕ) → map (value_renamed f) (replicate n Uninit) ≡ replicate n Uninit
unset_renamed f zero = refl
unset_renamed f (suc n) = ap (λ vs. Uninit ∷ vs) (unset_renamed f n)

pub unset_alike : (ptrs datums : ℕ) (s : Store) → IsUnset ptrs datums s → IsAlike s (empty_store ptrs datums)
unset_alike ptrs datums s h = record {
  to = λ n. n;
  one_to_one = λ m n hm hn e. e;
  vars = sym (ap (map (value_renamed (λ n. n))) h.vars ∙ unset_renamed (λ n. n) ptrs);
  data_vars = sym h.data_vars;
  cells = permuted (subst (λ cs. Moved (map (cell_renamed (λ n. n)) cs) []) (sym h.cells) none);
}
