-- Of two alike stores, the first of which is proper, both have leaked or neither has.
use Rattle.std.proofs.Common.{◌≡◌, inl, inr, ℕ, Bool, true, false, List, [], ◌∷◌, map, refl, sym, ap, ◌∙◌, subst}
use Rattle.fore_base.specs.declared.store.Value.{Value}
use Rattle.fore_base.specs.declared.store.Value.TheVariants.{Cell}
use Rattle.fore_base.specs.declared.store.CellRec.{CellRec}
use Rattle.fore_base.specs.declared.store.Store.{Store}
use Rattle.fore_base.specs.Lists.{IsIn, Every}
use Rattle.fore_base.specs.Heap.{HasCell, NamesCell, IsProper, Reach, by_var, by_field, Leaked, leaks, value_renamed}
use Rattle.fore_base.specs.Heap.{cell_renamed, IsAlike}
use Rattle.fore_base.proofs.ListLemmas.{every_in, in_map, in_mapped}
use Rattle.fore_base.proofs.Leaks.{leaks_leaked, sound_unleaked}
use Rattle.c_cfg.proofs.Moving.{Moved, moved, moved_in, back}

cell_has : (cs : List CellRec) (c : CellRec) → IsIn c cs → HasCell cs c.number
cell_has [] c i = absurd i
cell_has (d ∷ ds) c (inl e) = inl (ap (λ z. z.number) (sym e))
cell_has (d ∷ ds) c (inr i) = inr (cell_has ds c i)

-- what names a cell after the renaming named one before it
pub record NamedBefore (to : ℕ → ℕ) (m : ℕ) (v : Value) : Type 0 where
  pub number : ℕ
  pub is : v ≡ Cell number
  pub to_is : to number ≡ m

named_before : (to : ℕ → ℕ) (m : ℕ) (v : Value) → Cell m ≡ value_renamed to v → NamedBefore to m v
named_before to m (Cell n) e = record { number = n; is = refl; to_is = cc }
named_before to m _ e = cc

module _ (s t : Store) (a : IsAlike s t) (p : IsProper s) where
  abbrev ren : CellRec → CellRec
  ren = cell_renamed a.to

  to_t : Moved (map ren s.cells) t.cells
  to_t = moved (map ren s.cells) t.cells a.cells

  -- what can be reached can be reached by its new number

  pub forward : {n : ℕ} → Reach s n → Reach t (a.to n)
  forward (by_var {n} i) =
      by_var (subst (λ vs. IsIn (Cell (a.to n)) vs) (sym a.vars) (in_map (value_renamed a.to) (Cell n) s.vars i))
  forward (by_field {n} c i r f) =
      by_field (ren c) (moved_in (ren c) to_t (in_map ren c s.cells i)) (forward r)
      (in_map (value_renamed a.to) (Cell n) c.fields f)

  -- and what can be reached by a new number could be reached

  pub record ReachedBefore (m : ℕ) : Type 0 where
    pub number : ℕ
    pub to_is : a.to number ≡ m
    pub is_there : HasCell s.cells number
    pub reached : Reach s number

  backward : {m : ℕ} → Reach t m → ReachedBefore m
  backward (by_var {n} i) =
      let old = in_mapped (value_renamed a.to) (Cell n) s.vars (subst (λ vs. IsIn (Cell n) vs) a.vars i) in
      let named = named_before a.to n old.0 old.2 in
      let is_in : IsIn (Cell named.number) s.vars = subst (λ v. IsIn v s.vars) named.is old.1 in
      record {
        number = named.number;
        to_is = named.to_is;
        is_there = every_in (NamesCell s.cells) s.vars (Cell named.number) p.vars is_in;
        reached = by_var is_in;
      }
  backward (by_field {n} c i r f) =
      let old = in_mapped ren c s.cells (moved_in c (back to_t) i) in
      let before = backward r in
      let f_old : IsIn (Cell n) (map (value_renamed a.to) old.0.fields) = subst (λ d. IsIn (Cell n) d.fields) old.2 f in
      let field = in_mapped (value_renamed a.to) (Cell n) old.0.fields f_old in
      let named = named_before a.to n field.0 field.2 in
      let same : before.number ≡ old.0.number =
      a.one_to_one before.number old.0.number before.is_there (cell_has s.cells old.0 old.1)
      (before.to_is ∙ ap (λ d. d.number) old.2) in
      let is_field : IsIn (Cell named.number) old.0.fields = subst (λ v. IsIn v old.0.fields) named.is field.1 in
      record {
        number = named.number;
        to_is = named.to_is;
        is_there = every_in (NamesCell s.cells) old.0.fields (Cell named.number)
            (every_in (λ d. Every (NamesCell s.cells) d.fields) s.cells old.0 p.fields old.1) is_field;
        reached = by_field old.0 old.1 (subst (Reach s) same before.reached) is_field;
      }

  lost_too : Leaked s → Leaked t
  lost_too l = record {
    cell = ren l.cell;
    is_there = moved_in (ren l.cell) to_t (in_map ren l.cell s.cells l.is_there);
    unreached = λ r.
        let before = backward r in
        l.unreached
        (subst (Reach s)
        (a.one_to_one before.number l.cell.number before.is_there (cell_has s.cells l.cell l.is_there) before.to_is)
        before.reached);
  }

  was_lost : Leaked t → Leaked s
  was_lost l =
      let old = in_mapped ren l.cell s.cells (moved_in l.cell (back to_t) l.is_there) in
      record {
        cell = old.0;
        is_there = old.1;
        unreached = λ r. l.unreached (subst (Reach t) (sym (ap (λ d. d.number) old.2)) (forward r));
      }

  pub leaks_alike : leaks s ≡ leaks t
  leaks_alike = here (leaks s) (leaks t) refl refl
    where
      here : (x y : Bool) → leaks s ≡ x → leaks t ≡ y → leaks s ≡ leaks t
      here true true e f = e ∙ sym f
      here false false e f = e ∙ sym f
      here true false e f = absurd (sound_unleaked t f (lost_too (leaks_leaked s e)))
      here false true e f = absurd (sound_unleaked s e (was_lost (leaks_leaked t f)))
