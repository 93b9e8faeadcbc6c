-- The leak test on stores with temporaries: what they hold hides leaks and makes none, and they hide a new cell.
use Rattle.std.proofs.Common.{◌≡◌, ◌⊎◌, inl, inr, ℕ, Bool, true, false, List, [], ◌∷◌, ◌++◌, refl, sym, ◌∙◌, subst}
use Rattle.fore_base.specs.declared.shape.Shape.{Shape}
use Rattle.fore_base.specs.declared.store.Value.{Value}
use Rattle.fore_base.specs.declared.store.Value.TheVariants.{Uninit, Cell}
use Rattle.fore_base.specs.declared.store.Datum.{Datum}
use Rattle.fore_base.specs.declared.store.CellRec.{CellRec}
use Rattle.fore_base.specs.declared.store.Store.{Store}
use Rattle.fore_base.specs.Lists.{IsIn}
use Rattle.fore_base.specs.Stores.{grown}
use Rattle.fore_base.specs.Heap.{Reach, by_var, by_field, Leaked, leaks}
use Rattle.fore_base.proofs.ListLemmas.{in_left, in_middle, in_push}
use Rattle.fore_base.proofs.Leaks.{leaks_leaked, sound_reached}
use Rattle.c_types.specs.Steps.{blank}
use Rattle.c_types.proofs.LeakKept.{same_cells, kept_sound}
use Rattle.c_cfg.proofs.Agree.Temporaries.{ext, ext0}

-- temporaries hide cells, and show none
pub hidden : (s : Store) (x y : Value) (d e : Datum) → leaks s ≡ false → leaks (ext s x y d e) ≡ false
hidden s x y d e sound =
    kept_sound s (ext s x y d e)
    (record { vars = λ n h. in_left (Cell n) s.vars (x ∷ y ∷ []) h; cells = same_cells s.cells }) sound

unset_in : (n : ℕ) (vs : List Value) → IsIn (Cell n) (vs ++ Uninit ∷ Uninit ∷ []) → IsIn (Cell n) vs
unset_in n [] (inl e) = cc
unset_in n [] (inr (inl e)) = cc
unset_in n [] (inr (inr h)) = absurd h
unset_in n (v ∷ vs) (inl e) = inl e
unset_in n (v ∷ vs) (inr h) = inr (unset_in n vs h)

-- those that hold nothing do neither
pub leaks_ext0 : (s : Store) → leaks (ext0 s) ≡ leaks s
leaks_ext0 s = here (leaks s) (leaks (ext0 s)) refl refl
  where
    here : (b c : Bool) → leaks s ≡ b → leaks (ext0 s) ≡ c → leaks (ext0 s) ≡ leaks s
    here false c is other = hidden s Uninit Uninit _ _ is ∙ sym is
    here true true is other = other ∙ sym is
    here true false is other =
        other
        ∙ sym (kept_sound (ext0 s) s (record { vars = λ n h. unset_in n s.vars h; cells = same_cells s.cells }) other)

-- a new cell that p0 names
module _ (shapes : List Shape) (s : Store) (shape : ℕ) (y : Value) (d e : Datum) where
  abbrev new_cell : CellRec
  new_cell = blank shapes s.next shape

  abbrev pub with_new : Store
  with_new = ext (grown s new_cell) (Cell s.next) y d e

  still : {n : ℕ} → Reach s n → Reach with_new n
  still {n} (by_var h) = by_var (in_left (Cell n) s.vars (Cell s.next ∷ y ∷ []) h)
  still {n} (by_field b there reached field) =
      by_field b (in_left b s.cells (new_cell ∷ []) there) (still reached) field

  pub fresh : leaks s ≡ false → leaks with_new ≡ false
  fresh sound = here (leaks with_new) refl
    where
      reached : (b : CellRec) → IsIn b s.cells ⊎ (b ≡ new_cell) → Reach with_new b.number
      reached b (inl h) = still (sound_reached s sound b h)
      reached b (inr e) = subst (λ (a : CellRec). Reach with_new a.number) (sym e)
          (by_var (in_middle (Cell s.next) s.vars (y ∷ [])))

      leaked : Leaked with_new → ⊥
      leaked l = l.unreached (reached l.cell (in_push new_cell l.cell s.cells l.is_there))

      here : (b : Bool) → leaks with_new ≡ b → leaks with_new ≡ false
      here true is = absurd (leaked (leaks_leaked with_new is))
      here false is = is
