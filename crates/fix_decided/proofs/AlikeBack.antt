-- Where t is alike to s, s is alike to t.
use Rattle.std.proofs.Common.{◌≡◌, inl, inr, ℕ, Bool, true, false, nat_eq, if◌then◌else◌, List, [], ◌∷◌, map, refl}
use Rattle.std.proofs.Common.{sym, ap, ap₂, ◌∙◌, subst}
use Rattle.std.proofs.lemmas.Bool.{eqb-true, eq-eqb}
use Rattle.fore_base.specs.declared.store.Value.{Value}
use Rattle.fore_base.specs.declared.store.Value.TheVariants.{Null, Uninit, Dangling, Cell}
use Rattle.fore_base.specs.declared.store.CellRec.{CellRec}
use Rattle.fore_base.specs.declared.store.Store.{Store}
use Rattle.fore_base.specs.Heap.{HasCell, NamesCell, IsProper, IsAlike, value_renamed, cell_renamed}
use Rattle.fore_base.specs.Lists.{Every}
use Rattle.c_cfg.proofs.Moving.{Moved, moved, permuted, moved_map, moved_has, back}

-- the number of the cell that has the new number n
abbrev number_of : (ℕ → ℕ) → List CellRec → ℕ → ℕ
number_of to [] n = n
number_of to (c ∷ cs) n = if nat_eq (to c.number) n then c.number else number_of to cs n

-- no two of the cells have one new number
abbrev AreApart : (ℕ → ℕ) → List CellRec → Type 0
AreApart to cs = (m n : ℕ) → HasCell cs m → HasCell cs n → to m ≡ to n → m ≡ n

number_is : (to : ℕ → ℕ) (cs : List CellRec) (m : ℕ) → AreApart to cs → HasCell cs m → number_of to cs (to m) ≡ m
number_is to [] m apart h = absurd h
number_is to (c ∷ cs) m apart h =
    here (nat_eq (to c.number) (to m)) refl h (λ i. number_is to cs m (λ x y j k. apart x y (inr j) (inr k)) i)
  where
    differ : false ≡ true → ⊥
    differ e = cc

    here : (b : Bool) → nat_eq (to c.number) (to m) ≡ b → HasCell (c ∷ cs) m
        → (HasCell cs m → number_of to cs (to m) ≡ m) → (if b then c.number else number_of to cs (to m)) ≡ m
    here true e i rest = apart c.number m (inl refl) i (eqb-true (to c.number) (to m) e)
    here false e (inl is) rest = absurd (differ (sym e ∙ eq-eqb (to c.number) (to m) (ap to is)))
    here false e (inr i) rest = rest i

module _ (to : ℕ → ℕ) (all : List CellRec) (apart : AreApart to all) where
  value_back : (v : Value) → NamesCell all v → value_renamed (number_of to all) (value_renamed to v) ≡ v
  value_back Null h = refl
  value_back Uninit h = refl
  value_back Dangling h = refl
  value_back (Cell n) h = ap Cell (number_is to all n apart h)

  values_back : (vs : List Value) → Every (NamesCell all) vs
      → map (value_renamed (number_of to all)) (map (value_renamed to) vs) ≡ vs
  values_back [] h = refl
  values_back (v ∷ vs) h = ap₂ (λ x xs. x ∷ xs) (value_back v h.0) (values_back vs h.1)

  cells_back : (cs : List CellRec) → ((m : ℕ) → HasCell cs m → HasCell all m)
      → Every (λ (c : CellRec). Every (NamesCell all) c.fields) cs
      → map (cell_renamed (number_of to all)) (map (cell_renamed to) cs) ≡ cs
  cells_back [] there h = refl
  cells_back (c ∷ cs) there h =
      ap₂ (λ (d : CellRec) (ds : List CellRec). d ∷ ds)
      (ap₂ (λ (n : ℕ) (fs : List Value). record c { number = n; fields = fs })
      (number_is to all c.number apart (there c.number (inl refl))) (values_back c.fields h.0))
      (cells_back cs (λ m i. there m (inr i)) h.1)

  -- a cell with a new number is one with an old number
  old_number : (cs : List CellRec) (m : ℕ) → HasCell (map (cell_renamed to) cs) m
      → (n : ℕ) × HasCell cs n × (to n ≡ m)
  old_number [] m h = absurd h
  old_number (c ∷ cs) m (inl e) = (c.number, inl refl, e)
  old_number (c ∷ cs) m (inr h) = let k = old_number cs m h in (k.0, inr k.1, k.2)

pub alike_back : (s t : Store) → IsProper s → IsAlike s t → IsAlike t s
alike_back s t proper a =
    let to_t : Moved (map (cell_renamed a.to) s.cells) t.cells = moved _ _ a.cells in
    let old : (m : ℕ) → HasCell t.cells m → (n : ℕ) × HasCell s.cells n × (a.to n ≡ m) =
    λ m h. old_number a.to s.cells a.one_to_one s.cells m (moved_has m (back to_t) h) in
    let number : (m : ℕ) (h : HasCell t.cells m) → number_of a.to s.cells m ≡ (old m h).0 =
    λ m h. ap (number_of a.to s.cells) (sym (old m h).2)
    ∙ number_is a.to s.cells (old m h).0 a.one_to_one (old m h).1 in
    record {
      to = number_of a.to s.cells;
      one_to_one = λ m n h k e. sym (old m h).2 ∙ ap a.to (sym (number m h) ∙ e ∙ number n k) ∙ (old n k).2;
      vars = sym (ap (map (value_renamed (number_of a.to s.cells))) a.vars
          ∙ values_back a.to s.cells a.one_to_one s.vars proper.vars);
      data_vars = sym a.data_vars;
      cells =
          permuted
          (subst (λ (cs : List CellRec). Moved (map (cell_renamed (number_of a.to s.cells)) t.cells) cs)
          (cells_back a.to s.cells a.one_to_one s.cells (λ m h. h) proper.fields)
          (moved_map (cell_renamed (number_of a.to s.cells)) (back to_t)));
    }
