-- One cell of a heap that is changed and keeps its number: the same cells are there, and the rest stays.
use Rattle.std.proofs.Common.{◌≡◌, ◌⊎◌, ℕ, ◌<◌, Bool, true, false, nat_eq, if◌then◌else◌, List, [], ◌∷◌, refl, sym, ap}
use Rattle.std.proofs.Common.{subst}
use Rattle.fore_base.specs.Heap.{HasCell, NamesCell, AllDiffer}
use Rattle.fore_base.specs.Lists.{Every}
use Rattle.fore_base.specs.declared.shape.Shape.{Shape}
use Rattle.fore_base.specs.declared.store.CellRec.{CellRec}
use Rattle.fore_base.specs.declared.store.Value.{Value}
use Rattle.fore_base.specs.declared.store.Value.TheVariants.{Null, Uninit, Dangling, Cell}
use Rattle.fore_base.proofs.ListLemmas.{every_weaker}
use Rattle.fa_core.specs.Dressed.{Nodes, facts}
use Rattle.fa_core.specs.Member.{HasItsFields, store_facts}
use Rattle.fa_core.specs.Rearranged.{Rearranged}
use Rattle.sym_transfer.proofs.Standing.{IsHeap}

-- the cells with the cell of this number changed by g
abbrev pub with_cell : (CellRec → CellRec) → List CellRec → ℕ → List CellRec
with_cell g [] n = []
with_cell g (c ∷ cs) n = if nat_eq c.number n then g c ∷ cs else c ∷ with_cell g cs n

module _ (g : CellRec → CellRec) (keeps : (c : CellRec) → (g c).number ≡ c.number) where
  has_after : (cs : List CellRec) (n m : ℕ) → HasCell (with_cell g cs n) m ≡ HasCell cs m
  has_after [] n m = refl
  has_after (c ∷ cs) n m = here (nat_eq c.number n) (has_after cs n m)
    where
      here : (b : Bool) → HasCell (with_cell g cs n) m ≡ HasCell cs m
          → HasCell (if b then g c ∷ cs else c ∷ with_cell g cs n) m ≡ HasCell (c ∷ cs) m
      here true rest = ap (λ (k : ℕ). (k ≡ m) ⊎ HasCell cs m) (keeps c)
      here false rest = ap (λ (x : Type 0). (c.number ≡ m) ⊎ x) rest

  differ_after : (cs : List CellRec) (n : ℕ) → AllDiffer cs → AllDiffer (with_cell g cs n)
  differ_after [] n h = h
  differ_after (c ∷ cs) n (d, h) = here (nat_eq c.number n) (differ_after cs n h)
    where
      here : (b : Bool) → AllDiffer (with_cell g cs n) → AllDiffer (if b then g c ∷ cs else c ∷ with_cell g cs n)
      here true rest = (subst (λ (k : ℕ). HasCell cs k → ⊥) (sym (keeps c)) d, h)
      here false rest = (λ i. d (subst (λ (x : Type 0). x) (has_after cs n c.number) i), rest)

  -- what holds of each cell holds of each after, where it holds of the changed cell
  every_after : (P Q : CellRec → Type 0) (cs : List CellRec) (n : ℕ) → ((c : CellRec) → P c → Q c)
      → ((c : CellRec) → P c → Q (g c)) → Every P cs → Every Q (with_cell g cs n)
  every_after P Q [] n k l h = tt
  every_after P Q (c ∷ cs) n k l (p, h) = here (nat_eq c.number n) (every_after P Q cs n k l h)
    where
      here : (b : Bool) → Every Q (with_cell g cs n) → Every Q (if b then g c ∷ cs else c ∷ with_cell g cs n)
      here true rest = (l c p, every_weaker P Q cs k h)
      here false rest = (k c p, rest)

  module _ (hs : List Shape) (d e : Nodes) (cs : List CellRec) (next n : ℕ) where
    names_after : (w : Value) → NamesCell cs w → NamesCell (with_cell g cs n) w
    names_after Null i = tt
    names_after Uninit i = tt
    names_after Dangling i = tt
    names_after (Cell j) i = subst (λ (x : Type 0). x) (sym (has_after cs n j)) i

    all_after : (vs : List Value) → Every (NamesCell cs) vs → Every (NamesCell (with_cell g cs n)) vs
    all_after vs i = every_weaker (NamesCell cs) (NamesCell (with_cell g cs n)) vs names_after i

    -- the heap with the changed cell, of a dressed forest with its facts
    pub heap_after : (us : List CellRec) → us ≡ with_cell g cs n → IsHeap hs d cs next
        → ((c : CellRec) → Every (NamesCell cs) c.fields → Every (NamesCell cs) (g c).fields)
        → ((c : CellRec) → HasItsFields hs c → HasItsFields hs (g c))
        → Rearranged (facts e) (store_facts us) → IsHeap hs e us next
    heap_after us is h names filled =
        subst (λ (zs : List CellRec). Rearranged (facts e) (store_facts zs) → IsHeap hs e zs next) (sym is) (λ same.
        record {
          differ = differ_after cs n h.differ;
          below = every_after (λ c. c.number < next) (λ c. c.number < next) cs n (λ c l. l)
              (λ c l. subst (λ (k : ℕ). k < next) (sym (keeps c)) l) h.below;
          fields = every_after (λ c. Every (NamesCell cs) c.fields)
              (λ c. Every (NamesCell (with_cell g cs n)) c.fields) cs n (λ c i. all_after c.fields i)
              (λ c i. all_after (g c).fields (names c i)) h.fields;
          filled = every_after (HasItsFields hs) (HasItsFields hs) cs n (λ c p. p) filled h.filled;
          same_facts = same;
        })
