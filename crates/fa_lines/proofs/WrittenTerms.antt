-- Terms that are written so are read.
use Rattle.std.proofs.Common.{arith, ℕ, false, List, [], ◌∷◌, ◌++◌, ◌≡◌, ◌<◌, map}
use Rattle.std.proofs.Common.{refl, sym, ap, ◌∙◌, subst, Some, codes, length}
use Rattle.std.proofs.Common.{append_assoc}
use Rattle.fore_base.specs.Lists.{Every}
use Rattle.fa_lines.specs.declared.line.DatumText.{DatumText}
use Rattle.fa_lines.specs.declared.line.SlotText.{SlotText}
use Rattle.fa_lines.specs.declared.line.SlotText.TheVariants.{Field, Link, Hook}
use Rattle.fa_lines.specs.declared.line.Term.{Term}
use Rattle.fa_lines.specs.declared.line.Term.TheVariants.{Null, Uninit, Dangling, Ref, Cell}
use Rattle.fa_lines.specs.Spelling.{Texts, series, datum_pieces, slot_pieces, term_pieces}
use Rattle.fa_lines.specs.Spelling.{IsName, IsDatum, IsSlot, IsTerm}
use Rattle.fa_lines.specs.inner.Reading.{◌>>=◌, is, slot_front, datum_front}
use Rattle.fa_lines.specs.inner.Reading.{items, leaf_of, whole, slots_of, cell_with, data_cell, cell_of, term_of}
use Rattle.fa_lines.proofs.Complete.{
  number_complete,
  no_mark,
  no_letter,
  slots_complete,
  datums_complete,
  items_complete,
  enough,
  behind,
  series_is,
}

slot_some : (s : SlotText) → 0 < length (slot_pieces s)
slot_some (Field name q) = omega arith
slot_some (Link name q) = omega arith
slot_some (Hook name) = omega arith

datum_some : (d : DatumText) → 0 < length (datum_pieces d)
datum_some d = omega arith

-- no closing bracket stands in front of a slot
slots_begin : (p : List ℕ) (ps : Texts) → is p (codes ")") ≡ false
    → slots_of (p ∷ ps) ≡ (items slot_front (codes ")") (length (p ∷ ps)) (p ∷ ps) >>= whole)
unfolding slots_of
slots_begin p ps other = rw other refl

slot_opens : (s : SlotText) (tail : Texts) → IsSlot s
    → slots_of (slot_pieces s ++ tail)
    ≡ (items slot_front (codes ")") (length (slot_pieces s ++ tail)) (slot_pieces s ++ tail) >>= whole)
slot_opens (Field name q) tail fit = slots_begin name _ (no_mark name 41 fit.0 no_letter.2)
slot_opens (Link name q) tail fit = slots_begin (codes "@") _ refl
slot_opens (Hook name) tail fit = slots_begin (codes "@") _ refl

slots_open : (s : SlotText) (ss : List SlotText) (tail : Texts) → IsSlot s
    → slots_of (series (map slot_pieces (s ∷ ss)) ++ tail)
    ≡ (items slot_front (codes ")") (length (series (map slot_pieces (s ∷ ss)) ++ tail))
    (series (map slot_pieces (s ∷ ss)) ++ tail) >>= whole)
slots_open s ss tail fit =
    let others = behind (map slot_pieces ss) in
    let e : series (map slot_pieces (s ∷ ss)) ++ tail ≡ slot_pieces s ++ (others ++ tail) =
    ap (λ ps. ps ++ tail) (series_is (slot_pieces s) (map slot_pieces ss))
    ∙ append_assoc (slot_pieces s) others tail in
    subst (λ ps. slots_of ps ≡ (items slot_front (codes ")") (length ps) ps >>= whole)) (sym e)
    (slot_opens s (others ++ tail) fit)

pub slots_read : (slots : List SlotText) → Every IsSlot slots
    → slots_of (series (map slot_pieces slots) ++ codes ")" ∷ []) ≡ Some slots
unfolding slots_of
slots_read [] fit = refl
slots_read (s ∷ ss) fit =
    let all = series (map slot_pieces (s ∷ ss)) ++ codes ")" ∷ [] in
    slots_open s ss (codes ")" ∷ []) fit.0
    ∙ ap (λ o. o >>= whole) (items_complete IsSlot slot_pieces slot_front slots_complete (codes ")") refl refl
    (length all) s ss [] fit
    (enough IsSlot slot_pieces slot_front slots_complete (codes ")") refl refl slot_some (s ∷ ss) (codes ")" ∷ [])))

cell_read : (shape : List ℕ) (ds : List DatumText) (slots : List SlotText) → Every IsSlot slots
    → cell_with shape ds (codes "(" ∷ series (map slot_pieces slots) ++ codes ")" ∷ []) ≡ Some (Cell shape ds slots)
unfolding cell_with
cell_read shape ds slots fit = ap (λ o. o >>= λ slots. Some (Cell shape ds slots)) (slots_read slots fit)

data_read : (shape : List ℕ) (d : DatumText) (ds : List DatumText) (slots : List SlotText) → Every IsDatum (d ∷ ds)
    → Every IsSlot slots
    → data_cell shape (series (map datum_pieces (d ∷ ds)) ++ codes "]" ∷ (codes "("
    ∷ (series (map slot_pieces slots) ++ codes ")" ∷ []))) ≡ Some (Cell shape (d ∷ ds) slots)
unfolding data_cell
data_read shape d ds slots data_fit slots_fit =
    let cell = codes "(" ∷ series (map slot_pieces slots) ++ codes ")" ∷ [] in
    let all = series (map datum_pieces (d ∷ ds)) ++ codes "]" ∷ cell in
    ap (λ o. o >>= λ p. cell_with shape p.0 p.1) (items_complete IsDatum datum_pieces datum_front datums_complete
    (codes "]") refl refl (length all) d ds cell data_fit
    (enough IsDatum datum_pieces datum_front datums_complete (codes "]") refl refl datum_some (d ∷ ds)
    (codes "]" ∷ cell)))
    ∙ cell_read shape (d ∷ ds) slots slots_fit

abbrev some_behind : Texts → Type 0
some_behind [] = ⊥
some_behind (p ∷ ps) = Unit {0}

long_term : (a b : List ℕ) (ps : Texts) → some_behind ps → term_of (a ∷ b ∷ ps) ≡ cell_of a (b ∷ ps)
unfolding term_of
long_term a b [] some = absurd some
long_term a b (p ∷ ps) some = refl

ends_some : (ps : Texts) (p : List ℕ) (qs : Texts) → some_behind (ps ++ p ∷ qs)
ends_some [] p qs = tt
ends_some (x ∷ ps) p qs = tt

bare_cell : (shape : List ℕ) (ps : Texts) → IsName shape
    → cell_of shape (codes "(" ∷ ps) ≡ cell_with shape [] (codes "(" ∷ ps)
unfolding cell_of
bare_cell shape ps word = rw word refl

full_cell : (shape : List ℕ) (ps : Texts) → IsName shape → cell_of shape (codes "[" ∷ ps) ≡ data_cell shape ps
unfolding cell_of
full_cell shape ps word = rw word refl

closed_cell : (inner cell : Texts) → (inner ++ codes "]" ∷ []) ++ cell ≡ inner ++ codes "]" ∷ cell
closed_cell inner cell = append_assoc inner (codes "]" ∷ []) cell

cell_complete : (shape : List ℕ) (ds : List DatumText) (slots : List SlotText) → IsName shape → Every IsDatum ds
    → Every IsSlot slots → term_of (term_pieces (Cell shape ds slots)) ≡ Some (Cell shape ds slots)
cell_complete shape [] slots word data_fit slots_fit =
    let inner = series (map slot_pieces slots) in
    long_term shape (codes "(") (inner ++ codes ")" ∷ []) (ends_some inner (codes ")") [])
    ∙ bare_cell shape (inner ++ codes ")" ∷ []) word ∙ cell_read shape [] slots slots_fit
cell_complete shape (d ∷ ds) slots word data_fit slots_fit =
    let cell = codes "(" ∷ series (map slot_pieces slots) ++ codes ")" ∷ [] in
    let inner = series (map datum_pieces (d ∷ ds)) in
    ap (λ ps. term_of (shape ∷ codes "[" ∷ ps)) (closed_cell inner cell)
    ∙ long_term shape (codes "[") (inner ++ codes "]" ∷ cell) (ends_some inner (codes "]") cell)
    ∙ full_cell shape (inner ++ codes "]" ∷ cell) word ∙ data_read shape d ds slots data_fit slots_fit

pub term_complete : (t : Term) → IsTerm t → term_of (term_pieces t) ≡ Some t
unfolding term_of leaf_of
term_complete Null fit = refl
term_complete Uninit fit = refl
term_complete Dangling fit = refl
term_complete (Ref r) fit = ap (λ o. o >>= λ r. Some (Ref r)) (number_complete r fit)
term_complete (Cell shape ds slots) fit = cell_complete shape ds slots fit.0 fit.1 fit.2
