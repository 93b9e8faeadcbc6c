-- What is read was written so.
use Rattle.std.proofs.Common.{arith, ℕ, suc, zero, Bool, true, false, List, [], ◌∷◌, ◌++◌, ◌≡◌, ◌≤◌, ◌<◌, inl, inr, map}
use Rattle.std.proofs.Common.{
  refl,
  sym,
  ap,
  ◌∙◌,
  subst,
  Option,
  Some,
  None,
  cond,
  codes,
  decimal,
  nat_le,
  nat_lt,
  nat_eq,
  length,
  ◌&&◌,
}
use Rattle.std.proofs.Common.{append_assoc}
use Rattle.std.proofs.lemmas.Option.{none-some, same_Some}
use Rattle.std.proofs.lemmas.Bool.{eqb-true}
use Rattle.std.proofs.lemmas.Bool.Decides.{nat_tests}
use Rattle.fore_base.specs.Lists.{Every}
use Rattle.fore_base.specs.declared.store.Datum.{Datum}
use Rattle.fore_base.specs.declared.store.Datum.TheVariants.{Undefined, Known}
use Rattle.fa_lines.specs.declared.line.DatumText.{DatumText}
use Rattle.fa_lines.specs.declared.line.SlotText.{SlotText}
use Rattle.fa_lines.specs.declared.line.SlotText.TheVariants.{Field, Link, Hook}
use Rattle.fa_lines.specs.declared.line.Term.{Term}
use Rattle.fa_lines.specs.declared.line.Term.TheVariants.{Null, Uninit, Dangling, Ref, Cell}
use Rattle.fa_lines.specs.Pieces.{is_word}
use Rattle.fa_lines.specs.Spelling.{Texts, state_text, series, datum_text, datum_pieces, slot_pieces, data_pieces}
use Rattle.fa_lines.specs.Spelling.{term_pieces, IsState, IsName, IsValue, IsDatum, IsSlot, IsTerm}
use Rattle.fa_lines.specs.inner.Reading.{
  ◌>>=◌,
  guard,
  is,
  value_from,
  number_of,
  number_up_to,
  state_of,
  datum_or,
  datum_of,
}
use Rattle.fa_lines.specs.inner.Reading.{field_front, link_front, hook_front, box_front, slot_front, datum_front, more}
use Rattle.fa_lines.specs.inner.Reading.{
  mark_front,
  item_rest,
  items,
  leaf_of,
  whole,
  whole_of,
  no_slots,
  slots_of,
  cell_with,
}
use Rattle.fa_lines.specs.inner.Reading.{data_cell, cell_of, term_of}
use Rattle.fa_lines.proofs.Options.{guarded, bound, chosen, both, text_is}

less_told : (n m : ℕ) → nat_lt n m ≡ true → n < m
less_told n m e = grind (arith, nat_tests)

most_told : (n m : ℕ) → nat_le n m ≡ true → n ≤ m
most_told n m e = grind (arith, nat_tests)

-- Numbers

pub number_sound : (text : List ℕ) (n : ℕ) → number_of text ≡ Some n → (n < 4294967296) × (text ≡ decimal n)
unfolding number_of
number_sound text n e =
    let v = value_from 0 text in
    let g = guarded (nat_lt v 4294967296 && is text (decimal v)) (Some v) n e in
    let b = both (nat_lt v 4294967296) (is text (decimal v)) g.0 in
    let same : v ≡ n = same_Some v n g.1 in
    subst (λ m. (m < 4294967296) × (text ≡ decimal m)) same (less_told v 4294967296 b.0, text_is text (decimal v) b.1)

pub up_to_sound : (most : ℕ) (text : List ℕ) (n : ℕ) → number_up_to most text ≡ Some n
    → (n ≤ most) × (text ≡ decimal n)
unfolding number_up_to
up_to_sound most text n e =
    let b = bound (number_of text) (λ n. guard (nat_le n most) (Some n)) n e in
    let g = guarded (nat_le b.0 most) (Some b.0) n b.2 in
    subst (λ m. (m ≤ most) × (text ≡ decimal m)) (same_Some b.0 n g.1)
    (most_told b.0 most g.0, (number_sound text b.0 b.1).1)

pub state_sound : (text : List ℕ) (q : ℕ) → state_of text ≡ Some q → IsState q × (text ≡ state_text q)
unfolding state_of
state_sound [] q e = absurd (none-some q e)
state_sound (b ∷ bs) q e =
    let g = guarded (nat_eq b 115) (number_up_to 255 bs) q e in
    let n = up_to_sound 255 bs q g.1 in
    (n.0, ap (λ c. c ∷ bs) (eqb-true b 115 g.0) ∙ ap (λ ds. 115 ∷ ds) n.1)

datum_by : (text : List ℕ) (o : Option ℕ) (d : Datum) → number_up_to 15 text ≡ o → datum_or text o ≡ Some d
    → IsValue d × (text ≡ datum_text d)
datum_by text None d is e =
    let g = guarded _ (Some Undefined) d e in
    subst (λ x. IsValue x × (text ≡ datum_text x)) (same_Some Undefined d g.1) (tt, text_is text (codes "undef") g.0)
datum_by text (Some n) d is e =
    subst (λ x. IsValue x × (text ≡ datum_text x)) (same_Some (Known n) d e) (up_to_sound 15 text n is)

pub datum_sound : (text : List ℕ) (d : Datum) → datum_of text ≡ Some d → IsValue d × (text ≡ datum_text d)
unfolding datum_of
datum_sound text d e = datum_by text (number_up_to 15 text) d refl e

-- Slots and data

abbrev pub IsRead : {X : Type 0} → (X → Type 0) → (X → Texts) → Texts → X × Texts → Type 0
IsRead P spelled ps p = P p.0 × (ps ≡ spelled p.0 ++ p.1)

abbrev pub AreSlot : Texts → SlotText × Texts → Type 0
AreSlot = IsRead IsSlot slot_pieces

field_sound : (name state : List ℕ) (rest : Texts) (p : SlotText × Texts) → field_front name state rest ≡ Some p
    → AreSlot (name ∷ codes "=" ∷ state ∷ rest) p
unfolding field_front
field_sound name state rest p e =
    let g = guarded (is_word name) (state_of state >>= λ q. Some (Field name q, rest)) p e in
    let b = bound (state_of state) (λ q. Some (Field name q, rest)) p g.1 in
    let s = state_sound state b.0 b.1 in
    subst (AreSlot (name ∷ codes "=" ∷ state ∷ rest)) (same_Some (Field name b.0, rest) p b.2)
    ((g.0, s.0), ap (λ t. name ∷ codes "=" ∷ t ∷ rest) s.1)

link_sound : (name state : List ℕ) (rest : Texts) (p : SlotText × Texts) → link_front name state rest ≡ Some p
    → AreSlot (codes "@" ∷ name ∷ codes "=" ∷ state ∷ rest) p
unfolding link_front
link_sound name state rest p e =
    let g = guarded (is_word name) (state_of state >>= λ q. Some (Link name q, rest)) p e in
    let b = bound (state_of state) (λ q. Some (Link name q, rest)) p g.1 in
    let s = state_sound state b.0 b.1 in
    subst (AreSlot (codes "@" ∷ name ∷ codes "=" ∷ state ∷ rest)) (same_Some (Link name b.0, rest) p b.2)
    ((g.0, s.0), ap (λ t. codes "@" ∷ name ∷ codes "=" ∷ t ∷ rest) s.1)

hook_sound : (name : List ℕ) (rest : Texts) (p : SlotText × Texts) → hook_front name rest ≡ Some p
    → AreSlot (codes "@" ∷ name ∷ rest) p
unfolding hook_front
hook_sound name rest p e =
    let g = guarded (is_word name) (Some (Hook name, rest)) p e in
    subst (AreSlot (codes "@" ∷ name ∷ rest)) (same_Some (Hook name, rest) p g.1) (g.0, refl)

box_sound : (name : List ℕ) (rest : Texts) (p : SlotText × Texts) → box_front name rest ≡ Some p
    → AreSlot (codes "@" ∷ name ∷ rest) p
unfolding box_front
box_sound name [] p e = hook_sound name [] p e
box_sound name (a ∷ []) p e = hook_sound name (a ∷ []) p e
box_sound name (a ∷ b ∷ rest) p e =
    elim (chosen (is a (codes "=")) (link_front name b rest) (hook_front name (a ∷ b ∷ rest)) p e) [
      | inl h ↦ let l = link_sound name b rest p h.1 in
          (l.0, ap (λ t. codes "@" ∷ name ∷ t ∷ b ∷ rest) (text_is a (codes "=") h.0) ∙ l.1)
      | inr h ↦ hook_sound name (a ∷ b ∷ rest) p h.1
    ]

pub slot_sound : (ps : Texts) (p : SlotText × Texts) → slot_front ps ≡ Some p → AreSlot ps p
unfolding slot_front
slot_sound [] p e = absurd (none-some p e)
slot_sound (a ∷ []) p e = absurd (none-some p e)
slot_sound (a ∷ b ∷ []) p e =
    let g = guarded (is a (codes "@")) (box_front b []) p e in
    let s = box_sound b [] p g.1 in
    (s.0, ap (λ t. t ∷ b ∷ []) (text_is a (codes "@") g.0) ∙ s.1)
slot_sound (a ∷ b ∷ c ∷ rest) p e =
    elim (chosen (is a (codes "@")) (box_front b (c ∷ rest)) (guard (is b (codes "=")) (field_front a c rest)) p e) [
      | inl h ↦ let s = box_sound b (c ∷ rest) p h.1 in
          (s.0, ap (λ t. t ∷ b ∷ c ∷ rest) (text_is a (codes "@") h.0) ∙ s.1)
      | inr h ↦ let g = guarded (is b (codes "=")) (field_front a c rest) p h.1 in
          let s = field_sound a c rest p g.1 in
          (s.0, ap (λ t. a ∷ t ∷ c ∷ rest) (text_is b (codes "=") g.0) ∙ s.1)
    ]

pub datum_front_sound : (ps : Texts) (p : DatumText × Texts) → datum_front ps ≡ Some p
    → IsRead IsDatum datum_pieces ps p
unfolding datum_front
datum_front_sound [] p e = absurd (none-some p e)
datum_front_sound (a ∷ []) p e = absurd (none-some p e)
datum_front_sound (a ∷ b ∷ []) p e = absurd (none-some p e)
datum_front_sound (a ∷ b ∷ c ∷ rest) p e =
    let g = guarded (is b (codes "=") && is_word a) (datum_of c >>= λ d.
    Some (record { name = a; datum = d }, rest)) p e in
    let w = both (is b (codes "=")) (is_word a) g.0 in
    let o = bound (datum_of c) (λ d. Some (record { name = a; datum = d }, rest)) p g.1 in
    let d = datum_sound c o.0 o.1 in
    subst (IsRead IsDatum datum_pieces (a ∷ b ∷ c ∷ rest)) (same_Some (record { name = a; datum = o.0 }, rest) p o.2)
    ((w.1, d.0), ap (λ t. a ∷ t ∷ c ∷ rest) (text_is b (codes "=") w.0) ∙ ap (λ t. a ∷ codes "=" ∷ t ∷ rest) d.1)

-- Items in a row

-- the piece behind an item
abbrev mark_of : List ℕ → Bool → List ℕ
mark_of close b = cond b close (codes ",")

mark_sound : (close : List ℕ) (ps : Texts) (m : Bool × Texts) → mark_front close ps ≡ Some m
    → ps ≡ mark_of close m.0 ∷ m.1
mark_sound close [] m e = absurd (none-some m e)
mark_sound close (p ∷ rest) m e =
    elim (chosen (is p close) (Some (true, rest)) (guard (is p (codes ",")) (Some (false, rest))) m e) [
      | inl h ↦ subst (λ (x : Bool × Texts). p ∷ rest ≡ mark_of close x.0 ∷ x.1) (same_Some (true, rest) m h.1)
          (ap (λ t. t ∷ rest) (text_is p close h.0))
      | inr h ↦ let g = guarded (is p (codes ",")) (Some (false, rest)) m h.1 in
          subst (λ (x : Bool × Texts). p ∷ rest ≡ mark_of close x.0 ∷ x.1) (same_Some (false, rest) m g.1)
          (ap (λ t. t ∷ rest) (text_is p (codes ",") g.0))
    ]

module _ {X : Type 0} (P : X → Type 0) (spelled : X → Texts) (front : Texts → Option (X × Texts))
    (sound : (ps : Texts) (p : X × Texts) → front ps ≡ Some p → IsRead P spelled ps p) (close : List ℕ) where
  -- some items, with the closing piece behind them
  pub record AreItems (ps : Texts) (p : List X × Texts) : Type 0 where
    pub first : X
    pub others : List X
    pub are : p.0 ≡ first ∷ others
    pub fit : Every P p.0
    pub spell : ps ≡ series (map spelled p.0) ++ close ∷ p.1

  one_item : (ps after : Texts) (x : X) (p : List X × Texts) → P x → ps ≡ spelled x ++ close ∷ after
      → Some (x ∷ [], after) ≡ Some p → AreItems ps p
  one_item ps after x p fit is e =
      subst (AreItems ps) (same_Some (x ∷ [], after) p e)
      (record { first = x; others = []; are = refl; fit = (fit, tt); spell = is })

  more_items : (ps after : Texts) (x : X) (o : Option (List X × Texts)) (p : List X × Texts) → P x
      → ps ≡ spelled x ++ codes "," ∷ after → ((q : List X × Texts) → o ≡ Some q → AreItems after q)
      → more x o ≡ Some p → AreItems ps p
  more_items ps after x None p fit is others e = absurd (none-some p e)
  more_items ps after x (Some q) p fit is others e =
      let r = others q refl in
      let same : q.0 ≡ r.first ∷ r.others = r.are in
      let tail = series (map spelled q.0) in
      let joined : series (map spelled (x ∷ q.0)) ≡ spelled x ++ codes "," ∷ tail =
      subst (λ xs. series (map spelled (x ∷ xs)) ≡ spelled x ++ codes "," ∷ series (map spelled xs)) (sym same) refl in
      subst (AreItems ps) (same_Some (x ∷ q.0, q.1) p e)
      (record {
        first = x;
        others = q.0;
        are = refl;
        fit = (fit, r.fit);
        spell = is ∙ ap (λ t. spelled x ++ codes "," ∷ t) r.spell
            ∙ sym (append_assoc (spelled x) (codes "," ∷ tail) (close ∷ q.1))
            ∙ ap (λ t. t ++ close ∷ q.1) (sym joined);
      })

  rest_sound : (ps : Texts) (x : X) (others : Texts → Option (List X × Texts)) (closed : Bool) (after : Texts)
      (p : List X × Texts) → P x → ps ≡ spelled x ++ mark_of close closed ∷ after
      → ((q : List X × Texts) → others after ≡ Some q → AreItems after q)
      → item_rest others x (closed, after) ≡ Some p → AreItems ps p
  rest_sound ps x others true after p fit is have e = one_item ps after x p fit is e
  rest_sound ps x others false after p fit is have e = more_items ps after x (others after) p fit is have e

  pub items_sound : (n : ℕ) (ps : Texts) (p : List X × Texts) → items front close n ps ≡ Some p → AreItems ps p
  items_sound zero ps p e = absurd (none-some p e)
  items_sound (suc n) ps p e =
      let a = bound (front ps) (λ p. mark_front close p.1 >>= λ m. item_rest (items front close n) p.0 m) p e in
      let b = bound (mark_front close a.0.1) (λ m. item_rest (items front close n) a.0.0 m) p a.2 in
      let x = sound ps a.0 a.1 in
      let m = mark_sound close a.0.1 b.0 b.1 in
      rest_sound ps a.0.0 (items front close n) b.0.0 b.0.1 p x.0 (x.1 ∙ ap (λ t. spelled a.0.0 ++ t) m)
      (λ q f. items_sound n b.0.1 q f) b.2

-- Terms

leaf_is : (a word : List ℕ) (leaf t : Term) → IsTerm leaf → word ∷ [] ≡ term_pieces leaf → is a word ≡ true
    → Some leaf ≡ Some t → IsTerm t × (a ∷ [] ≡ term_pieces t)
leaf_is a word leaf t fit spell told e =
    subst (λ x. IsTerm x × (a ∷ [] ≡ term_pieces x)) (same_Some leaf t e)
    (fit, ap (λ x. x ∷ []) (text_is a word told) ∙ spell)

pub leaf_sound : (a : List ℕ) (t : Term) → leaf_of a ≡ Some t → IsTerm t × (a ∷ [] ≡ term_pieces t)
unfolding leaf_of
leaf_sound a t e = elim (chosen (is a (codes "null")) (Some Null) (cond (is a (codes "uninit")) (Some Uninit)
    (guard (is a (codes "dangling")) (Some Dangling))) t e) [
      | inl h ↦ leaf_is a (codes "null") Null t tt refl h.0 h.1
      | inr h ↦ elim (chosen (is a (codes "uninit")) (Some Uninit) (guard (is a (codes "dangling")) (Some Dangling)) t
          h.1) [
            | inl k ↦ leaf_is a (codes "uninit") Uninit t tt refl k.0 k.1
            | inr k ↦ let g = guarded (is a (codes "dangling")) (Some Dangling) t k.1 in
                leaf_is a (codes "dangling") Dangling t tt refl g.0 g.1
          ]
    ]

whole_is : {X : Type 0} (y : X) (ps : Texts) (x : X) → whole_of y ps ≡ Some x → (y ≡ x) × (ps ≡ [])
whole_is y [] x e = (same_Some y x e, refl)
whole_is y (p ∷ ps) x e = absurd (none-some x e)

whole_sound : {X : Type 0} (p : X × Texts) (x : X) → whole p ≡ Some x → (p.0 ≡ x) × (p.1 ≡ [])
whole_sound p x e = whole_is p.0 p.1 x e

abbrev ends_slots : List SlotText → Texts
ends_slots slots = series (map slot_pieces slots) ++ codes ")" ∷ []

no_slots_sound : (p : List ℕ) (ps : Texts) (slots : List SlotText) → is p (codes ")") ≡ true
    → no_slots ps ≡ Some slots → Every IsSlot slots × (p ∷ ps ≡ ends_slots slots)
no_slots_sound p [] slots told e =
    subst (λ xs. Every IsSlot xs × (p ∷ [] ≡ ends_slots xs)) (same_Some [] slots e)
    (tt, ap (λ x. x ∷ []) (text_is p (codes ")") told))
no_slots_sound p (q ∷ ps) slots told e = absurd (none-some slots e)

slots_sound : (ps : Texts) (slots : List SlotText) → slots_of ps ≡ Some slots
    → Every IsSlot slots × (ps ≡ ends_slots slots)
unfolding slots_of
slots_sound [] slots e = absurd (none-some slots e)
slots_sound (p ∷ ps) slots e = elim (chosen (is p (codes ")")) (no_slots ps)
    (items slot_front (codes ")") (length (p ∷ ps)) (p ∷ ps) >>= whole) slots e) [
      | inl h ↦ no_slots_sound p ps slots h.0 h.1
      | inr h ↦
          let b = bound (items slot_front (codes ")") (length (p ∷ ps)) (p ∷ ps)) whole slots h.1 in
          let w = whole_sound b.0 slots b.2 in
          let s = items_sound IsSlot slot_pieces slot_front slot_sound (codes ")") (length (p ∷ ps)) (p ∷ ps) b.0 b.1
          in (
            subst (Every IsSlot) w.0 s.fit,
            s.spell ∙ ap (λ rest. series (map slot_pieces b.0.0) ++ codes ")" ∷ rest) w.1 ∙ ap ends_slots w.0,
          )
    ]

cell_sound : (shape : List ℕ) (ds : List DatumText) (ps : Texts) (t : Term) → IsName shape → Every IsDatum ds
    → cell_with shape ds ps ≡ Some t → IsTerm t × (shape ∷ data_pieces ds ++ ps ≡ term_pieces t)
unfolding cell_with
cell_sound shape ds [] t name fit e = absurd (none-some t e)
cell_sound shape ds (p ∷ rest) t name fit e =
    let g = guarded (is p (codes "(")) (slots_of rest >>= λ slots. Some (Cell shape ds slots)) t e in
    let b = bound (slots_of rest) (λ slots. Some (Cell shape ds slots)) t g.1 in
    let s = slots_sound rest b.0 b.1 in
    subst (λ x. IsTerm x × (shape ∷ data_pieces ds ++ p ∷ rest ≡ term_pieces x)) (same_Some (Cell shape ds b.0) t b.2) (
      (name, fit, s.0),
      ap (λ x. shape ∷ data_pieces ds ++ x ∷ rest) (text_is p (codes "(") g.0)
          ∙ ap (λ x. shape ∷ data_pieces ds ++ codes "(" ∷ x) s.1,
    )

brackets : (ds : List DatumText) (first : DatumText) (others : List DatumText) → ds ≡ first ∷ others
    → data_pieces ds ≡ codes "[" ∷ series (map datum_pieces ds) ++ codes "]" ∷ []
brackets ds first others are =
    subst (λ xs. data_pieces xs ≡ codes "[" ∷ series (map datum_pieces xs) ++ codes "]" ∷ []) (sym are) refl

data_cell_sound : (shape : List ℕ) (ps : Texts) (t : Term) → IsName shape → data_cell shape ps ≡ Some t
    → IsTerm t × (shape ∷ codes "[" ∷ ps ≡ term_pieces t)
unfolding data_cell
data_cell_sound shape ps t name e =
    let b = bound (items datum_front (codes "]") (length ps) ps) (λ ds. cell_with shape ds.0 ds.1) t e in
    let s = items_sound IsDatum datum_pieces datum_front datum_front_sound (codes "]") (length ps) ps b.0 b.1 in
    let c = cell_sound shape b.0.0 b.0.1 t name s.fit b.2 in
    let tail = series (map datum_pieces b.0.0) in (
      c.0,
      ap (λ x. shape ∷ codes "[" ∷ x) s.spell
          ∙ ap (λ x. shape ∷ codes "[" ∷ x) (sym (append_assoc tail (codes "]" ∷ []) b.0.1))
          ∙ ap (λ x. shape ∷ x ++ b.0.1) (sym (brackets b.0.0 s.first s.others s.are)) ∙ c.1,
    )

cell_of_sound : (shape : List ℕ) (ps : Texts) (t : Term) → cell_of shape ps ≡ Some t
    → IsTerm t × (shape ∷ ps ≡ term_pieces t)
unfolding cell_of
cell_of_sound shape [] t e = absurd (none-some t e)
cell_of_sound shape (p ∷ rest) t e =
    let g = guarded (is_word shape) (cond (is p (codes "[")) (data_cell shape rest) (cell_with shape [] (p ∷ rest))) t e
    in
    elim (chosen (is p (codes "[")) (data_cell shape rest) (cell_with shape [] (p ∷ rest)) t g.1) [
      | inl h ↦ let d = data_cell_sound shape rest t g.0 h.1 in
          (d.0, ap (λ x. shape ∷ x ∷ rest) (text_is p (codes "[") h.0) ∙ d.1)
      | inr h ↦ cell_sound shape [] (p ∷ rest) t g.0 tt h.1
    ]

pub term_sound : (ps : Texts) (t : Term) → term_of ps ≡ Some t → IsTerm t × (ps ≡ term_pieces t)
unfolding term_of
term_sound [] t e = absurd (none-some t e)
term_sound (a ∷ []) t e = leaf_sound a t e
term_sound (a ∷ b ∷ []) t e =
    let g = guarded (is a (codes "ref")) (number_of b >>= λ r. Some (Ref r)) t e in
    let n = bound (number_of b) (λ r. Some (Ref r)) t g.1 in
    let r = number_sound b n.0 n.1 in
    subst (λ x. IsTerm x × (a ∷ b ∷ [] ≡ term_pieces x)) (same_Some (Ref n.0) t n.2)
    (r.0, ap (λ x. x ∷ b ∷ []) (text_is a (codes "ref") g.0) ∙ ap (λ x. codes "ref" ∷ x ∷ []) r.1)
term_sound (a ∷ b ∷ c ∷ rest) t e = cell_of_sound a (b ∷ c ∷ rest) t e
