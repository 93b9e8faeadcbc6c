-- Boxes that were read are printed as they were read.
use Rattle.std.proofs.Common.{◌≡◌, ◌<◌, ◌≤◌, ◌+◌, ℕ, zero, suc, List, [], ◌∷◌, ◌++◌, Bool, true, false, ◌||◌, not}
use Rattle.std.proofs.Common.{cond, map, length, slice_get, Option, Some, None, refl, sym, ap, ◌∙◌, arith, subst}
use Rattle.std.proofs.Common.{nat_eq, nat_lt, length-append, append_assoc, append-nil}
use Rattle.std.proofs.lemmas.Bool.{and_parts}
use Rattle.std.proofs.lemmas.List.{map-append}
use Rattle.std.proofs.lemmas.Bool.Decides.{nat_tests}
use Rattle.std.specs.Cmp.Lexicographic.{pointwise, same_text}
use Rattle.std.specs.List.{list_all}
use Rattle.fore_base.specs.Lists.{Every, Paired}
use Rattle.fore_base.proofs.ListLemmas.{every_weaker}
use Rattle.fore_base.specs.declared.shape.Shape.{Shape}
use Rattle.fore_base.specs.declared.shape.Shapes.{Shapes}
use Rattle.ta_core.specs.declared.auto.Rule.{Rule as AutoRule}
use Rattle.fa_core.specs.Boxes.{Boxes, names_of}
use Rattle.fa_core.specs.declared.boxes.BoxDef.{BoxDef}
use Rattle.fa_lines.specs.declared.line.DatumText.{DatumText}
use Rattle.fa_lines.specs.declared.line.SlotText.{SlotText}
use Rattle.fa_lines.specs.declared.line.SlotText.TheVariants.{Field, Link, Hook}
use Rattle.fa_lines.specs.declared.line.Term.{Term}
use Rattle.fa_lines.specs.declared.line.Term.TheVariants.{Null, Uninit, Dangling, Ref, Cell}
use Rattle.fa_lines.specs.declared.line.Line.{Line}
use Rattle.fa_lines.specs.declared.line.Line.TheVariants.{Opens, Root, Rule, Ends}
use Rattle.fa_written.specs.Forms as written
use Rattle.fa_written.specs.declared.draft.RuleDraft.{RuleDraft}
use Rattle.fa_written.specs.declared.draft.PartDraft.{PartDraft}
use Rattle.fa_written.specs.declared.draft.Head.{Head}
use Rattle.fa_written.specs.declared.draft.BoxDraft.{BoxDraft}
use Rattle.fa_named.specs.Breaks.{is_field, is_formed, are_data, data_fit, says, cell_faults, term_faults, rules_faults}
use Rattle.fa_named.specs.Breaks.{part_faults, parts_faults, head_faults, box_faults, file_faults, limit_faults}
use Rattle.fa_named.specs.Breaks.{is_output}
use Rattle.fa_named.specs.Earlier.{no_boxes, with_box}
use Rattle.fa_named.specs.Insides.{children_of, below_term, slot_of, pointers_in, symbol_of, rule_of, auto_of}
use Rattle.fa_named.specs.Insides.{state_count}
use Rattle.fa_named.specs.Named.{AreNamed, box_of, boxes_of, output_of}
use Rattle.fa_named.specs.Places.{Texts, place, is_there}
use Rattle.fa_named.specs.Structs.{known_of, fields_of, struct_names}
use Rattle.fa_named.specs.declared.fault.NameFault.{NameFault}
use Rattle.fa_named.specs.declared.named.Boxes.{Boxes as Earlier}
use Rattle.fa_named.specs.declared.named.Fields.{Fields}
use Rattle.fa_named.specs.declared.named.Known.{Known}
use Rattle.fa_named.proofs.Ranked.{ranked}
use Rattle.fa_print.specs.Lines.{rules_of, by_state, named_data, named_slots, named_term, rule_line}
use Rattle.fa_print.specs.Lines.{part_lines, parts_lines}
use Rattle.fa_print.specs.Names.{name_at, struct_name, pointer_names, datum_names, box_name}
use Rattle.fa_print.specs.Returned.{AreInOrder, IsInOrder, IsBoxOf, IsPrintedAsRead, lines_read}
use Rattle.fa_print.specs.Texts.{box_lines, output_name}

-- Rules that stand in order of state

abbrev AreSorted : List AutoRule → Type 0
AreSorted [] = Unit {0}
AreSorted (r ∷ []) = Unit {0}
AreSorted (r ∷ s ∷ rs) = (r.state ≤ s.state) × AreSorted (s ∷ rs)

sorted_rest : (r : AutoRule) (rs : List AutoRule) → AreSorted (r ∷ rs) → AreSorted rs
sorted_rest r [] h = tt
sorted_rest r (s ∷ rs) h = h.1

from_first : (r : AutoRule) (rs : List AutoRule) (q : ℕ) → AreSorted (r ∷ rs) → q ≤ r.state
    → Every (λ (s : AutoRule). q ≤ s.state) rs
from_first r [] q h low = tt
from_first r (s ∷ rs) q h low =
    let here : q ≤ s.state = omega (arith, low, h.0) in (here, from_first s rs q h.1 here)

none_of : (rs : List AutoRule) (q : ℕ) → Every (λ (s : AutoRule). suc q ≤ s.state) rs → rules_of rs q ≡ []
none_of [] q h = refl
none_of (r ∷ rs) q h = let e : nat_eq r.state q ≡ false = grind (arith, nat_tests, h.0) in rw e (none_of rs q h.1)

skipped : (r : AutoRule) (rs : List AutoRule) (p n : ℕ) → r.state < p → by_state (r ∷ rs) p n ≡ by_state rs p n
skipped r rs p zero less = refl
skipped r rs p (suc n) less =
    let e : nat_eq r.state p ≡ false = grind (arith, nat_tests, less) in
    rw e (ap (λ t. rules_of rs p ++ t) (skipped r rs (suc p) n (omega (arith, less))))

abbrev InRange : ℕ → ℕ → AutoRule → Type 0
InRange q n r = (q ≤ r.state) × (r.state < q + n)

module _ (n q : ℕ)
    (later : (rs : List AutoRule) → AreSorted rs → Every (InRange (suc q) n) rs → by_state rs (suc q) n ≡ rs) where
  shifted : (ss : List AutoRule) → Every (λ (s : AutoRule). suc q ≤ s.state) ss → Every (InRange q (suc n)) ss
      → Every (InRange (suc q) n) ss
  shifted [] h k = tt
  shifted (s ∷ ss) h k = ((h.0, omega (arith, k.0.1)), shifted ss h.1 k.1)

  first_rule : (r : AutoRule) (rs : List AutoRule) → AreSorted (r ∷ rs) → Every (InRange q (suc n)) (r ∷ rs)
      → by_state rs q (suc n) ≡ rs → (same : Bool) → nat_eq r.state q ≡ same → by_state (r ∷ rs) q (suc n) ≡ r ∷ rs
  first_rule r rs sorted range rest true is =
      let e : r.state < suc q = grind (arith, nat_tests, is) in
      rw is (ap (λ t. r ∷ rules_of rs q ++ t) (skipped r rs (suc q) n e) ∙ ap (λ (t : List AutoRule). r ∷ t) rest)
  first_rule r rs sorted range rest false is =
      let low : suc q ≤ r.state = grind (arith, nat_tests, is, range.0.0) in
      let high : r.state < suc q + n = omega (arith, range.0.1) in
      let others = from_first r rs (suc q) sorted low in
      rw is (ap (λ t. t ++ by_state (r ∷ rs) (suc q) n) (none_of rs q others)
      ∙ later (r ∷ rs) sorted ((low, high), shifted rs others range.1))

  first_of : (rs : List AutoRule) → AreSorted rs → Every (InRange q (suc n)) rs → by_state rs q (suc n) ≡ rs
  first_of [] sorted range = later [] tt tt
  first_of (r ∷ rs) sorted range =
      first_rule r rs sorted range (first_of rs (sorted_rest r rs sorted) range.1) (nat_eq r.state q) refl

sorted_from : (n q : ℕ) (rs : List AutoRule) → AreSorted rs → Every (InRange q n) rs → by_state rs q n ≡ rs
sorted_from zero q [] sorted range = refl
sorted_from zero q (r ∷ rs) sorted range = absurd (omega (arith, range.0.0, range.0.1))
sorted_from (suc n) q rs sorted range = first_of n q (sorted_from n (suc q)) rs sorted range

-- Names and their places

place_by : (name other : List ℕ) (names more : Texts)
    → (place name names < length names → name_at (names ++ more) (place name names) ≡ name)
    → (same : Bool) → pointwise nat_eq name other ≡ same
    → cond same 0 (suc (place name names)) < suc (length names)
    → name_at (other ∷ (names ++ more)) (cond same 0 (suc (place name names))) ≡ name
place_by name other names more rest true is less = sym (same_text name other (sym is))
place_by name other names more rest false is less = rest (omega (arith, less))

place_there : (name : List ℕ) (names more : Texts) → place name names < length names
    → name_at (names ++ more) (place name names) ≡ name
place_there name [] more less = absurd (omega (arith, less))
place_there name (other ∷ names) more less =
    place_by name other names more (place_there name names more) (pointwise nat_eq name other) refl less

there : (name : List ℕ) (names : Texts) → is_there name names ≡ true → name_at names (place name names) ≡ name
there name names is =
    ap (λ (xs : Texts). name_at xs (place name names)) (sym (append-nil names))
    ∙ place_there name names [] (grind (arith, nat_tests, is))

-- Faults that there are none of

nil_parts : {X : Type 0} (xs ys : List X) → xs ++ ys ≡ [] → (xs ≡ []) × (ys ≡ [])
nil_parts [] ys e = (refl, e)
nil_parts (x ∷ xs) ys e = absurd cc

no_fault : (b : Bool) (x : List NameFault) (f : NameFault) → cond b x (f ∷ []) ≡ [] → (b ≡ true) × (x ≡ [])
no_fault true x f e = (refl, e)
no_fault false x f e = absurd cc

no_faults : (b c : Bool) (f g : NameFault) → cond b (cond c [] (f ∷ [])) (g ∷ []) ≡ [] → (b ≡ true) × (c ≡ true)
no_faults b c f g e = let d = no_fault b (cond c [] (f ∷ [])) g e in (d.0, (no_fault c [] f d.1).0)

-- Structs

known_struct : (structs : List Shape) (s : ℕ) (f : Fields) → slice_get (map fields_of structs) s ≡ Some f
    → (f.pointers ≡ pointer_names structs s) × (f.datums ≡ datum_names structs s) × (s < length structs)
known_struct [] s f e = absurd cc
known_struct (t ∷ structs) zero f e =
    let d : fields_of t ≡ f = cc in
    (ap (λ (x : Fields). x.pointers) (sym d), ap (λ (x : Fields). x.datums) (sym d), omega arith)
known_struct (t ∷ structs) (suc s) f e = let r = known_struct structs s f e in (r.0, r.1, omega (arith, r.2))

as_long : (structs : List Shape) → length (struct_names structs) ≡ length structs
as_long [] = refl
as_long (t ∷ structs) = ap suc (as_long structs)

-- Data

at_end : (front : Texts) (name : List ℕ) (names : Texts) → name_at (front ++ name ∷ names) (length front) ≡ name
at_end [] name names = refl
at_end (x ∷ front) name names = at_end front name names

data_from : (front names : Texts) (k : ℕ) (ds : List DatumText) → k ≡ length front → are_data names ds ≡ true
    → named_data (front ++ names) k (map (λ d. d.datum) ds) ≡ ds
data_from front names k [] e h = refl
data_from front [] k (d ∷ ds) e h = absurd cc
data_from front (name ∷ names) k (d ∷ ds) e h =
    let a = and_parts _ _ h in
    let n : name_at (front ++ name ∷ names) k ≡ d.name =
    ap (name_at (front ++ name ∷ names)) e ∙ at_end front name names
    ∙ sym (same_text d.name name (sym a.0)) in
    let long : suc k ≡ length (front ++ name ∷ []) = grind (arith, length-append, e) in
    let rest = data_from (front ++ name ∷ []) names (suc k) ds long a.1 in
    let moved = append_assoc front (name ∷ []) names in
    ap (λ (m : List ℕ).
    record { name = m; datum = d.datum } ∷ named_data (front ++ name ∷ names) (suc k) (map (λ d. d.datum) ds)) n
    ∙ ap (λ all. d ∷ named_data all (suc k) (map (λ d. d.datum) ds)) (sym moved)
    ∙ ap (λ (xs : List DatumText). d ∷ xs) rest

data_same : (names : Texts) (ds : List DatumText) (top below : Bool)
    → data_fit top (not top || below) ds names ≡ true → named_data names 0 (map (λ d. d.datum) ds) ≡ ds
data_same names [] top below h = refl
data_same names (d ∷ ds) true below h = absurd cc
data_same names (d ∷ ds) false below h = data_from [] names 0 (d ∷ ds) refl h

-- Boxes that stand before a line, and slots

said_within : (output : Bool) (xs : List Bool) (n : ℕ) → says output (slice_get xs n) ≡ true → n < length xs
said_within output [] n h = absurd cc
said_within output (x ∷ xs) zero h = omega arith
said_within output (x ∷ xs) (suc n) h = let r = said_within output xs n h in omega (arith, r)

module _ (table : Boxes) (boxes : Earlier) (more : Texts) (are : names_of table.defs ≡ boxes.names ++ more)
    (long : length boxes.outputs ≡ length boxes.names) where
  abbrev known : Known
  known = known_of table.face.shapes

  abbrev structs : List Shape
  structs = table.face.shapes.structs

  box_same : (output : Bool) (name : List ℕ) → says output (slice_get boxes.outputs (place name boxes.names)) ≡ true
      → box_name table (place name boxes.names) ≡ name
  box_same output name h =
      let low = said_within output boxes.outputs (place name boxes.names) h in
      ap (λ (ns : Texts). name_at ns (place name boxes.names)) are
      ∙ place_there name boxes.names more (omega (arith, low, long))

  slots_same : (pointers : Texts) (ss : List SlotText) → list_all (is_field pointers) ss ≡ true
      → list_all (is_formed boxes) ss ≡ true
      → named_slots table pointers (map (slot_of pointers boxes.names) ss) (children_of ss) ≡ ss
  slots_same pointers [] f g = refl
  slots_same pointers (Field name q ∷ ss) f g =
      let a = and_parts _ _ f in
      ap (λ n. Field n q ∷ named_slots table pointers (map (slot_of pointers boxes.names) ss) (children_of ss))
      (there name pointers a.0)
      ∙ ap (λ (xs : List SlotText). Field name q ∷ xs) (slots_same pointers ss a.1 g)
  slots_same pointers (Link name q ∷ ss) f g =
      let b = and_parts _ _ g in
      ap (λ n. Link n q ∷ named_slots table pointers (map (slot_of pointers boxes.names) ss) (children_of ss))
      (box_same true name b.0)
      ∙ ap (λ (xs : List SlotText). Link name q ∷ xs) (slots_same pointers ss f b.1)
  slots_same pointers (Hook name ∷ ss) f g =
      let b = and_parts _ _ g in
      ap (λ n. Hook n ∷ named_slots table pointers (map (slot_of pointers boxes.names) ss) (children_of ss))
      (box_same false name b.0)
      ∙ ap (λ (xs : List SlotText). Hook name ∷ xs) (slots_same pointers ss f b.1)

  -- Terms, rules and components

  cell_same : (line : ℕ) (top below : Bool) (shape : List ℕ) (ds : List DatumText) (slots : List SlotText)
      (o : Option Fields) → slice_get known.fields (place shape known.names) ≡ o
      → cell_faults line o boxes top (not top || below) ds slots ≡ []
      → named_term table (symbol_of known boxes.names (Cell shape ds slots)) (children_of slots) ≡ Cell shape ds slots
  cell_same line top below shape ds slots None e h = absurd cc
  cell_same line top below shape ds slots (Some f) e h =
      let s = place shape known.names in
      let k = known_struct structs s f e in
      let b = no_faults _ _ _ _ h in
      let a = and_parts _ _ b.0 in
      let low : s < length known.names = subst (λ n. s < n) (sym (as_long structs)) k.2 in
      let name : struct_name structs s ≡ shape =
      ap (λ (xs : Texts). name_at xs s) (sym (append-nil known.names)) ∙ place_there shape known.names [] low in
      let data_is : named_data (datum_names structs s) 0 (map (λ d. d.datum) ds) ≡ ds =
      ap (λ ns. named_data ns 0 (map (λ d. d.datum) ds)) (sym k.1) ∙ data_same f.datums ds top below a.1 in
      let slots_are : named_slots table (pointer_names structs s)
      (map (slot_of (pointers_in (slice_get known.fields s)) boxes.names) slots) (children_of slots) ≡ slots =
      ap (λ x. named_slots table (pointer_names structs s) (map (slot_of (pointers_in x) boxes.names) slots)
      (children_of slots)) e
      ∙ ap (λ ps. named_slots table ps (map (slot_of f.pointers boxes.names) slots) (children_of slots)) (sym k.0)
      ∙ slots_same f.pointers slots a.0 b.1 in
      ap (λ n. Cell n (named_data (datum_names structs s) 0 (map (λ d. d.datum) ds))
      (named_slots table (pointer_names structs s)
      (map (slot_of (pointers_in (slice_get known.fields s)) boxes.names) slots) (children_of slots))) name
      ∙ ap (λ (xs : List DatumText). Cell shape xs (named_slots table (pointer_names structs s)
      (map (slot_of (pointers_in (slice_get known.fields s)) boxes.names) slots) (children_of slots))) data_is
      ∙ ap (λ (xs : List SlotText). Cell shape ds xs) slots_are

  term_same : (line : ℕ) (top below : Bool) (t : Term) → term_faults line known boxes top (not top || below) t ≡ []
      → named_term table (symbol_of known boxes.names t) (below_term t) ≡ t
  term_same line top below Null h = refl
  term_same line top below Uninit h = refl
  term_same line top below Dangling h = refl
  term_same line top below (Ref r) h = refl
  term_same line top below (Cell shape ds slots) h =
      cell_same line top below shape ds slots (slice_get known.fields (place shape known.names)) refl h

  abbrev unnumbered : List written.Numbered → List Line
  unnumbered ls = map (λ l. l.1) ls

  rules_same : (is_top is_below : ℕ → Bool) (rs : List RuleDraft) → rules_faults known boxes is_top is_below rs ≡ []
      → map (rule_line table) (map (rule_of known boxes.names) rs) ≡ unnumbered (map written.rule_line rs)
  rules_same is_top is_below [] h = refl
  rules_same is_top is_below (r ∷ rs) h =
      let p = nil_parts _ _ h in
      ap (λ t. Rule r.state t ∷ map (rule_line table) (map (rule_of known boxes.names) rs))
      (term_same r.line (is_top r.state) (is_below r.state) r.term p.0)
      ∙ ap (λ (ls : List Line). Rule r.state r.term ∷ ls) (rules_same is_top is_below rs p.1)

  sorted_rules : (rs : List RuleDraft) → AreInOrder rs → AreSorted (map (rule_of known boxes.names) rs)
  sorted_rules [] h = tt
  sorted_rules (r ∷ []) h = tt
  sorted_rules (r ∷ s ∷ rs) h = (h.0, sorted_rules (s ∷ rs) h.1)

  part_same : (port : Bool) (k : ℕ) (p : PartDraft) → part_faults known boxes port p ≡ [] → AreInOrder p.rules
      → part_lines table k (auto_of known boxes.names p) ≡ unnumbered (written.part_lines k p)
  part_same port k p h order =
      let rules = map (rule_of known boxes.names) p.rules in
      let range = every_weaker _ (InRange 0 (state_count p)) rules (λ r low. (omega arith, omega (arith, low.0)))
      (ranked known boxes.names p).1 in
      ap (λ rs. Root k p.roots ∷ map (rule_line table) rs)
      (sorted_from (state_count p) 0 rules (sorted_rules p.rules order) range)
      ∙ ap (λ (ls : List Line). Root k p.roots ∷ ls) (rules_same _ _ p.rules h)

  parts_same : (n k : ℕ) (ps : List PartDraft) → parts_faults known boxes n k ps ≡ []
      → Every (λ (p : PartDraft). AreInOrder p.rules) ps
      → parts_lines table k (map (auto_of known boxes.names) ps) ≡ unnumbered (written.parts_lines k ps)
  parts_same n k [] h order = refl
  parts_same n k (p ∷ ps) h order =
      let f = nil_parts _ _ h in
      ap (λ ls. ls ++ parts_lines table (suc k) (map (auto_of known boxes.names) ps))
      (part_same (nat_lt k n) k p f.0 order.0)
      ∙ ap (λ ls. unnumbered (written.part_lines k p) ++ ls) (parts_same n (suc k) ps f.1 order.1)
      ∙ sym (map-append (λ l. l.1) (written.part_lines k p) (written.parts_lines (suc k) ps))

  -- Boxes

  output_same : (output : Option (List ℕ)) → is_output known.names output ≡ true
      → output_name structs (output_of known.names output) ≡ output
  output_same None h = refl
  output_same (Some name) h = ap Some (there name known.names h)

  head_same : (b : BoxDraft) (def : BoxDef) → IsBoxOf (box_of known boxes b) def → head_faults known boxes b.head ≡ []
      → Opens def.name (struct_name structs def.face.input) (output_name structs def.face.output)
      ≡ Opens b.head.name b.head.input b.head.output
  head_same b def is h =
      let f = and_parts _ _ (no_fault _ _ _ h).0 in
      ap (λ n. Opens n (struct_name structs def.face.input) (output_name structs def.face.output)) is.name
      ∙ ap (λ s. Opens b.head.name (struct_name structs s) (output_name structs def.face.output)) is.input
      ∙ ap (λ n. Opens b.head.name n (output_name structs def.face.output)) (there b.head.input known.names f.0)
      ∙ ap (λ o. Opens b.head.name b.head.input (output_name structs o)) is.output
      ∙ ap (λ o. Opens b.head.name b.head.input o) (output_same b.head.output f.1)

  lines_same : (b : BoxDraft) (def : BoxDef) → IsBoxOf (box_of known boxes b) def → box_faults known boxes b ≡ []
      → IsInOrder b → box_lines table def ≡ lines_read b
  lines_same b def is h order =
      let f = nil_parts _ _ h in
      ap (λ l. l ∷ (parts_lines table 0 def.inside.autos ++ Ends ∷ [])) (head_same b def is f.0)
      ∙ ap (λ i. Opens b.head.name b.head.input b.head.output ∷ (parts_lines table 0 i.autos ++ Ends ∷ [])) is.inside
      ∙ ap (λ ls. Opens b.head.name b.head.input b.head.output ∷ (ls ++ Ends ∷ [])) (parts_same _ 0 b.parts f.1 order)
      ∙ ap (λ ls. Opens b.head.name b.head.input b.head.output ∷ ls)
      (sym (map-append (λ l. l.1) (written.parts_lines 0 b.parts) ((b.end, Ends) ∷ [])))

-- Files

one_more : (boxes : Earlier) (h : Head) → length boxes.outputs ≡ length boxes.names
    → length (with_box boxes h).outputs ≡ length (with_box boxes h).names
one_more boxes h long = grind (arith, length-append, long)

file_same : (table : Boxes) (boxes : Earlier) (bs : List BoxDraft) (defs : List BoxDef)
    → Paired IsBoxOf (boxes_of (known_of table.face.shapes) boxes bs) defs
    → file_faults (known_of table.face.shapes) boxes bs ≡ [] → Every IsInOrder bs
    → names_of table.defs ≡ boxes.names ++ names_of defs → length boxes.outputs ≡ length boxes.names
    → map (box_lines table) defs ≡ map lines_read bs
file_same table boxes [] [] pairs h order are long = refl
file_same table boxes [] (d ∷ defs) pairs h order are long = absurd pairs
file_same table boxes (b ∷ bs) [] pairs h order are long = absurd pairs
file_same table boxes (b ∷ bs) (d ∷ defs) pairs h order are long =
    let f = nil_parts _ _ h in
    let next = with_box boxes b.head in
    let names : names_of table.defs ≡ next.names ++ names_of defs =
    are ∙ ap (λ n. boxes.names ++ n ∷ names_of defs) pairs.0.name
    ∙ sym (append_assoc boxes.names (b.head.name ∷ []) (names_of defs)) in
    ap (λ l. l ∷ map (box_lines table) defs)
    (lines_same table boxes (d.name ∷ names_of defs) are long b d pairs.0 f.0 order.0)
    ∙ ap (λ ls. lines_read b ∷ ls) (file_same table next bs defs pairs.1 f.1 order.1 names (one_more boxes b.head long))

pub printed_as_read : (shapes : Shapes) (bs : List BoxDraft) (table : Boxes) → IsPrintedAsRead shapes bs table
printed_as_read shapes bs table named are order same pairs =
    let over = subst (λ s. AreNamed s bs named) (sym same) are in
    let none = (nil_parts (limit_faults bs) _ over.0).1 in
    let each = subst (λ ns. Paired IsBoxOf ns table.defs) over.1 pairs in
    file_same table no_boxes bs table.defs each none order refl refl
