-- The symbols of lines that break neither B2 nor B3 fit the structs and the boxes before them.
use Rattle.std.proofs.Common.{arith, ◌≡◌, ◌<◌, ℕ, zero, suc, Bool, true, false, true≢false, cond, not, ◌&&◌}
use Rattle.std.proofs.Common.{List, [], ◌∷◌, ◌++◌, map, length, Option, Some, None, IsSome, IsNone, slice_get, refl}
use Rattle.std.proofs.Common.{sym, ap}
use Rattle.std.proofs.Common.{subst, nat_eq, ◌∙◌}
use Rattle.std.specs.Cmp.Lexicographic.{pointwise}
use Rattle.std.specs.List.{list_all}
use Rattle.std.proofs.lemmas.Bool.{and_parts, ltb-true}
use Rattle.std.proofs.lemmas.Option.{none-some, same_Some}
use Rattle.fore_base.specs.Lists.{Every}
use Rattle.fore_base.specs.Shapes.{targets_in, targets_of, datums_in, datums_of}
use Rattle.fore_base.specs.declared.shape.FieldKind.{FieldKind}
use Rattle.fore_base.specs.declared.shape.FieldKind.TheVariants.{Pointer, Datum as IsData}
use Rattle.fore_base.specs.declared.shape.FieldDef.{FieldDef}
use Rattle.fore_base.specs.declared.shape.Shape.{Shape}
use Rattle.fore_base.specs.declared.shape.Shapes.{Shapes}
use Rattle.fore_base.specs.declared.store.Datum.{Datum}
use Rattle.fore_base.specs.declared.store.Datum.TheVariants.{Undefined, Known as IsKnown}
use Rattle.ta_core.specs.declared.symbol.Symbol.{Symbol}
use Rattle.fa_core.specs.Boxes.{PortSymbolFits}
use Rattle.fa_core.specs.Filled.{SlotFits, SymbolFits, DatumFits, HasOutput, HasNoOutput}
use Rattle.fa_core.specs.declared.faces.BoxFace.{BoxFace}
use Rattle.fa_core.specs.declared.faces.Face.{Face}
use Rattle.fa_lines.specs.Spelling.{IsTerm, IsDatum, IsValue}
use Rattle.fa_lines.specs.declared.line.DatumText.{DatumText}
use Rattle.fa_lines.specs.declared.line.SlotText.{SlotText}
use Rattle.fa_lines.specs.declared.line.SlotText.TheVariants.{Field, Link, Hook}
use Rattle.fa_lines.specs.declared.line.Term.{Term}
use Rattle.fa_lines.specs.declared.line.Term.TheVariants.{Null, Uninit, Dangling, Ref, Cell}
use Rattle.fa_named.specs.Breaks.{is_field, is_none, are_data, data_fit, says, is_formed, cell_faults, term_faults}
use Rattle.fa_named.specs.Earlier.{is_some}
use Rattle.fa_named.specs.Insides.{slot_of, symbol_of}
use Rattle.fa_named.specs.Places.{Texts, place}
use Rattle.fa_named.specs.Structs.{field_names, fields_of, known_of}
use Rattle.fa_named.specs.declared.fault.NameFault.TheVariants.{B2, B3}
use Rattle.fa_named.specs.declared.named.Boxes.{Boxes}
use Rattle.fa_named.specs.declared.named.Fields.{Fields}

-- Lists of faults that are empty

pub cons_not : {X : Type 0} (x : X) (xs : List X) → x ∷ xs ≡ [] → ⊥
cons_not x xs e = let h : suc (length xs) ≡ 0 = ap length e in omega (arith, h)

pub none_in : {X : Type 0} (xs ys : List X) → xs ++ ys ≡ [] → (xs ≡ []) × (ys ≡ [])
none_in [] ys e = (refl, e)
none_in (x ∷ xs) ys e = absurd (cons_not x (xs ++ ys) e)

-- the test holds, since what is put where it fails is not there
pub holds : {X : Type 0} (b : Bool) (xs : List X) (x : X) → cond b xs (x ∷ []) ≡ [] → (b ≡ true) × (xs ≡ [])
holds true xs x e = (refl, e)
holds false xs x e = absurd (cons_not x [] e)

-- and fails, since what is put where it holds is not there
pub fails : {X : Type 0} (b : Bool) (x : X) → cond b (x ∷ []) [] ≡ [] → b ≡ false
fails true x e = absurd (cons_not x [] e)
fails false x e = refl

-- The boxes before a line, by their faces

-- which of the boxes have an output
abbrev pub outputs : List BoxFace → List Bool
outputs xs = map (λ (x : BoxFace). is_some x.output) xs

some_is : (o : Option ℕ) → is_some o ≡ true → IsSome o
some_is None e = e
some_is (Some n) e = refl

none_is : (o : Option ℕ) → not (is_some o) ≡ true → IsNone o
none_is None e = refl
none_is (Some n) e = absurd (true≢false (sym e))

link_fits : (xs : List BoxFace) (k : ℕ) → says true (slice_get (outputs xs) k) ≡ true → HasOutput (slice_get xs k)
link_fits [] k e = true≢false (sym e)
link_fits (x ∷ xs) zero e = some_is x.output e
link_fits (x ∷ xs) (suc k) e = link_fits xs k e

hook_fits : (xs : List BoxFace) (k : ℕ) → says false (slice_get (outputs xs) k) ≡ true → HasNoOutput (slice_get xs k)
hook_fits [] k e = true≢false (sym e)
hook_fits (x ∷ xs) zero e = none_is x.output e
hook_fits (x ∷ xs) (suc k) e = hook_fits xs k e

-- Structs

one_pointer : (f : FieldDef) (fs : List FieldDef) (k : FieldKind) → f.kind ≡ k
    → length (field_names false fs) ≡ length (targets_in fs)
    → length (field_names false (f ∷ fs)) ≡ length (targets_in (f ∷ fs))
one_pointer f fs (Pointer s) e h = rw e (ap suc h)
one_pointer f fs IsData e h = rw e h

pointers_count : (fs : List FieldDef) → length (field_names false fs) ≡ length (targets_in fs)
pointers_count [] = refl
pointers_count (f ∷ fs) = one_pointer f fs f.kind refl (pointers_count fs)

one_datum : (f : FieldDef) (fs : List FieldDef) (k : FieldKind) → f.kind ≡ k
    → length (field_names true fs) ≡ datums_in fs → length (field_names true (f ∷ fs)) ≡ datums_in (f ∷ fs)
one_datum f fs (Pointer s) e h = rw e h
one_datum f fs IsData e h = rw e (ap suc h)

datums_count : (fs : List FieldDef) → length (field_names true fs) ≡ datums_in fs
datums_count [] = refl
datums_count (f ∷ fs) = one_datum f fs f.kind refl (datums_count fs)

-- the struct of this number has as many fields as it has names of them
record IsThere (hs : List Shape) (s : ℕ) (f : Fields) : Type 0 where
  pub within : s < length hs
  pub pointers : length f.pointers ≡ length (targets_of hs s)
  pub datums : length f.datums ≡ datums_of hs s

fields_there : (hs : List Shape) (s : ℕ) (f : Fields) → slice_get (map fields_of hs) s ≡ Some f → IsThere hs s f
fields_there [] s f e = absurd (none-some f e)
fields_there (h ∷ hs) zero f e =
    let same : fields_of h ≡ f = same_Some (fields_of h) f e in
    record {
      within = omega arith;
      pointers = subst (λ (g : Fields). length g.pointers ≡ length (targets_in h.fields)) same
          (pointers_count h.fields);
      datums = subst (λ (g : Fields). length g.datums ≡ datums_in h.fields) same (datums_count h.fields);
    }
fields_there (h ∷ hs) (suc s) f e =
    let t = fields_there hs s f e in
    record { within = let l = t.within in omega (arith, l); pointers = t.pointers; datums = t.datums }

some_at : (xs : List ℕ) (k : ℕ) → k < length xs → IsSome (slice_get xs k)
some_at [] k h = absurd (let no : k < 0 → ⊥ = λ g. omega (arith, g) in no h)
some_at (x ∷ xs) zero h = refl
some_at (x ∷ xs) (suc k) h = some_at xs k (let g : k < length xs = omega (arith, h) in g)

-- Slots

-- the boxes before have these faces
abbrev pub Shows : Boxes → List BoxFace → Type 0
Shows boxes xs = boxes.outputs ≡ outputs xs

slot_fits : (shapes : Shapes) (boxes : Boxes) (xs : List BoxFace) (s : ℕ) (f : Fields) (p : SlotText) → Shows boxes xs
    → IsThere shapes.structs s f → is_field f.pointers p ≡ true → is_formed boxes p ≡ true
    → SlotFits (record { shapes = shapes; boxes = xs }) s (slot_of f.pointers boxes.names p)
slot_fits shapes boxes xs s f (Field name q) shows there field formed =
    let lt = ltb-true (place name f.pointers) (length f.pointers) field in
    let same = there.pointers in
    some_at (targets_of shapes.structs s) (place name f.pointers) (omega (arith, lt, same))
slot_fits shapes boxes xs s f (Link name q) shows there field formed =
    link_fits xs (place name boxes.names)
    (subst (λ outs. says true (slice_get outs (place name boxes.names)) ≡ true) shows formed)
slot_fits shapes boxes xs s f (Hook name) shows there field formed =
    hook_fits xs (place name boxes.names)
    (subst (λ outs. says false (slice_get outs (place name boxes.names)) ≡ true) shows formed)

slots_fit : (shapes : Shapes) (boxes : Boxes) (xs : List BoxFace) (s : ℕ) (f : Fields) (ps : List SlotText)
    → Shows boxes xs → IsThere shapes.structs s f → list_all (is_field f.pointers) ps ≡ true
    → list_all (is_formed boxes) ps ≡ true
    → Every (SlotFits (record { shapes = shapes; boxes = xs }) s) (map (slot_of f.pointers boxes.names) ps)
slots_fit shapes boxes xs s f [] shows there field formed = tt
slots_fit shapes boxes xs s f (p ∷ ps) shows there field formed =
    let a = and_parts (is_field f.pointers p) (list_all (is_field f.pointers) ps) field in
    let b = and_parts (is_formed boxes p) (list_all (is_formed boxes) ps) formed in
    (slot_fits shapes boxes xs s f p shows there a.0 b.0, slots_fit shapes boxes xs s f ps shows there a.1 b.1)

-- Data

as_long : {X Y : Type 0} (e : X → Y → Bool) (xs : List X) (ys : List Y) → pointwise e xs ys ≡ true
    → length xs ≡ length ys
as_long e [] [] h = refl
as_long e [] (y ∷ ys) h = absurd (true≢false (sym h))
as_long e (x ∷ xs) [] h = absurd (true≢false (sym h))
as_long e (x ∷ xs) (y ∷ ys) h = ap suc (as_long e xs ys (and_parts (e x y) (pointwise e xs ys) h).1)

pub map_long : {X Y : Type 0} (f : X → Y) (xs : List X) → length (map f xs) ≡ length xs
map_long f [] = refl
map_long f (x ∷ xs) = ap suc (map_long f xs)

data_long : (names : Texts) (ds : List DatumText) → are_data names ds ≡ true
    → length (map (λ (d : DatumText). d.datum) ds) ≡ length names
data_long names ds h =
    map_long (λ (d : DatumText). d.datum) ds ∙ sym (map_long (λ (d : DatumText). d.name) ds)
    ∙ as_long (pointwise nat_eq) (map (λ (d : DatumText). d.name) ds) names h

datum_fits : (d : Datum) → IsValue d → DatumFits d
datum_fits Undefined h = tt
datum_fits (IsKnown n) h = h

data_fits : (ds : List DatumText) → Every IsDatum ds → Every DatumFits (map (λ (d : DatumText). d.datum) ds)
data_fits [] h = tt
data_fits (d ∷ ds) h = (datum_fits d.datum h.0.1, data_fits ds h.1)

no_data : (ds : List DatumText) → is_none ds ≡ true → map (λ (d : DatumText). d.datum) ds ≡ []
no_data [] e = refl
no_data (d ∷ ds) e = absurd (true≢false (sym e))

top_none : (top inner : Bool) (ds : List DatumText) (names : Texts) → data_fit top inner ds names ≡ true → top ≡ true
    → is_none ds ≡ true
top_none true inner ds names h e = (and_parts (is_none ds) _ h).0
top_none false inner ds names h e = absurd (true≢false (sym e))

inner_data : (top inner : Bool) (ds : List DatumText) (names : Texts) → data_fit top inner ds names ≡ true
    → inner ≡ true → are_data names ds ≡ true
inner_data top true ds names h e = (and_parts _ (are_data names ds) h).1
inner_data top false ds names h e = absurd (true≢false (sym e))

-- Terms

-- the symbol fits a port where the state is top, and a cell where it is inner
pub record TermFits (face : Face) (top inner : Bool) (y : Symbol) : Type 0 where
  pub tops : top ≡ true → PortSymbolFits face y
  pub inners : inner ≡ true → SymbolFits face y

cell_fits : (shapes : Shapes) (boxes : Boxes) (xs : List BoxFace) (top inner : Bool) (line : ℕ) (shape : List ℕ)
    (ds : List DatumText) (ps : List SlotText) (o : Option Fields) → Shows boxes xs → IsTerm (Cell shape ds ps)
    → slice_get (known_of shapes).fields (place shape (known_of shapes).names) ≡ o
    → cell_faults line o boxes top inner ds ps ≡ []
    → TermFits (record { shapes = shapes; boxes = xs }) top inner
    (symbol_of (known_of shapes) boxes.names (Cell shape ds ps))
cell_fits shapes boxes xs top inner line shape ds ps None shows term at none = absurd (cons_not (B2 line) [] none)
cell_fits shapes boxes xs top inner line shape ds ps (Some f) shows term at none =
    let s = place shape (known_of shapes).names in
    let there = fields_there shapes.structs s f at in
    let outer = holds (list_all (is_field f.pointers) ps && data_fit top inner ds f.datums)
    (cond (list_all (is_formed boxes) ps) [] (B3 line ∷ [])) (B2 line) none in
    let parts = and_parts (list_all (is_field f.pointers) ps) (data_fit top inner ds f.datums) outer.0 in
    let formed = holds (list_all (is_formed boxes) ps) [] (B3 line) outer.1 in
    let slots = slots_fit shapes boxes xs s f ps shows there parts.0 formed.0 in
    rw at (record {
      tops = λ e. (there.within, no_data ds (top_none top inner ds f.datums parts.1 e), slots);
      inners = λ e. (
        there.within,
        data_long f.datums ds (inner_data top inner ds f.datums parts.1 e) ∙ there.datums,
        data_fits ds term.1,
        slots,
      );
    })

pub term_fits : (shapes : Shapes) (boxes : Boxes) (xs : List BoxFace) (top inner : Bool) (line : ℕ) (t : Term)
    → Shows boxes xs → IsTerm t → term_faults line (known_of shapes) boxes top inner t ≡ []
    → TermFits (record { shapes = shapes; boxes = xs }) top inner (symbol_of (known_of shapes) boxes.names t)
term_fits shapes boxes xs top inner line Null shows term none = record { tops = λ e. tt; inners = λ e. tt }
term_fits shapes boxes xs top inner line Uninit shows term none = record { tops = λ e. tt; inners = λ e. tt }
term_fits shapes boxes xs top inner line Dangling shows term none = record { tops = λ e. tt; inners = λ e. tt }
term_fits shapes boxes xs top inner line (Ref r) shows term none = record { tops = λ e. tt; inners = λ e. tt }
term_fits shapes boxes xs top inner line (Cell shape ds ps) shows term none =
    cell_fits shapes boxes xs top inner line shape ds ps
    (slice_get (known_of shapes).fields (place shape (known_of shapes).names)) shows term refl none
