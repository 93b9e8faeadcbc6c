-- A text has at most one table, and breaks at most one rule first.
use Rattle.std.proofs.Common.{arith, ◌≡◌, ◌<◌, ◌≤◌, ℕ, zero, suc, List, [], ◌∷◌, ◌++◌, length, take, Option}
use Rattle.std.proofs.Common.{Some}
use Rattle.std.proofs.Common.{slice_get, refl, sym, ap, subst, ◌∙◌, ◌⊎◌, inl, inr, append_assoc, append-nil}
use Rattle.std.proofs.Common.{length-append}
use Rattle.std.proofs.lemmas.Bool.{cases_lt}
use Rattle.std.proofs.lemmas.Option.{none-some, same_Some}
use Rattle.fore_base.specs.Lists.{IsIn, Every, Paired}
use Rattle.fore_base.specs.declared.shape.Shapes.{Shapes}
use Rattle.fore_base.proofs.ListLemmas.{every_push}
use Rattle.ta_core.specs.Auto.{Automaton, IsRanked}
use Rattle.fa_core.specs.Boxes.{Boxes, IsBoxTable, SoundBox, AreSoundOver, faces_of, names_of}
use Rattle.fa_core.specs.Words.{IsWord}
use Rattle.fa_core.specs.declared.boxes.BoxDef.{BoxDef}
use Rattle.fa_core.specs.declared.faces.BoxFace.{BoxFace}
use Rattle.fa_core.specs.declared.faces.Face.{Face}
use Rattle.fa_core.specs.declared.forest.Forest.{Forest}
use Rattle.fa_core.proofs.TablesGive.{table_push}
use Rattle.fa_back.specs.Insides.{AreRankedInsides}
use Rattle.fa_box_rules.specs.Rules.{Inside, Breaks, BreaksFirst, inside_of}
use Rattle.fa_box_rules.specs.declared.rule.BoxRule.{BoxRule}
use Rattle.fa_box_rules.specs.declared.rule.BoxRule.TheVariants.{B4, B5, B6, B7}
use Rattle.fa_box_rules.proofs.OneFace.{one_face}
use Rattle.fa_box_rules.proofs.SoundBoxes.{none_broken}
use Rattle.fa_written.specs.declared.draft.BoxDraft.{BoxDraft}
use Rattle.fa_named.specs.declared.named.NamedBox.{NamedBox}
use Rattle.fa_text.specs.Files.{HasFace, face_over, bare, IsFirstBroken}
use Rattle.fa_text.specs.inner.Next.{IsNext, AreNext}
use Rattle.fa_text.proofs.Next.{map_push}

-- Boxes

abbrev table_of : Shapes → List BoxDef → Boxes
table_of shapes defs = record { face = face_over shapes defs; defs = defs }

abbrev box_with : List ℕ → BoxFace → Forest → BoxDef
box_with name face inside = record { name = name; face = face; inside = inside }

-- two boxes with faces that are written alike, and are sound over the same boxes, are one
one_box : (shapes : Shapes) (before : List BoxDef) (n : NamedBox) (x y : BoxDef) → IsBoxTable (table_of shapes before)
    → AreRankedInsides before → Every IsRanked n.inside.autos → HasFace n x → HasFace n y
    → SoundBox (face_over shapes before) before x → SoundBox (face_over shapes before) before y → x ≡ y
one_box shapes before n x y table insides ranked f g sx sy =
    let same : x.inside ≡ y.inside = f.inside ∙ sym g.inside in
    let faces = one_face (table_of shapes before) table insides x.name y.name x.face y.face y.inside
    (subst (λ (i : Forest). Every IsRanked i.autos) (sym g.inside) ranked) (f.output ∙ sym g.output)
    (subst (λ (i : Forest). SoundBox (face_over shapes before) before (box_with x.name x.face i)) same sx) sy in
    ap (λ (i : List ℕ). box_with i x.face x.inside) (f.name ∙ sym g.name)
    ∙ ap (λ (i : BoxFace). box_with y.name i x.inside) faces ∙ ap (box_with y.name y.face) same

-- Tables

table_more : (shapes : Shapes) (before : List BoxDef) (n : NamedBox) (x : BoxDef) → IsBoxTable (table_of shapes before)
    → IsNext shapes before n → HasFace n x → SoundBox (face_over shapes before) before x
    → IsBoxTable (table_of shapes (before ++ x ∷ []))
table_more shapes before n x table next f sound =
    subst (λ (faces : List BoxFace). IsBoxTable (record {
      face = record { shapes = shapes; boxes = faces };
      defs = before ++ x ∷ [];
    })) (sym (push before))
    (table_push (table_of shapes before) x table next.room (subst IsWord (sym f.name) next.word)
    (λ i. next.new (subst (λ (name : List ℕ). IsIn name (names_of before)) f.name i))
    (subst (λ (i : Forest). (i.vars ≡ []) × (i.data_vars ≡ [])) (sym f.inside) next.plain) sound)
  where
    push : (xs : List BoxDef) → faces_of (xs ++ x ∷ []) ≡ faces_of xs ++ x.face ∷ []
    push xs = map_push (λ (b : BoxDef). b.face) xs x

next_more : (shapes : Shapes) (before : List BoxDef) (n : NamedBox) (ns : List NamedBox) (x : BoxDef)
    → AreNext shapes before (n ∷ ns) → HasFace n x → AreNext shapes (before ++ x ∷ []) ns
next_more shapes before n ns x next f i defs m p at =
    subst (λ (l : List BoxDef). IsNext shapes l m) (sym (append_assoc before (x ∷ []) defs))
    (next (suc i) (x ∷ defs) m (f, p) at)

next_here : (shapes : Shapes) (before : List BoxDef) (n : NamedBox) (ns : List NamedBox)
    → AreNext shapes before (n ∷ ns) → IsNext shapes before n
next_here shapes before n ns next =
    subst (λ (l : List BoxDef). IsNext shapes l n) (append-nil before) (next 0 [] n tt refl)

-- of two lists of the first boxes with their faces one is the beginning of the other
prefix_alike : (shapes : Shapes) (before : List BoxDef) (ns : List NamedBox) (xs ys : List BoxDef)
    → IsBoxTable (table_of shapes before) → AreRankedInsides before → AreNext shapes before ns
    → Paired HasFace (take (length xs) ns) xs → Paired HasFace (take (length ys) ns) ys
    → AreSoundOver shapes before xs → AreSoundOver shapes before ys → length xs ≤ length ys
    → (rest : List BoxDef) × (ys ≡ xs ++ rest)
prefix_alike shapes before ns [] ys table insides next p q sx sy le = (ys, refl)
prefix_alike shapes before ns (x ∷ xs) [] table insides next p q sx sy le =
    absurd (let no_more : suc (length xs) ≤ 0 → ⊥ = λ g. omega (arith, g) in no_more le)
prefix_alike shapes before [] (x ∷ xs) (y ∷ ys) table insides next p q sx sy le = absurd p
prefix_alike shapes before (n ∷ ns) (x ∷ xs) (y ∷ ys) table insides next p q sx sy le =
    let here = next_here shapes before n ns next in
    let ranked = here.named.ranked in
    let same = one_box shapes before n x y table insides ranked p.0 q.0 sx.0 sy.0 in
    let k = prefix_alike shapes (before ++ x ∷ []) ns xs ys (table_more shapes before n x table here p.0 sx.0)
    (every_push (λ (b : BoxDef). Every IsRanked b.inside.autos) before x insides
    (subst (λ (i : Forest). Every IsRanked i.autos) (sym p.0.inside) ranked)) (next_more shapes before n ns x next p.0)
    p.1 q.1 sx.1 (subst (λ (b : BoxDef). AreSoundOver shapes (before ++ b ∷ []) ys) (sym same) sy.1)
    (omega (arith, le)) in
    (k.0, ap (λ (b : BoxDef). b ∷ ys) (sym same) ∙ ap (λ (l : List BoxDef). x ∷ l) k.1)

-- Places

sound_at : (shapes : Shapes) (before xs : List BoxDef) (c : BoxDef) (rest : List BoxDef)
    → AreSoundOver shapes before (xs ++ c ∷ rest) → SoundBox (face_over shapes (before ++ xs)) (before ++ xs) c
sound_at shapes before [] c rest s =
    subst (λ (l : List BoxDef). SoundBox (face_over shapes l) l c) (sym (append-nil before)) s.0
sound_at shapes before (x ∷ xs) c rest s =
    subst (λ (l : List BoxDef). SoundBox (face_over shapes l) l c) (append_assoc before (x ∷ []) xs)
    (sound_at shapes (before ++ x ∷ []) xs c rest s.1)

paired_at : (ns : List NamedBox) (xs : List BoxDef) (c : BoxDef) (rest : List BoxDef) (k : ℕ) (n : NamedBox)
    → Paired HasFace (take k ns) (xs ++ c ∷ rest) → slice_get ns (length xs) ≡ Some n → HasFace n c
paired_at [] [] c rest k n p at = absurd (none-some n at)
paired_at [] (x ∷ xs) c rest k n p at = absurd (none-some n at)
paired_at (m ∷ ns) [] c rest zero n p at = absurd p
paired_at (m ∷ ns) [] c rest (suc k) n p at = subst (λ (i : NamedBox). HasFace i c) (same_Some m n at) p.0
paired_at (m ∷ ns) (x ∷ xs) c rest zero n p at = absurd p
paired_at (m ∷ ns) (x ∷ xs) c rest (suc k) n p at = paired_at ns xs c rest k n p.1 at

-- the named box is what the box is without its name
bare_is : (n : NamedBox) (c : BoxDef) → HasFace n c → inside_of c ≡ bare n
bare_is n c f =
    ap (λ (i : ℕ). inside_with i c.face.output c.inside.autos) f.input
    ∙ ap (λ (i : Option ℕ). inside_with n.input i c.inside.autos) f.output
    ∙ ap (λ (i : Forest). inside_with n.input n.output i.autos) f.inside
  where
    inside_with : ℕ → Option ℕ → List Automaton → Inside
    inside_with input output autos = record { input = input; output = output; autos = autos }

breaks_some : (face : Face) (T : List BoxDef) (b : Inside) (r : BoxRule) → BreaksFirst face T b r → Breaks face T b r
breaks_some face T b B4 h = h.1
breaks_some face T b B5 h = h.2
breaks_some face T b B6 h = h.3
breaks_some face T b B7 h = h

one_rule : (face : Face) (T : List BoxDef) (b : Inside) (r s : BoxRule) → BreaksFirst face T b r
    → BreaksFirst face T b s → r ≡ s
one_rule face T b B4 B4 f g = refl
one_rule face T b B4 B5 f g = absurd (g.1 f.1)
one_rule face T b B4 B6 f g = absurd (g.1 f.1)
one_rule face T b B4 B7 f g = absurd (f.0 g)
one_rule face T b B5 B4 f g = absurd (f.1 g.1)
one_rule face T b B5 B5 f g = refl
one_rule face T b B5 B6 f g = absurd (g.2 f.2)
one_rule face T b B5 B7 f g = absurd (f.0 g)
one_rule face T b B6 B4 f g = absurd (f.1 g.1)
one_rule face T b B6 B5 f g = absurd (f.2 g.2)
one_rule face T b B6 B6 f g = refl
one_rule face T b B6 B7 f g = absurd (f.0 g)
one_rule face T b B7 B4 f g = absurd (g.0 f)
one_rule face T b B7 B5 f g = absurd (g.0 f)
one_rule face T b B7 B6 f g = absurd (g.0 f)
one_rule face T b B7 B7 f g = refl

-- The first box that breaks a rule

no_table : (shapes : Shapes) → IsBoxTable (table_of shapes [])
no_table shapes = record { faces = refl; sound = tt; count = omega arith; names = tt; words = tt; insides = tt }

-- no more boxes have faces than those before it
pub not_more : (shapes : Shapes) (ds : List BoxDraft) (ns : List NamedBox) (rule : BoxRule) (line : ℕ)
    → AreNext shapes [] ns
    → (b : IsFirstBroken shapes ds ns rule line) (ys : List BoxDef) → Paired HasFace (take (length ys) ns) ys
    → AreSoundOver shapes [] ys → length b.before < length ys → ⊥
not_more shapes ds ns rule line next b ys q sy lt =
    let k = prefix_alike shapes [] ns b.before ys (no_table shapes) tt next b.boxes.0 q b.boxes.1 sy
    (omega (arith, lt)) in
    by k.0 k.1
  where
    by : (rest : List BoxDef) → ys ≡ b.before ++ rest → ⊥
    by [] e =
        let same : length ys ≡ length b.before = ap length (e ∙ append-nil b.before) in
        let none : length b.before < length ys → ⊥ = λ g. omega (arith, g, same) in none lt
    by (c ∷ rest) e =
        let sound = sound_at shapes [] b.before c rest (subst (AreSoundOver shapes []) e sy) in
        let face = paired_at ns b.before c rest (length ys) b.box
        (subst (λ (l : List BoxDef). Paired HasFace (take (length ys) ns) l) e q) b.box_at in
        none_broken (face_over shapes b.before) b.before c sound rule
        (subst (λ (i : Inside). Breaks (face_over shapes b.before) b.before i rule) (sym (bare_is b.box c face))
        (breaks_some (face_over shapes b.before) b.before (bare b.box) rule b.breaks))

empty_rest : (xs rest : List BoxDef) → length (xs ++ rest) ≤ length xs → rest ≡ []
empty_rest xs [] h = refl
empty_rest xs (r ∷ rest) h =
    absurd (let e = length-append xs (r ∷ rest) in
    let none : length (xs ++ r ∷ rest) ≤ length xs → ⊥ = λ g. omega (arith, g, e) in none h)

-- as many boxes with their faces are the same
pub same_boxes : (shapes : Shapes) (ns : List NamedBox) (xs ys : List BoxDef) → AreNext shapes [] ns
    → Paired HasFace (take (length xs) ns) xs → Paired HasFace (take (length ys) ns) ys → AreSoundOver shapes [] xs
    → AreSoundOver shapes [] ys → length xs ≡ length ys → xs ≡ ys
same_boxes shapes ns xs ys next p q sx sy long =
    let k = prefix_alike shapes [] ns xs ys (no_table shapes) tt next p q sx sy (omega (arith, long)) in
    let e : length ys ≡ length (xs ++ k.0) = ap length k.1 in
    let none = empty_rest xs k.0 (omega (arith, long, e)) in
    sym (k.1 ∙ ap (λ (l : List BoxDef). xs ++ l) none ∙ append-nil xs)

pub record AreOne (rule other : BoxRule) (line at : ℕ) : Type 0 where
  pub rules : rule ≡ other
  pub lines : line ≡ at

pub two_broken : (shapes : Shapes) (ds : List BoxDraft) (ns : List NamedBox) (r s : BoxRule) (l m : ℕ)
    → AreNext shapes [] ns → IsFirstBroken shapes ds ns r l → IsFirstBroken shapes ds ns s m → AreOne r s l m
two_broken shapes ds ns r s l m next b c =
    by (cases_lt (length b.before) (length c.before)) (cases_lt (length c.before) (length b.before))
  where
    here : b.before ≡ c.before → AreOne r s l m
    here e =
        let long : length b.before ≡ length c.before = ap length e in
        let box : b.box ≡ c.box =
        same_Some b.box c.box (sym b.box_at ∙ ap (slice_get ns) long ∙ c.box_at) in
        let draft : b.draft ≡ c.draft =
        same_Some b.draft c.draft (sym b.draft_at ∙ ap (slice_get ds) long ∙ c.draft_at) in
        let breaks = subst (λ (n : NamedBox). BreaksFirst (face_over shapes c.before) c.before (bare n) r) box
        (subst (λ (bs : List BoxDef). BreaksFirst (face_over shapes bs) bs (bare b.box) r) e b.breaks) in
        record {
          rules = one_rule (face_over shapes c.before) c.before (bare c.box) r s breaks c.breaks;
          lines = b.place ∙ ap (λ (d : BoxDraft). d.head.line) draft ∙ sym c.place;
        }

    by : (length b.before < length c.before) ⊎ (length c.before ≤ length b.before)
        → (length c.before < length b.before) ⊎ (length b.before ≤ length c.before) → AreOne r s l m
    by (inl h) k = absurd (not_more shapes ds ns r l next b c.before c.boxes.0 c.boxes.1 h)
    by (inr h) (inl k) = absurd (not_more shapes ds ns s m next c b.before b.boxes.0 b.boxes.1 k)
    by (inr h) (inr k) =
        here (same_boxes shapes ns b.before c.before next b.boxes.0 c.boxes.0 b.boxes.1 c.boxes.1 (omega (arith, h, k)))
