-- Each box of a file without faults may stand behind those before it.
use Rattle.std.proofs.Common.{arith, ◌≡◌, ◌<◌, ◌≤◌, ◌+◌, ℕ, zero, suc, Bool, true, false, true≢false, cond, List}
use Rattle.std.proofs.Common.{[]}
use Rattle.std.proofs.Common.{◌∷◌, ◌++◌, map, length, Option, Some, None, slice_get, refl, sym, ap, subst, nat_eq}
use Rattle.std.proofs.Common.{◌∙◌, inl, inr, append_assoc, append-nil, length-append}
use Rattle.std.specs.Cmp.Lexicographic.{pointwise, bytes_decides}
use Rattle.std.proofs.lemmas.Bool.{lt-ltb}
use Rattle.std.proofs.lemmas.Option.{none-some, same_Some}
use Rattle.fore_base.specs.Lists.{IsIn, Every}
use Rattle.fore_base.specs.declared.shape.Shapes.{Shapes}
use Rattle.fa_core.specs.Boxes.{names_of, faces_of}
use Rattle.fa_core.specs.declared.boxes.BoxDef.{BoxDef}
use Rattle.fa_core.specs.declared.faces.BoxFace.{BoxFace}
use Rattle.fa_written.specs.Drafts.{IsText}
use Rattle.fa_written.specs.Forms.{port_count as ports_of}
use Rattle.fa_written.specs.declared.draft.BoxDraft.{BoxDraft}
use Rattle.fa_named.specs.Breaks.{limit_at, limit_faults, box_faults, head_faults, parts_faults, file_faults}
use Rattle.fa_named.specs.Earlier.{no_boxes, with_box, is_some}
use Rattle.fa_named.specs.Insides.{auto_of}
use Rattle.fa_named.specs.Named.{AreNamed, output_of, box_of, boxes_of}
use Rattle.fa_named.specs.Places.{Texts, place, is_there}
use Rattle.fa_named.specs.Structs.{known_of}
use Rattle.fa_named.specs.declared.fault.NameFault.TheVariants.{K6}
use Rattle.fa_named.specs.declared.named.Boxes.{Boxes}
use Rattle.fa_named.specs.declared.named.NamedBox.{NamedBox}
use Rattle.fa_text.specs.Files.{HasFace}
use Rattle.fa_text.specs.inner.Next.{IsNext, AreNext, HasFew}
use Rattle.fa_text.proofs.Fits.{cons_not, none_in, outputs, map_long}
use Rattle.fa_text.proofs.WellNamed.{head_fits, well_named}
use Rattle.fa_text.proofs.Written.{IsDrawn, drawn, is_a_word}

-- Names

place_in : (name : List ℕ) (names : Texts) → IsIn name names → place name names < length names
place_in name [] i = absurd i
place_in name (other ∷ names) (inl e) = rw ((bytes_decides name other).1 e) (omega arith)
place_in name (other ∷ names) (inr i) = by (pointwise nat_eq name other) (place_in name names i)
  where
    by : (b : Bool) → place name names < length names → cond b 0 (suc (place name names)) < suc (length names)
    by true h = omega arith
    by false h = omega (arith, h)

new_name : (name : List ℕ) (names : Texts) → is_there name names ≡ false → IsIn name names → ⊥
new_name name names e i = true≢false (sym (lt-ltb (place name names) (length names) (place_in name names i)) ∙ e)

-- The boxes before

-- the names and the outputs of the boxes before are those of these boxes
record AreBehind (boxes : Boxes) (before : List BoxDef) : Type 0 where
  pub names : boxes.names ≡ names_of before
  pub outputs : boxes.outputs ≡ outputs (faces_of before)

pub map_push : {X Y : Type 0} (f : X → Y) (xs : List X) (x : X) → map f (xs ++ x ∷ []) ≡ map f xs ++ f x ∷ []
map_push f [] x = refl
map_push f (y ∷ xs) x = ap (λ l. f y ∷ l) (map_push f xs x)

same_output : (names : Texts) (o : Option (List ℕ)) → is_some (output_of names o) ≡ is_some o
same_output names None = refl
same_output names (Some name) = refl

behind_more : (shapes : Shapes) (boxes : Boxes) (before : List BoxDef) (d : BoxDraft) (b : BoxDef)
    → AreBehind boxes before → HasFace (box_of (known_of shapes) boxes d) b
    → AreBehind (with_box boxes d.head) (before ++ b ∷ [])
behind_more shapes boxes before d b h face = record {
  names = ap (λ l. l ++ d.head.name ∷ []) h.names ∙ ap (λ n. names_of before ++ n ∷ []) (sym face.name)
      ∙ sym (map_push (λ (c : BoxDef). c.name) before b);
  outputs = ap (λ l. l ++ is_some d.head.output ∷ []) h.outputs
      ∙ ap (λ n. outputs (faces_of before) ++ n ∷ [])
      (sym (ap is_some face.output ∙ same_output (known_of shapes).names d.head.output))
      ∙ sym (ap outputs (map_push (λ (c : BoxDef). c.face) before b)
      ∙ map_push (λ (x : BoxFace). is_some x.output) (faces_of before) b.face);
}

-- One box

one_next : (shapes : Shapes) (boxes : Boxes) (before : List BoxDef) (n : ℕ) (d : BoxDraft) → AreBehind boxes before
    → IsDrawn n d → box_faults (known_of shapes) boxes d ≡ [] → length before < 32
    → IsNext shapes before (box_of (known_of shapes) boxes d)
one_next shapes boxes before n d behind drawn none room =
    let known = known_of shapes in
    let head = head_fits shapes boxes d.head
    (none_in (head_faults known boxes d.head) (parts_faults known boxes (ports_of d.head.output) 0 d.parts) none).0 in
    record {
      named = well_named shapes boxes (faces_of before) d behind.outputs drawn.written.terms drawn.ports drawn.refs
          none;
      word = is_a_word d.head.name drawn.written.name;
      new = λ i. new_name d.head.name boxes.names head.new (subst (IsIn d.head.name) (sym behind.names) i);
      plain = (refl, refl);
      room = room;
    }

-- All boxes

each_next : (shapes : Shapes) (boxes : Boxes) (before : List BoxDef) (n : ℕ) (ds : List BoxDraft)
    → AreBehind boxes before → Every (IsDrawn n) ds → file_faults (known_of shapes) boxes ds ≡ []
    → length before + length ds ≤ 32 → AreNext shapes before (boxes_of (known_of shapes) boxes ds)
each_next shapes boxes before n [] behind drawn none room i defs x p at = absurd (none-some x at)
each_next shapes boxes before n (d ∷ ds) behind drawn none room zero [] x p at =
    let h = none_in (box_faults (known_of shapes) boxes d) (file_faults (known_of shapes) (with_box boxes d.head) ds)
    none in
    let here = one_next shapes boxes before n d behind drawn.0 h.0 (omega (arith, room)) in
    subst (λ (l : List BoxDef). IsNext shapes l x) (sym (append-nil before))
    (subst (IsNext shapes before) (same_Some (box_of (known_of shapes) boxes d) x at) here)
each_next shapes boxes before n (d ∷ ds) behind drawn none room zero (b ∷ defs) x p at = absurd p
each_next shapes boxes before n (d ∷ ds) behind drawn none room (suc i) [] x p at = absurd p
each_next shapes boxes before n (d ∷ ds) behind drawn none room (suc i) (b ∷ defs) x p at =
    let h = none_in (box_faults (known_of shapes) boxes d) (file_faults (known_of shapes) (with_box boxes d.head) ds)
    none in
    let long : length (before ++ b ∷ []) ≡ length before + 1 = length-append before (b ∷ []) in
    subst (λ (l : List BoxDef). IsNext shapes l x) (append_assoc before (b ∷ []) defs)
    (each_next shapes (with_box boxes d.head) (before ++ b ∷ []) n ds
    (behind_more shapes boxes before d b behind p.0) drawn.1 h.1 (omega (arith, room, long)) i defs x p.1 at)

-- Files

past : {X : Type 0} (xs : List X) (k : ℕ) → slice_get xs k ≡ None → length xs ≤ k
past [] k e = omega arith
past (x ∷ xs) zero e = absurd (none-some x (sym e))
past (x ∷ xs) (suc k) e = let h = past xs k e in omega (arith, h)

few_boxes : (bs : List BoxDraft) → limit_faults bs ≡ [] → length bs ≤ 32
few_boxes bs e = by (slice_get bs 32) refl
  where
    by : (o : Option BoxDraft) → slice_get bs 32 ≡ o → length bs ≤ 32
    by None f = past bs 32 f
    by (Some b) f = absurd (cons_not (K6 b.head.line) [] (sym (ap limit_at f) ∙ e))

pub all_next : (text : List ℕ) (shapes : Shapes) (ds : List BoxDraft) (named : List NamedBox) → IsText text ds
    → AreNamed shapes ds named → AreNext shapes [] named
all_next text shapes ds named t named_so =
    let h = none_in (limit_faults ds) (file_faults (known_of shapes) no_boxes ds) named_so.0 in
    let few = few_boxes ds h.0 in
    subst (AreNext shapes []) (sym named_so.1)
    (each_next shapes no_boxes [] (length text) ds (record { names = refl; outputs = refl }) (drawn text ds t) h.1
    (omega (arith, few)))

-- there are as many boxes as drafts
boxes_long : (shapes : Shapes) (boxes : Boxes) (ds : List BoxDraft)
    → length (boxes_of (known_of shapes) boxes ds) ≡ length ds
boxes_long shapes boxes [] = refl
boxes_long shapes boxes (d ∷ ds) = ap suc (boxes_long shapes (with_box boxes d.head) ds)

pub named_long : (shapes : Shapes) (ds : List BoxDraft) (named : List NamedBox) → AreNamed shapes ds named
    → length named ≡ length ds
named_long shapes ds named h = ap length h.1 ∙ boxes_long shapes no_boxes ds

each_few : (shapes : Shapes) (boxes : Boxes) (n : ℕ) (ds : List BoxDraft) → n ≤ 16777216 → Every (IsDrawn n) ds
    → Every HasFew (boxes_of (known_of shapes) boxes ds)
each_few shapes boxes n [] bytes h = tt
each_few shapes boxes n (d ∷ ds) bytes h =
    let e = map_long (auto_of (known_of shapes) boxes.names) d.parts in
    let few = h.0.few in
    let here : length (map (auto_of (known_of shapes) boxes.names) d.parts) < 4294967296 =
    omega (arith, e, few, bytes) in
    (here, each_few shapes (with_box boxes d.head) n ds bytes h.1)

pub all_few : (text : List ℕ) (shapes : Shapes) (ds : List BoxDraft) (named : List NamedBox) → length text ≤ 16777216
    → IsText text ds → AreNamed shapes ds named → Every HasFew named
all_few text shapes ds named bytes t named_so =
    subst (Every HasFew) (sym named_so.1) (each_few shapes no_boxes (length text) ds bytes (drawn text ds t))
