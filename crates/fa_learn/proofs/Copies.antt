-- The boxes of a table are put into a copy one by one: each meets there what it meets in the table.
use Rattle.std.proofs.Common.{◌≡◌, ◌<◌, ◌≤◌, ◌+◌, inl, inr, ℕ, zero, suc, List, [], ◌∷◌, ◌++◌, take, length, Some, slice_get}
use Rattle.std.proofs.Common.{refl, sym, ap, ap₂, subst, ◌∙◌, append-nil, append_assoc, arith}
use Rattle.std.proofs.lemmas.Option.{none-some, same_Some}
use Rattle.fore_base.specs.Lists.{IsIn, Every, IsDistinct}
use Rattle.fore_base.specs.declared.shape.Shapes.{Shapes}
use Rattle.fa_core.specs.declared.boxes.BoxDef.{BoxDef}
use Rattle.fa_core.specs.declared.faces.BoxFace.{BoxFace}
use Rattle.fa_core.specs.declared.faces.Face.{Face}
use Rattle.fa_core.specs.Boxes.{AreSoundOver, Boxes, HasNoVariables, IsBoxTable, SoundBox, faces_of, names_of}
use Rattle.fa_core.specs.Words.{IsWord}
use Rattle.fa_learn.specs.Learning.{with_box}
use Rattle.fa_learn.specs.inner.Copied.{HasFirst}

abbrev over : Shapes → List BoxDef → Face
over shapes defs = record { shapes = shapes; boxes = faces_of defs }

sound_at : (shapes : Shapes) (before defs : List BoxDef) → AreSoundOver shapes before defs → (n : ℕ) (b : BoxDef)
    → slice_get defs n ≡ Some b → SoundBox (over shapes (before ++ take n defs)) (before ++ take n defs) b
sound_at shapes before [] h n b e = absurd (none-some b e)
sound_at shapes before (d ∷ defs) h zero b e =
    rw (append-nil before) (subst (SoundBox (over shapes before) before) (same_Some d b e) h.0)
sound_at shapes before (d ∷ defs) h (suc n) b e =
    subst (λ (l : List BoxDef). SoundBox (over shapes l) l b) (append_assoc before (d ∷ []) (take n defs))
    (sound_at shapes (before ++ d ∷ []) defs h.1 n b e)

name_in : (defs : List BoxDef) (n : ℕ) (b : BoxDef) → slice_get defs n ≡ Some b → IsIn b.name (names_of defs)
name_in [] n b e = absurd (none-some b e)
name_in (d ∷ defs) zero b e = inl (ap (λ (x : BoxDef). x.name) (sym (same_Some d b e)))
name_in (d ∷ defs) (suc n) b e = inr (name_in defs n b e)

new_at : (defs : List BoxDef) → IsDistinct (names_of defs) → (n : ℕ) (b : BoxDef) → slice_get defs n ≡ Some b
    → IsIn b.name (names_of (take n defs)) → ⊥
new_at [] h n b e i = absurd (none-some b e)
new_at (d ∷ defs) h zero b e i = i
new_at (d ∷ defs) h (suc n) b e (inl s) =
    h.0 (subst (λ (m : List ℕ). IsIn m (names_of defs)) s (name_in defs n b e))
new_at (d ∷ defs) h (suc n) b e (inr i) = new_at defs h.1 n b e i

item_at : (P : BoxDef → Type 0) (defs : List BoxDef) → Every P defs → (n : ℕ) (b : BoxDef) → slice_get defs n ≡ Some b → P b
item_at P [] h n b e = absurd (none-some b e)
item_at P (d ∷ defs) h zero b e = subst P (same_Some d b e) h.0
item_at P (d ∷ defs) h (suc n) b e = item_at P defs h.1 n b e

words : (defs : List BoxDef) → Every IsWord (names_of defs) → Every (λ (b : BoxDef). IsWord b.name) defs
words [] h = tt
words (d ∷ defs) h = (h.0, words defs h.1)

less_taken : (defs : List BoxDef) (n : ℕ) → n < length defs → length (take n defs) < length defs
less_taken [] n l = absurd (omega (arith, l))
less_taken (d ∷ defs) zero l = omega arith
less_taken (d ∷ defs) (suc n) l = let k = less_taken defs n (omega (arith, l)) in omega (arith, k)

next_taken : (defs : List BoxDef) (n : ℕ) (b : BoxDef) → slice_get defs n ≡ Some b
    → take (n + 1) defs ≡ take n defs ++ b ∷ []
next_taken [] n b e = absurd (none-some b e)
next_taken (d ∷ defs) zero b e = ap (λ (x : BoxDef). x ∷ []) (same_Some d b e)
next_taken (d ∷ defs) (suc n) b e =
    let k : suc n + 1 ≡ suc (n + 1) = omega arith in
    rw k (ap (λ (l : List BoxDef). d ∷ l) (next_taken defs n b e))

all_taken : (defs : List BoxDef) (n : ℕ) → length defs ≤ n → take n defs ≡ defs
all_taken [] zero l = refl
all_taken [] (suc n) l = refl
all_taken (d ∷ defs) zero l = absurd (omega (arith, l))
all_taken (d ∷ defs) (suc n) l = ap (λ (z : List BoxDef). d ∷ z) (all_taken defs n (omega (arith, l)))

faces_more : (xs : List BoxDef) (b : BoxDef) → faces_of (xs ++ b ∷ []) ≡ faces_of xs ++ b.face ∷ []
faces_more [] b = refl
faces_more (x ∷ xs) b = ap (λ (l : List BoxFace). x.face ∷ l) (faces_more xs b)

module _ (t : Boxes) (table : IsBoxTable t) (n : ℕ) (m : Boxes) (first : HasFirst t n m) (b : BoxDef)
    (at : slice_get t.defs n ≡ Some b) where
  pub next_sound : SoundBox m.face m.defs b
  next_sound =
      let face : over t.face.shapes (take n t.defs) ≡ m.face =
      ap₂ (λ (s : Shapes) (l : List BoxFace). record { shapes = s; boxes = l }) (sym first.shapes) (sym first.boxes) in
      subst (λ (f : Face). SoundBox f m.defs b) face
      (subst (λ (l : List BoxDef). SoundBox (over t.face.shapes (take n t.defs)) l b) (sym first.defs)
      (sound_at t.face.shapes [] t.defs table.sound n b at))

  pub next_new : IsIn b.name (names_of m.defs) → ⊥
  next_new i = new_at t.defs table.names n b at (subst (λ (l : List BoxDef). IsIn b.name (names_of l)) first.defs i)

  pub next_word : IsWord b.name
  next_word = item_at (λ (x : BoxDef). IsWord x.name) t.defs (words t.defs table.words) n b at

  pub next_inside : HasNoVariables b
  next_inside = item_at HasNoVariables t.defs table.insides n b at

  pub next_room : n < length t.defs → length m.defs < 32
  next_room l =
      let k = less_taken t.defs n l in
      let c = table.count in
      let e = ap (λ (z : List BoxDef). length z) first.defs in omega (arith, k, c, e)

  -- with the box it has one more
  pub next_first : (w : Boxes) → w.defs ≡ m.defs ++ b ∷ [] → w.face.boxes ≡ m.face.boxes ++ b.face ∷ []
      → w.face.shapes ≡ m.face.shapes → HasFirst t (n + 1) w
  next_first w d f s =
      let k = next_taken t.defs n b at in
      record {
        shapes = s ∙ first.shapes;
        boxes = f ∙ ap (λ (l : List BoxFace). l ++ b.face ∷ []) first.boxes
            ∙ sym (faces_more (take n t.defs) b) ∙ ap faces_of (sym k);
        defs = d ∙ ap (λ (l : List BoxDef). l ++ b ∷ []) first.defs ∙ sym k;
      }

-- the whole table is its copy
pub whole : (t : Boxes) → IsBoxTable t → (n : ℕ) → length t.defs ≤ n → (m : Boxes) → HasFirst t n m → m ≡ t
whole t table n l m h =
    let e = all_taken t.defs n l in
    let face : m.face ≡ t.face =
    ap₂ (λ (s : Shapes) (f : List BoxFace). record { shapes = s; boxes = f }) h.shapes
    (h.boxes ∙ ap faces_of e ∙ sym table.faces) in
    ap₂ (λ (f : Face) (d : List BoxDef). record { face = f; defs = d }) face (h.defs ∙ e)

-- none of it is its beginning
pub beginning : (t m : Boxes) → m.face.shapes ≡ t.face.shapes → m.face.boxes ≡ [] → m.defs ≡ [] → HasFirst t 0 m
beginning t m s f d = record { shapes = s; boxes = f; defs = d }

-- a copy with a box more
pub extended : (t m w : Boxes) (g : BoxDef) → m ≡ t → w.defs ≡ m.defs ++ g ∷ []
    → w.face.boxes ≡ m.face.boxes ++ g.face ∷ [] → w.face.shapes ≡ m.face.shapes → w ≡ with_box t g
extended t m w g e d f s =
    let face : w.face ≡ (with_box t g).face =
    ap₂ (λ (z : Shapes) (l : List BoxFace). record { shapes = z; boxes = l })
    (s ∙ ap (λ (x : Boxes). x.face.shapes) e)
    (f ∙ ap (λ (x : Boxes). x.face.boxes ++ g.face ∷ []) e) in
    ap₂ (λ (x : Face) (l : List BoxDef). record { face = x; defs = l }) face
    (d ∙ ap (λ (x : Boxes). x.defs ++ g ∷ []) e)
