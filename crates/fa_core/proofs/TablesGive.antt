-- The faces of a table: a box that leads back gives its output something, and lists of given fields rise.
use Rattle.std.proofs.Common.{◌≡◌, ◌<◌, ◌+◌, ℕ, true≢false, List, [], ◌∷◌, ◌++◌, length, map}
use Rattle.std.proofs.Common.{Option, Some, None, refl, sym, ap, subst, ◌∙◌, arith}
use Rattle.fore_base.specs.Lists.{IsIn, Every}
use Rattle.fore_base.specs.declared.shape.Shapes.{Shapes}
use Rattle.fore_base.proofs.ListLemmas.{every_push, distinct_push}
use Rattle.ta_core.specs.Auto.{Automaton}
use Rattle.fa_core.specs.Boxes.{BackHolds, SoundBox, Boxes, faces_of, AreSoundOver, IsBoxTable, names_of}
use Rattle.fa_core.specs.Boxes.{HasNoVariables}
use Rattle.fa_core.specs.Faces.{IsGiving, IsSortedFace}
use Rattle.fa_core.specs.Words.{IsWord}
use Rattle.fa_core.specs.declared.boxes.BoxDef.{BoxDef}
use Rattle.fa_core.specs.declared.faces.BoxFace.{BoxFace}

face_gives : (T : List BoxDef) (x : BoxFace) (autos : List Automaton) (o : Option ℕ) → BackHolds T x o autos
    → IsGiving x
face_gives T x autos None h b e = true≢false (sym b ∙ h.1)
face_gives T x autos (Some t) h b e = (h.0 b).0 e

faces_give : (shapes : Shapes) (before defs : List BoxDef) → AreSoundOver shapes before defs
    → Every IsGiving (faces_of defs)
faces_give shapes before [] h = tt
faces_give shapes before (d ∷ defs) h = (
  face_gives before d.face d.inside.autos d.face.output h.0.back,
  faces_give shapes (before ++ d ∷ []) defs h.1,
)

pub tables_give : (t : Boxes) → IsBoxTable t → Every IsGiving t.face.boxes
tables_give t h = rw h.faces (faces_give t.face.shapes [] t.defs h.sound)

faces_rise : (shapes : Shapes) (before defs : List BoxDef) → AreSoundOver shapes before defs
    → Every IsSortedFace (faces_of defs)
faces_rise shapes before [] h = tt
faces_rise shapes before (d ∷ defs) h = (h.0.in_order, faces_rise shapes (before ++ d ∷ []) defs h.1)

pub tables_rise : (t : Boxes) → IsBoxTable t → Every IsSortedFace t.face.boxes
tables_rise t h = rw h.faces (faces_rise t.face.shapes [] t.defs h.sound)

-- ONE BOX MORE

map_push : {X : Type 0} (f : BoxDef → X) (defs : List BoxDef) (d : BoxDef) → map f (defs ++ d ∷ [])
    ≡ map f defs ++ f d ∷ []
map_push f [] d = refl
map_push f (x ∷ defs) d = ap (λ l. f x ∷ l) (map_push f defs d)

long_push : (defs : List BoxDef) (d : BoxDef) → length (defs ++ d ∷ []) ≡ length defs + 1
long_push [] d = omega arith
long_push (x ∷ defs) d = let l = long_push defs d in omega (arith, l)

moved : (xs : List BoxDef) (x : BoxDef) (ys : List BoxDef) → (xs ++ x ∷ []) ++ ys ≡ xs ++ x ∷ ys
moved [] x ys = refl
moved (z ∷ xs) x ys = ap (λ (l : List BoxDef). z ∷ l) (moved xs x ys)

none_behind : (xs : List BoxDef) → xs ++ [] ≡ xs
none_behind [] = refl
none_behind (x ∷ xs) = ap (λ (l : List BoxDef). x ∷ l) (none_behind xs)

sound_push : (shapes : Shapes) (before defs : List BoxDef) (d : BoxDef) → AreSoundOver shapes before defs
    → SoundBox (record { shapes = shapes; boxes = faces_of (before ++ defs) }) (before ++ defs) d
    → AreSoundOver shapes before (defs ++ d ∷ [])
sound_push shapes before [] d h s = (
  subst (λ (l : List BoxDef). SoundBox (record { shapes = shapes; boxes = faces_of l }) l d) (none_behind before) s,
  tt,
)
sound_push shapes before (x ∷ defs) d h s = (
  h.0,
  sound_push shapes (before ++ x ∷ []) defs d h.1
      (subst (λ (l : List BoxDef). SoundBox (record { shapes = shapes; boxes = faces_of l }) l d)
      (sym (moved before x defs)) s),
)

-- what may be added to a table is a table's
pub table_push : (t : Boxes) (d : BoxDef) → IsBoxTable t → length t.defs < 32 → IsWord d.name
    → (IsIn d.name (names_of t.defs) → ⊥) → HasNoVariables d → SoundBox t.face t.defs d
    → IsBoxTable (record {
      face = record { shapes = t.face.shapes; boxes = t.face.boxes ++ d.face ∷ [] };
      defs = t.defs ++ d ∷ [];
    })
table_push t d h room word new plain sound = record {
  faces = ap (λ (l : List BoxFace). l ++ d.face ∷ []) h.faces ∙ sym (map_push (λ (b : BoxDef). b.face) t.defs d);
  sound = sound_push t.face.shapes [] t.defs d h.sound
      (subst (λ (l : List BoxFace). SoundBox (record { shapes = t.face.shapes; boxes = l }) t.defs d) h.faces sound);
  count = let l = long_push t.defs d in omega (arith, room, l);
  names = rw (map_push (λ (b : BoxDef). b.name) t.defs d) (distinct_push (names_of t.defs) d.name h.names new);
  words = rw (map_push (λ (b : BoxDef). b.name) t.defs d) (every_push IsWord (names_of t.defs) d.name h.words word);
  insides = every_push HasNoVariables t.defs d h.insides plain;
}
