-- A box of a table is sound over those before it, whose faces are those of the table.
use Rattle.std.proofs.Common.{◌≡◌, ℕ, zero, suc, ◌+◌, length, List, [], ◌∷◌, ◌++◌, refl, subst, Some}
use Rattle.std.proofs.Common.{append_assoc, length-append, arith}
use Rattle.std.proofs.lemmas.Option.{none-some, same_Some}
use Rattle.fore_base.specs.declared.shape.Shapes.{Shapes}
use Rattle.ta_core.specs.Auto.{Automaton}
use Rattle.fa_core.specs.declared.boxes.BoxDef.{BoxDef}
use Rattle.fa_core.specs.declared.faces.BoxFace.{BoxFace}
use Rattle.fa_core.specs.Boxes.{SoundBox, AreSoundOver, faces_of}
use Rattle.fa_core.specs.Filled.{face_of}
use Rattle.fa_core.specs.Member.{inside_of}

pub record IsBoxOf (shapes : Shapes) (T : List BoxDef) (b : ℕ) (autos : List Automaton) : Type 0 where
  pub before : List BoxDef
  pub def : BoxDef
  pub sound : SoundBox (record { shapes = shapes; boxes = faces_of before }) before def
  pub inside : def.inside.autos ≡ autos
  pub here : face_of (faces_of T) b ≡ Some def.face
  pub grow : (k : ℕ) (x : BoxFace) → face_of (faces_of before) k ≡ Some x → face_of (faces_of T) k ≡ Some x

face_kept : (before defs : List BoxDef) (k : ℕ) (x : BoxFace) → face_of (faces_of before) k ≡ Some x
    → face_of (faces_of (before ++ defs)) k ≡ Some x
face_kept [] defs k x e = absurd (none-some x e)
face_kept (d ∷ before) defs zero x e = e
face_kept (d ∷ before) defs (suc k) x e = face_kept before defs k x e

face_here : (before : List BoxDef) (d : BoxDef) (defs : List BoxDef)
    → face_of (faces_of (before ++ (d ∷ defs))) (length before) ≡ Some d.face
face_here [] d defs = refl
face_here (x ∷ before) d defs = face_here before d defs

module _ (shapes : Shapes) where
  box_in : (before defs : List BoxDef) → AreSoundOver shapes before defs → (k : ℕ) (autos : List Automaton)
      → inside_of defs k ≡ Some autos → IsBoxOf shapes (before ++ defs) (length before + k) autos
  box_in before [] h k autos e = absurd (none-some autos e)
  box_in before (d ∷ defs) h zero autos e =
      let z : length before ≡ length before + 0 = omega arith in
      record {
        before = before;
        def = d;
        sound = h.0;
        inside = same_Some d.inside.autos autos e;
        here = subst (λ (n : ℕ). face_of (faces_of (before ++ (d ∷ defs))) n ≡ Some d.face) z (face_here before d defs);
        grow = face_kept before (d ∷ defs);
      }
  box_in before (d ∷ defs) h (suc k) autos e =
      let l = length-append before (d ∷ []) in
      let w : length (before ++ d ∷ []) ≡ length before + 1 = l in
      let z : length (before ++ d ∷ []) + k ≡ length before + suc k = omega (arith, w) in
      subst (λ (n : ℕ). IsBoxOf shapes (before ++ (d ∷ defs)) n autos) z
      (subst (λ (T : List BoxDef). IsBoxOf shapes T (length (before ++ d ∷ []) + k) autos)
      (append_assoc before (d ∷ []) defs) (box_in (before ++ d ∷ []) defs h.1 k autos e))

  -- the box of the number
  pub box_of_table : (T : List BoxDef) → AreSoundOver shapes [] T → (b : ℕ) (autos : List Automaton)
      → inside_of T b ≡ Some autos → IsBoxOf shapes T b autos
  box_of_table T h b autos e =
      let z : 0 + b ≡ b = omega arith in
      subst (λ (n : ℕ). IsBoxOf shapes T n autos) z (box_in [] T h b autos e)
