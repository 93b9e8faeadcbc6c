-- What holds of each box of a sound table, since it holds of a box where it holds of those before it.
use Rattle.std.proofs.Common.{◌≡◌, ◌<◌, ◌≤◌, inl, inr, ℕ, zero, suc, List, [], ◌∷◌, ◌++◌, length, length-append}
use Rattle.std.proofs.Common.{append_assoc, Option, Some, None, refl, sym, subst, arith}
use Rattle.std.proofs.Math.Nat.{eq-or-lt_of_le}
use Rattle.std.proofs.lemmas.Option.{same_Some}
use Rattle.fore_base.specs.declared.shape.Shapes.{Shapes}
use Rattle.ta_core.specs.Auto.{Automaton}
use Rattle.fa_core.specs.declared.boxes.BoxDef.{BoxDef}
use Rattle.fa_core.specs.declared.faces.BoxFace.{BoxFace}
use Rattle.fa_core.specs.declared.faces.Face.{Face}
use Rattle.fa_core.specs.Boxes.{SoundBox, AreSoundOver, faces_of}
use Rattle.fa_core.specs.Filled.{face_of}
use Rattle.fa_core.specs.Member.{inside_of}

-- what is said of the face of a box before, and of no other number, is said of it among all
pub face_before : (P : Option BoxFace → Type 0) → (P None → ⊥) → (before defs : List BoxDef) (b : ℕ)
    → P (face_of (faces_of before) b) → (b < length before) × P (face_of (faces_of (before ++ defs)) b)
face_before P none [] defs b h = absurd (none h)
face_before P none (d ∷ before) defs zero h = (omega arith, h)
face_before P none (d ∷ before) defs (suc b) h =
    let k = face_before P none before defs b h in let l = k.0 in (omega (arith, l), k.1)

pub face_next : (before : List BoxDef) (d : BoxDef) (defs : List BoxDef)
    → face_of (faces_of (before ++ (d ∷ defs))) (length before) ≡ Some d.face
face_next [] d defs = refl
face_next (b ∷ before) d defs = face_next before d defs

pub inside_next : (before : List BoxDef) (d : BoxDef) (defs : List BoxDef) (autos : List Automaton)
    → inside_of (before ++ (d ∷ defs)) (length before) ≡ Some autos → d.inside.autos ≡ autos
inside_next [] d defs autos e = same_Some d.inside.autos autos e
inside_next (b ∷ before) d defs autos e = inside_next before d defs autos e

module _ (shapes : Shapes) where
  abbrev pub face_of_table : List BoxDef → Face
  face_of_table T = record { shapes = shapes; boxes = faces_of T }

  module _ (P : List BoxDef → ℕ → Type 0)
      (next : (before : List BoxDef) (d : BoxDef) (defs : List BoxDef) → SoundBox (face_of_table before) before d
      → ((b : ℕ) → b < length before → P (before ++ (d ∷ defs)) b) → P (before ++ (d ∷ defs)) (length before)) where
    all_boxes : (before defs : List BoxDef) → AreSoundOver shapes before defs
        → ((b : ℕ) → b < length before → P (before ++ defs) b) → (b : ℕ) → b < length (before ++ defs)
        → P (before ++ defs) b
    all_boxes before [] h lower b l = lower b (let e = length-append before [] in omega (arith, e, l))
    all_boxes before (d ∷ defs) h lower b l =
        let e : (before ++ (d ∷ [])) ++ defs ≡ before ++ (d ∷ defs) = append_assoc before (d ∷ []) defs in
        subst (λ (T : List BoxDef). P T b) e
        (all_boxes (before ++ (d ∷ [])) defs h.1
        (λ k n. subst (λ (T : List BoxDef). P T k) (sym e)
        (either k (let z = length-append before (d ∷ []) in omega (arith, z, n))))
        b (subst (λ (T : List BoxDef). b < length T) (sym e) l))
      where
        either : (k : ℕ) → k < suc (length before) → P (before ++ (d ∷ defs)) k
        either k n = elim (eq-or-lt_of_le (below_next k (length before) n)) [
          | inl q ↦ subst (λ (z : ℕ). P (before ++ (d ∷ defs)) z) (sym q) (next before d defs h.0 lower)
          | inr l ↦ lower k l
        ]
          where
            below_next : (j m : ℕ) → j < suc m → j ≤ m
            below_next j m a = omega (arith, a)

    pub each_box : (T : List BoxDef) → AreSoundOver shapes [] T → (b : ℕ) → b < length T → P T b
    each_box T h b l = all_boxes [] T h (λ k n. absurd (omega (arith, n))) b l
