-- A table that grows by boxes that are written.
use Rattle.std.proofs.Common.{arith, ◌≡◌, ◌<◌, ◌≤◌, ◌+◌, ℕ, List, [], ◌∷◌, ◌++◌, length, take, Some}
use Rattle.std.proofs.Common.{get_or, sym, ap, subst, ◌∙◌, take_all, length-take-le, Result, Ok, Err, IfErr}
use Rattle.std.proofs.Common.{IsErrAnd}
use Rattle.std.proofs.lemmas.Option.{slice_get-get_or}
use Rattle.fore_base.specs.Lists.{Paired}
use Rattle.fore_base.specs.declared.shape.Shapes.{Shapes}
use Rattle.fore_base.proofs.ListLemmas.{paired_push, paired_long, take_item}
use Rattle.fa_core.specs.Boxes.{Boxes, IsBoxTable, AreSoundOver, faces_of}
use Rattle.fa_core.specs.declared.boxes.BoxDef.{BoxDef}
use Rattle.fa_core.specs.declared.faces.BoxFace.{BoxFace}
use Rattle.fa_core.specs.declared.faces.Face.{Face}
use Rattle.fa_box_rules.specs.Rules.{IsWellNamed, BreaksFirst}
use Rattle.fa_box_rules.specs.declared.rule.BoxRule.{BoxRule}
use Rattle.fa_written.specs.declared.draft.BoxDraft.{BoxDraft}
use Rattle.fa_named.specs.declared.named.NamedBox.{NamedBox}
use Rattle.fa_text.specs.Files.{HasFace, AreBoxes, face_over, bare, IsFirstBroken}
use Rattle.fa_text.specs.declared.fault.BoxFault.{BoxFault}
use Rattle.fa_text.specs.declared.fault.BoxFault.TheVariants.{Rule, Limit, Memory}
use Rattle.fa_text.specs.inner.Next.{IsNext, AreNext, IsMade, IsRefused, IsBroken}

-- Faces

abbrev face_with : Shapes → List BoxFace → Face
face_with shapes bs = record { shapes = shapes; boxes = bs }

pub face_is : (t : Boxes) → t.face.boxes ≡ faces_of t.defs → t.face ≡ face_over t.face.shapes t.defs
face_is t e = ap (λ (bs : List BoxFace). face_with t.face.shapes bs) e

pub next_named : (t : Boxes) (n : NamedBox) → t.face.boxes ≡ faces_of t.defs → IsNext t.face.shapes t.defs n
    → IsWellNamed t.face (bare n)
next_named t n e h = subst (λ (face : Face). IsWellNamed face (bare n)) (sym (face_is t e)) h.named

-- Steps

pub next_at : (shapes : Shapes) (named : List NamedBox) (i : ℕ) (t : Boxes) (n : NamedBox) → AreNext shapes [] named
    → IsMade shapes named i t → i < length named → n ≡ get_or named i n → IsNext t.face.shapes t.defs n
next_at shapes named i t n next made lt is =
    subst (λ (hs : Shapes). IsNext hs t.defs n) (sym made.shapes)
    (next i t.defs n made.boxes (slice_get-get_or named i n lt ∙ ap Some (sym is)))

pub made_more : (shapes : Shapes) (named : List NamedBox) (i : ℕ) (t u : Boxes) (n : NamedBox) (b : BoxDef)
    → IsMade shapes named i t → i < length named → n ≡ get_or named i n → HasFace n b → u.defs ≡ t.defs ++ b ∷ []
    → u.face.shapes ≡ t.face.shapes → IsMade shapes named (i + 1) u
made_more shapes named i t u n b made lt is face defs same = record {
  shapes = same ∙ made.shapes;
  boxes = subst (λ (xs : List NamedBox). Paired HasFace xs u.defs) (sym (take_item named i n lt is))
      (subst (λ (bs : List BoxDef). Paired HasFace (take i named ++ n ∷ []) bs) (sym defs)
      (paired_push HasFace (take i named) t.defs n b made.boxes face));
}

-- The end

pub made_boxes : (shapes : Shapes) (named : List NamedBox) (i : ℕ) (t : Boxes) → IsMade shapes named i t
    → length named ≤ i → IsBoxTable t → AreBoxes shapes named t.defs
made_boxes shapes named i t made le table = (
  subst (λ (xs : List NamedBox). Paired HasFace xs t.defs) (take_all i named le) made.boxes,
  subst (λ (hs : Shapes). AreSoundOver hs [] t.defs) made.shapes table.sound,
)

pub made_face : (shapes : Shapes) (named : List NamedBox) (i : ℕ) (t : Boxes) → IsMade shapes named i t → IsBoxTable t
    → t.face ≡ face_over shapes t.defs
made_face shapes named i t made table =
    face_is t table.faces ∙ ap (λ (hs : Shapes). face_over hs t.defs) made.shapes

-- a box that breaks a rule is the first
pub first_broken : (shapes : Shapes) (drafts : List BoxDraft) (named : List NamedBox) (i : ℕ) (t : Boxes) (n : NamedBox)
    (d : BoxDraft) (at : ℕ) (fault : BoxFault) → IsMade shapes named i t → IsBoxTable t → i < length named
    → n ≡ get_or named i n
    → i < length drafts → d ≡ get_or drafts i d → at ≡ d.head.line → IsRefused t n at fault
    → IsBroken shapes drafts named fault
first_broken shapes drafts named i t n d at (Rule rule line) made table lt is few here on h =
    let long : length t.defs ≡ i =
    sym (paired_long HasFace (take i named) t.defs made.boxes) ∙ length-take-le i named (omega (arith, lt)) in
    (h.1, h.2, broken h.1 long h.3)
  where
    broken : (r : BoxRule) → length t.defs ≡ i → BreaksFirst t.face t.defs (bare n) r
        → IsFirstBroken shapes drafts named r line
    broken r long breaks = record {
      before = t.defs;
      draft = d;
      box = n;
      draft_at = rw long (slice_get-get_or drafts i d few ∙ ap Some (sym here));
      box_at = rw long (slice_get-get_or named i n lt ∙ ap Some (sym is));
      boxes = rw long (made.boxes, subst (λ (hs : Shapes). AreSoundOver hs [] t.defs) made.shapes table.sound);
      place = h.0 ∙ on;
      breaks = subst (λ (face : Face). BreaksFirst face t.defs (bare n) r) (made_face shapes named i t made table)
          breaks;
    }
first_broken shapes drafts named i t n d at (Limit line) made table lt is few here on h = absurd h
first_broken shapes drafts named i t n d at Memory made table lt is few here on h = tt

-- what the exit of a `?` returns
pub passed : {T : Type 0} (r : Result T BoxFault) (P : BoxFault → Type 0) (f : BoxFault) → IsErrAnd r (λ e. e ≡ f) → P f
    → IfErr r P
passed (Ok x) P f h p = absurd h
passed (Err e) P f h p = subst P (sym h) p
