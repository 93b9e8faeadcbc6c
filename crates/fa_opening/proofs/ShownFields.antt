-- Forests in which a field is shown, made of those without box edges for it.
use Rattle.std.proofs.Common.{◌≡◌, ℕ, List, sym, subst, ◌∙◌}
use Rattle.fore_base.specs.Lists.{IsIn, Every}
use Rattle.fore_base.proofs.ListLemmas.{every_in, every_weaker, in_every}
use Rattle.fa_core.specs.declared.boxes.BoxDef.{BoxDef}
use Rattle.fa_core.specs.declared.faces.BoxFace.{BoxFace}
use Rattle.fa_core.specs.declared.faces.Face.{Face}
use Rattle.fa_core.specs.declared.forest.Forest.{Forest}
use Rattle.fa_core.specs.declared.forest.Target.TheVariants.{At}
use Rattle.fa_core.specs.Boxes.{Boxes, IsBoxTable}
use Rattle.fa_core.specs.Member.{RegroupsInto}
use Rattle.fa_core.proofs.TablesGive.{tables_give}
use Rattle.fa_sound.specs.Soundness.{SoundForest}
use Rattle.fa_sound.specs.Unions.{forests}
use Rattle.fa_split.specs.Divided.{HasVarsOf}
use Rattle.fa_split.specs.Giving.{RulesGive}
use Rattle.fa_split.proofs.LinksGive.{faces_give}
use Rattle.fa_edit.specs.Plain.{IsPlainAt}
use Rattle.fa_opening.specs.Each.{OfSome}
use Rattle.fa_opening.specs.Opened.{IsBared, IsThatField, OpensFrom, OpensInto, StaysPlain}
use Rattle.fa_opening.specs.inner.Showing.{IsBaredPart, IsShownOf}
use Rattle.fa_opening.proofs.OpenedForests.{from_on, from_regrouped, into_each, into_regrouped}
use Rattle.fa_opening.proofs.Rounds.{every_forest}
use Rattle.fa_opening.proofs.Steps.{in_forests}

-- the parts can be split
pub shown_parts : (t : Boxes) (s : SoundForest) → t.face ≡ s.face → IsBoxTable t → (r f : ℕ) (parts : List SoundForest)
    → Every (IsBared s.face.boxes r f) (forests parts) → Every (λ (z : SoundForest). z.face ≡ s.face) parts
    → Every (IsBaredPart r f) parts
shown_parts t s face table r f parts bared faces = in_every (IsBaredPart r f) parts
    (λ S i.
    (let e = every_in (λ (z : SoundForest). z.face ≡ s.face) parts S faces i in
    record {
      bared = subst (λ (x : Face). IsBared x.boxes r f S.forest) (sym e)
          (every_in (IsBared s.face.boxes r f) (forests parts) S.forest bared (in_forests parts S i));
      gives = subst (λ (x : Face). Every (RulesGive x.boxes) S.forest.autos) (face ∙ sym e)
          (faces_give t.face.boxes (tables_give t table) S.forest.autos);
    }))

module _ (s : SoundForest) (r f : ℕ) (parts : List SoundForest)
    (faces : Every (λ (z : SoundForest). z.face ≡ s.face) parts) (made : List SoundForest)
    (h : Every (OfSome (IsShownOf r f) parts) made) where
  same_face : (S : SoundForest) → IsIn S parts → S.face ≡ s.face
  same_face S i = every_in (λ (z : SoundForest). z.face ≡ s.face) parts S faces i

  pub shown_plain : Every (λ (G : Forest). IsPlainAt s.face.shapes.structs G r f) (forests made)
  shown_plain = every_forest (λ G. IsPlainAt s.face.shapes.structs G r f) made
      (every_weaker (OfSome (IsShownOf r f) parts) (λ z. IsPlainAt s.face.shapes.structs z.forest r f) made
      (λ z k. subst (λ (x : Face). IsPlainAt x.shapes.structs z.forest r f) (same_face k.0 k.1) k.2.plain) h)

  pub shown_face : Every (λ (z : SoundForest). z.face ≡ s.face) made
  shown_face = every_weaker (OfSome (IsShownOf r f) parts) (λ z. z.face ≡ s.face) made
      (λ z k. k.2.face_kept ∙ same_face k.0 k.1) h

module _ (s : SoundForest) (r f : ℕ) (parts : List SoundForest) (vars : Every (HasVarsOf s.forest) (forests parts))
    (made : List SoundForest) (h : Every (OfSome (IsShownOf r f) parts) made) where
  pub shown_vars : Every (HasVarsOf s.forest) (forests made)
  shown_vars = every_forest (HasVarsOf s.forest) made
      (every_weaker (OfSome (IsShownOf r f) parts) (λ z. HasVarsOf s.forest z.forest) made (λ z k. one z k.0 k.1 k.2) h)
    where
      one : (z S : SoundForest) → IsIn S parts → IsShownOf r f S z → HasVarsOf s.forest z.forest
      one z S i k =
          let v = every_in (HasVarsOf s.forest) (forests parts) S.forest vars (in_forests parts S i) in
          (k.vars_kept.0 ∙ v.0, k.vars_kept.1 ∙ v.1)

-- none has box edges where the first forest has none
pub shown_stays : (F : Forest) (r f : ℕ) (parts : List SoundForest) → Every (StaysPlain F) (forests parts)
    → (made : List SoundForest) → Every (OfSome (IsShownOf r f) parts) made → Every (StaysPlain F) (forests made)
shown_stays F r f parts stays made h = every_forest (StaysPlain F) made
    (every_weaker (OfSome (IsShownOf r f) parts) (λ z. StaysPlain F z.forest) made
    (λ z k none.
    k.2.plain_kept
    (every_in (StaysPlain F) (forests parts) k.0.forest stays (in_forests parts k.0 k.1) none)) h)

module _ (s : SoundForest) (T : List BoxDef) (r f : ℕ) (target : IsIn (At r) s.forest.vars) (parts : List SoundForest)
    (vars : Every (HasVarsOf s.forest) (forests parts)) where
  abbrev bs : List BoxFace
  bs = s.face.boxes

  pub shown_from : Every (OpensFrom bs T r (IsThatField f) s.forest) (forests parts) → (made : List SoundForest)
      → Every (OfSome (IsShownOf r f) parts) made → Every (OpensFrom bs T r (IsThatField f) s.forest) (forests made)
  shown_from each made h = every_forest (OpensFrom bs T r (IsThatField f) s.forest) made
      (every_weaker (OfSome (IsShownOf r f) parts) (λ z. OpensFrom bs T r (IsThatField f) s.forest z.forest) made
      (λ z k. one z k.0 k.1 k.2) h)
    where
      one : (z S : SoundForest) → IsIn S parts → IsShownOf r f S z
          → OpensFrom bs T r (IsThatField f) s.forest z.forest
      one z S i k =
          let j = in_forests parts S i in
          from_on bs r (IsThatField f) T s.forest S.forest z.forest
          (every_in (HasVarsOf s.forest) (forests parts) S.forest vars j).0 target
          (every_in (OpensFrom bs T r (IsThatField f) s.forest) (forests parts) S.forest each j)
          (from_regrouped bs r (IsThatField f) T S.forest z.forest (k.regroups T))

  pub shown_whole : OpensInto bs T r (IsThatField f) s.forest (forests parts) → (made : List SoundForest)
      → ((S : SoundForest) → IsIn S parts → (T : List BoxDef) → RegroupsInto T S.forest (forests made))
      → OpensInto bs T r (IsThatField f) s.forest (forests made)
  shown_whole into made whole =
      into_each bs r (IsThatField f) T s.forest parts (forests made) vars target into
      (λ S i. into_regrouped bs r (IsThatField f) T S.forest (forests made) (whole S i T))
