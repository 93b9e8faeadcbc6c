-- A box edge of a sound forest unfolded: what its parts give together.
use Rattle.std.proofs.Common.{◌≡◌, inl, inr, ℕ, List, ◌++◌, sym, subst, ◌∙◌}
use Rattle.fore_base.specs.Lists.{IsIn, Every}
use Rattle.fore_base.proofs.ListLemmas.{every_in, every_map, every_weaker, in_every, in_map, in_mapped}
use Rattle.fa_core.specs.declared.boxes.BoxDef.{BoxDef}
use Rattle.fa_core.specs.declared.faces.Face.{Face}
use Rattle.fa_core.specs.declared.forest.Forest.{Forest}
use Rattle.fa_core.specs.Boxes.{Boxes, IsBoxTable}
use Rattle.fa_core.proofs.TablesGive.{tables_give}
use Rattle.fa_sound.specs.Soundness.{SoundForest, IsSigned}
use Rattle.fa_sound.specs.Unions.{forests}
use Rattle.fa_split.specs.Divided.{HasVarsOf}
use Rattle.fa_split.specs.Giving.{RulesGive}
use Rattle.fa_split.specs.Split.{AreSplit, CanSplit, IsSplitOf}
use Rattle.fa_split.proofs.LinksGive.{faces_give}
use Rattle.fa_unfold.specs.Sites.{IsLinkAtSlot, child_place}
use Rattle.fa_unfold.specs.Unfolded.{UnfoldsFrom, UnfoldsInto}
use Rattle.fa_unfold.specs.UnfoldingOf.{HaveMembersOf, IsSplitAt, IsUnfoldingOf}
use Rattle.fa_unfold.specs.inner.Cuts.{HasLinkAt, IsUnfolded, IsUnfoldedHook, IsUnfoldedLink}
use Rattle.fa_unfold.specs.inner.Cuts.{IsUnfoldedPart}
use Rattle.fa_unfold.proofs.CutLists.{forests_left, forests_right}
use Rattle.fa_unfold.proofs.SplitLinks.{link_can_split, split_link}
use Rattle.fa_unfold.proofs.SplitUnfoldings.{split_from, split_into}
use Rattle.fa_unfold.proofs.UnfoldedMembers.{members_into, members_from}

-- What the contract says of each forest, and of all together.

every_forest : (P : Forest → Type 0) (ss : List SoundForest) → Every (λ s. P s.forest) ss → Every P (forests ss)
every_forest P ss h = every_map (λ (s : SoundForest). s.forest) P ss h

module _ (t : Boxes) (F : Forest) (i p : ℕ) (ss : List SoundForest) (h : Every (IsUnfolded t F i p) ss) where
  pub unfolded_named : Every (IsUnfoldingOf t F i p) (forests ss)
  unfolded_named = every_forest (IsUnfoldingOf t F i p) ss
      (every_weaker (IsUnfolded t F i p) (λ s. IsUnfoldingOf t F i p s.forest) ss (λ s u. (u.opened, u.by, u.parts)) h)

  pub unfolded_face : (s : SoundForest) → t.face ≡ s.face → Every (λ (z : SoundForest). z.face ≡ s.face) ss
  unfolded_face s e = every_weaker (IsUnfolded t F i p) (λ z. z.face ≡ s.face) ss (λ z u. u.face_kept ∙ e) h

  pub unfolded_vars : Every (HasVarsOf F) (forests ss)
  unfolded_vars = every_forest (HasVarsOf F) ss
      (every_weaker (IsUnfolded t F i p) (λ s. HasVarsOf F s.forest) ss (λ s u. u.vars_kept) h)

  pub unfolded_each : Every (UnfoldsFrom t.defs F i p) (forests ss)
  unfolded_each = every_forest (UnfoldsFrom t.defs F i p) ss
      (every_weaker (IsUnfolded t F i p) (λ s. UnfoldsFrom t.defs F i p s.forest) ss (λ s u. u.from) h)

-- none of the members is lost, and none is new
pub members_of : (T : List BoxDef) (F : Forest) (i p : ℕ) (Gs : List Forest) → Every (UnfoldsFrom T F i p) Gs
    → UnfoldsInto T F i p Gs → HaveMembersOf T F Gs
members_of T F i p Gs each whole hs s = (
  (λ h. members_into hs T F i p Gs whole s h),
  (λ h. members_from hs T F i p h.0 (every_in (UnfoldsFrom T F i p) Gs h.0 each h.1) s h.2),
)

-- Lists of forests that are unfolded one after the other.

pub part_more : (t : Boxes) (i p : ℕ) (parts more : List SoundForest)
    → ((S : SoundForest) → IsIn S parts → IsIn S more) → (s : SoundForest) → IsUnfoldedPart t parts i p s
    → IsUnfoldedPart t more i p s
part_more t i p parts more f s u = (u.0, f u.0 u.1, u.2)

pub parts_of : (t : Boxes) (i p : ℕ) (parts : List SoundForest) (S : SoundForest) → IsIn S parts
    → (ss : List SoundForest) → Every (IsUnfoldedLink t S.forest i p) ss → Every (IsUnfoldedPart t parts i p) ss
parts_of t i p parts S k ss h =
    every_weaker (IsUnfoldedLink t S.forest i p) (IsUnfoldedPart t parts i p) ss (λ s u. (S, k, u)) h

pub into_left : (T : List BoxDef) (F : Forest) (i p : ℕ) (xs ys : List SoundForest)
    → UnfoldsInto T F i p (forests xs) → UnfoldsInto T F i p (forests (xs ++ ys))
into_left T F i p xs ys u = λ d h. (let w = u d h in (w.0, forests_left xs ys w.0 w.1, w.2))

pub into_right : (T : List BoxDef) (F : Forest) (i p : ℕ) (xs ys : List SoundForest)
    → UnfoldsInto T F i p (forests ys) → UnfoldsInto T F i p (forests (xs ++ ys))
into_right T F i p xs ys u = λ d h. (let w = u d h in (w.0, forests_right xs ys w.0 w.1, w.2))

-- A Hook.

pub hooks_unfolded : (t : Boxes) (F : Forest) (i p : ℕ) (ss : List SoundForest) → Every (IsUnfoldedHook t F i p) ss
    → Every (IsUnfolded t F i p) ss
hooks_unfolded t F i p ss h = every_weaker (IsUnfoldedHook t F i p) (IsUnfolded t F i p) ss
    (λ s u.
    record {
      opened = u.opened;
      by = inl u.by;
      parts = u.parts;
      face_kept = u.face_kept;
      vars_kept = u.vars_kept;
      from = u.from;
    }) h

-- A Link.

pub split_at : (T : List BoxDef) (F : Forest) (i c : ℕ) (G : Forest) → IsSplitOf T F i c G → IsSplitAt F i c G
split_at T F i c G (inl (y, m, e, covers, same)) = inl (y, m, e)
split_at T F i c G (inr (m, e, same)) = inr (m, e)

module _ (t : Boxes) (s : SoundForest) (face : t.face ≡ s.face) (signed : IsSigned s) (i p b : ℕ)
    (at : IsLinkAtSlot s.forest i p b) where
  abbrev F : Forest
  F = s.forest

  abbrev c : ℕ
  c = child_place F i p

  pub can_split : CanSplit F i c
  can_split = link_can_split F i p b at

  pub rules_give : IsBoxTable t → Every (RulesGive s.face.boxes) F.autos
  rules_give table = subst (λ (f : Face). Every (RulesGive f.boxes) F.autos) face
      (faces_give t.face.boxes (tables_give t table) F.autos)

  module _ (parts : List SoundForest) (dressed : Every (IsSplitOf t.defs F i c) (forests parts)) where
    split_of : (S : SoundForest) → IsIn S parts → IsSplitOf t.defs F i c S.forest
    split_of S k = every_in (IsSplitOf t.defs F i c) (forests parts) S.forest dressed
        (in_map (λ (z : SoundForest). z.forest) S parts k)

    -- each of the forests has the Link, with one leaf at its end
    pub parts_linked : Every (λ (S : SoundForest). HasLinkAt S.forest i p b) parts
    parts_linked = in_every (λ (S : SoundForest). HasLinkAt S.forest i p b) parts
        (λ S k. split_link F i p b at t.defs s.face signed.ranked signed.sound S.forest (split_of S k))

    pub parts_unfolded : Every (HasVarsOf F) (forests parts) → (ss : List SoundForest)
        → Every (IsUnfoldedPart t parts i p) ss → Every (IsUnfolded t F i p) ss
    parts_unfolded vars ss h = every_weaker (IsUnfoldedPart t parts i p) (IsUnfolded t F i p) ss
        (λ z u. one z u.0 u.1 u.2) h
      where
        one : (z S : SoundForest) → IsIn S parts → IsUnfoldedLink t S.forest i p z → IsUnfolded t F i p z
        one z S k u =
            let v = every_in (HasVarsOf F) (forests parts) S.forest vars
            (in_map (λ (x : SoundForest). x.forest) S parts k) in
            let o = split_of S k in
            record {
              opened = u.opened;
              by = inr (S.forest, split_at t.defs F i c S.forest o, u.by);
              parts = u.parts;
              face_kept = u.face_kept;
              vars_kept = (u.vars_kept.0 ∙ v.0, u.vars_kept.1 ∙ v.1);
              from = split_from t.defs s.face F i c signed.ranked can_split signed.sound p S.forest z.forest o u.from;
            }

    pub parts_whole : AreSplit F i c (forests parts) → (ss : List SoundForest)
        → ((S : SoundForest) → IsIn S parts → UnfoldsInto t.defs S.forest i p (forests ss))
        → UnfoldsInto t.defs F i p (forests ss)
    parts_whole are ss h =
        split_into t.defs s.face F i c signed.ranked can_split signed.sound p (forests parts) (forests ss) are
        (λ G k.
        (let m = in_mapped (λ (z : SoundForest). z.forest) G parts k in
        subst (λ (z : Forest). UnfoldsInto t.defs z i p (forests ss)) (sym m.2) (h m.0 m.1)))
