-- Lists of forests in which one box edge after the other is replaced.
use Rattle.std.proofs.Common.{◌≡◌, ℕ, ◌<◌, length, List, refl, sym, subst, ◌∙◌}
use Rattle.fore_base.specs.Lists.{IsIn, Every}
use Rattle.fore_base.proofs.ListLemmas.{every_in, every_weaker, in_every, in_map}
use Rattle.fa_core.specs.declared.boxes.BoxDef.{BoxDef}
use Rattle.fa_core.specs.declared.faces.BoxFace.{BoxFace}
use Rattle.fa_core.specs.declared.faces.Face.{Face}
use Rattle.fa_core.specs.declared.forest.Forest.{Forest}
use Rattle.fa_core.specs.declared.forest.Target.{Target}
use Rattle.fa_core.specs.declared.forest.Target.TheVariants.{At}
use Rattle.fa_core.specs.Boxes.{Boxes, IsBoxTable}
use Rattle.fa_core.specs.Filled.{IsSound}
use Rattle.fa_core.specs.Member.{RegroupsInto}
use Rattle.fa_back.specs.Insides.{AreRankedInsides}
use Rattle.fa_sound.specs.Soundness.{SoundForest, IsSigned}
use Rattle.fa_sound.specs.Unions.{forests}
use Rattle.fa_split.specs.Divided.{HasVarsOf}
use Rattle.fa_split.proofs.SplitCells.{refers_well}
use Rattle.fa_unfold.specs.Sites.{IsOver}
use Rattle.fa_unfold.specs.Unfolded.{UnfoldsFrom, UnfoldsInto}
use Rattle.fa_opening.specs.Each.{OfSome}
use Rattle.fa_opening.specs.Opened.{IsThatField, OpensFrom, OpensInto}
use Rattle.fa_opening.specs.inner.Rounds.{IsChoiceOf, IsLowered, IsNeeded}
use Rattle.fa_opening.proofs.LowerEdges.{below_regrouped, below_unfolded}
use Rattle.fa_opening.proofs.OpenedForests.{from_on, from_regrouped, into_each, into_regrouped, unfolded_opened}
use Rattle.fa_opening.proofs.PlainForests.{none_needed}
use Rattle.fa_opening.proofs.SlotEdges.{needed_edge}

-- a sound forest over the face of a table
pub over_of : (t : Boxes) (s : SoundForest) → t.face ≡ s.face → IsSigned s → IsBoxTable t → AreRankedInsides t.defs
    → IsOver t s.forest
over_of t s e signed table insides = record {
  table = table;
  insides = insides;
  sound = subst (λ (z : Face). IsSound z s.forest) (sym e) signed.sound;
  ranked = signed.ranked;
}

-- a root at which a variable is
pub root_there : (s : SoundForest) (r : ℕ) → IsSigned s → IsIn (At r) s.forest.vars → r < length s.forest.autos
root_there s r signed i = (refers_well s.face s.forest signed.sound).vars r i

pub in_forests : (ss : List SoundForest) (s : SoundForest) → IsIn s ss → IsIn s.forest (forests ss)
in_forests ss s i = in_map (λ (z : SoundForest). z.forest) s ss i

-- One edge replaced.

module _ (t : Boxes) (s : SoundForest) (face : t.face ≡ s.face) (signed : IsSigned s) (table : IsBoxTable t)
    (insides : AreRankedInsides t.defs) (r f : ℕ) (target : IsIn (At r) s.forest.vars) (u p : ℕ)
    (need : IsNeeded t.face.boxes r f s.forest u p) where
  abbrev F : Forest
  F = s.forest

  abbrev bs : List BoxFace
  bs = t.face.boxes

  over : IsOver t F
  over = over_of t s face signed table insides

  there : r < length F.autos
  there = root_there s r signed target

  one_from : (G : Forest) → UnfoldsFrom t.defs F u p G → OpensFrom bs t.defs r (IsThatField f) F G
  one_from G from e h =
      let w = from e h in (
        w.0,
        w.1,
        unfolded_opened bs r (IsThatField f) F G u p w.0 e w.2
            (f, refl, needed_edge bs t.defs F signed.ranked r f u p there need w.0 w.1 w.2.edge w.2.at),
      )

  one_into : (Gs : List Forest) → UnfoldsInto t.defs F u p Gs → OpensInto bs t.defs r (IsThatField f) F Gs
  one_into Gs into d h =
      let w = into d h in
      let o = w.2.2 in (
        w.0,
        w.1,
        (
          w.2.0,
          w.2.1,
          unfolded_opened bs r (IsThatField f) F w.0 u p d w.2.0 o
              (f, refl, needed_edge bs t.defs F signed.ranked r f u p there need d h o.edge o.at),
        ),
      )

  module _ (parts : List SoundForest) (faces : Every (λ (z : SoundForest). z.face ≡ s.face) parts)
      (vars : Every (HasVarsOf F) (forests parts)) (each : Every (UnfoldsFrom t.defs F u p) (forests parts)) where
    -- a rule chosen in one of the parts
    pub lowered : (made : List SoundForest) → Every (OfSome (IsChoiceOf r) parts) made
        → Every (IsLowered t r f F) made
    lowered made h = every_weaker (OfSome (IsChoiceOf r) parts) (IsLowered t r f F) made
        (λ z k. one z k.0 k.1 k.2) h
      where
        one : (z S : SoundForest) → IsIn S parts → IsChoiceOf r S z → IsLowered t r f F z
        one z S i k =
            let v = every_in (HasVarsOf F) (forests parts) S.forest vars (in_forests parts S i) in
            let from = every_in (UnfoldsFrom t.defs F u p) (forests parts) S.forest each (in_forests parts S i) in
            let at : IsIn (At r) S.forest.vars = subst (λ (xs : List Target). IsIn (At r) xs) (sym v.0) target in
            record {
              stage = record {
                face_kept = k.face_kept
                    ∙ every_in (λ (z : SoundForest). z.face ≡ s.face) parts S faces i ∙ sym face;
                vars_kept = (k.vars_kept.0 ∙ v.0, k.vars_kept.1 ∙ v.1);
                plain_kept = λ plain. absurd (none_needed F plain bs r f u p need);
                top = k.top;
                from = from_on bs r (IsThatField f) t.defs F S.forest z.forest v.0 target (one_from S.forest from)
                    (from_regrouped bs r (IsThatField f) t.defs S.forest z.forest (k.regroups t.defs));
              };
              lower = λ n b. below_regrouped bs t.defs r f S.forest z.forest k.vars_kept.0 at (k.regroups t.defs) n
                  (below_unfolded t F over r f S.forest v.0 target there u p
                  (needed_edge bs t.defs F signed.ranked r f u p there need) from n b);
            }

    pub lowered_whole : (made : List SoundForest) → UnfoldsInto t.defs F u p (forests parts)
        → ((S : SoundForest) → IsIn S parts → (T : List BoxDef) → RegroupsInto T S.forest (forests made))
        → OpensInto bs t.defs r (IsThatField f) F (forests made)
    lowered_whole made into whole =
        into_each bs r (IsThatField f) t.defs F parts (forests made) vars target (one_into (forests parts) into)
        (λ S i. into_regrouped bs r (IsThatField f) t.defs S.forest (forests made) (whole S i t.defs))

    -- the root is there
    pub part_roots : Every IsSigned parts → Every (λ (z : SoundForest). r < length z.forest.autos) parts
    part_roots known = in_every (λ (z : SoundForest). r < length z.forest.autos) parts
        (λ z i. root_there z r (every_in IsSigned parts z known i)
        (subst (λ (xs : List Target). IsIn (At r) xs)
        (sym (every_in (HasVarsOf F) (forests parts) z.forest vars (in_forests parts z i)).0) target))
