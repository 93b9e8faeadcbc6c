-- Rounds: in each, one box edge is replaced in each of the forests that has one.
use Rattle.std.proofs.Common.{◌≡◌, inl, inr, ℕ, suc, false, true≢false, length, List, [], ◌∷◌, refl, sym}
use Rattle.std.proofs.Common.{subst, ◌∙◌, Option, Some, None, slice_get}
use Rattle.fore_base.specs.Lists.{IsIn, Every}
use Rattle.fore_base.proofs.ListLemmas.{every_in, every_map, every_weaker, in_every, in_from_place}
use Rattle.ta_core.specs.Single.{HasOneTop}
use Rattle.ta_core.specs.declared.symbol.Slot.{Slot}
use Rattle.fa_core.specs.declared.boxes.BoxDef.{BoxDef}
use Rattle.fa_core.specs.declared.faces.BoxFace.{BoxFace}
use Rattle.fa_core.specs.declared.faces.Face.{Face}
use Rattle.fa_core.specs.declared.forest.Forest.{Forest}
use Rattle.fa_core.specs.declared.forest.Target.{Target}
use Rattle.fa_core.specs.declared.forest.Target.TheVariants.{At}
use Rattle.fa_core.specs.Boxes.{Boxes, IsBoxTable}
use Rattle.fa_core.specs.Boxless.{HasNoBoxes}
use Rattle.fa_core.specs.Dressed.{cells}
use Rattle.fa_core.specs.Member.{Regroups, RegroupsInto}
use Rattle.fa_core.proofs.Rearranging.{same}
use Rattle.fa_back.specs.Insides.{AreRankedInsides}
use Rattle.fa_sound.specs.Components.{component_at}
use Rattle.fa_sound.specs.Soundness.{SoundForest, IsSigned}
use Rattle.fa_sound.specs.Unions.{forests}
use Rattle.fa_split.specs.Divided.{HasVarsOf}
use Rattle.fa_lift.specs.Lift.{IsLiftOf, IsProvider}
use Rattle.fa_unfold.specs.UnfoldingOf.{root_slots}
use Rattle.fa_opening.specs.Each.{OfSome}
use Rattle.fa_opening.specs.Opened.{IsBared, IsThatField, OpensFrom, OpensInto, StaysPlain, slot_covers}
use Rattle.fa_opening.specs.inner.Rounds.{HasGiver, IsAtRoot, IsChoiceOf, IsCoverAt, IsLowered, IsReady}
use Rattle.fa_opening.specs.inner.Rounds.{IsRound, IsStepped}
use Rattle.fa_opening.proofs.BaredRoots.{bared}
use Rattle.fa_opening.proofs.LiftedGivers.{lifted_giver}
use Rattle.fa_opening.proofs.LowerEdges.{below_first, below_regrouped}
use Rattle.fa_opening.proofs.OpenedForests.{from_on, from_regrouped, from_self, into_each, into_regrouped}
use Rattle.fa_opening.proofs.OpenedForests.{regrouped_opened}
use Rattle.fa_opening.proofs.Steps.{in_forests, over_of, root_there}

-- Lists.

pub some_more : (R : SoundForest → SoundForest → Type 0) (parts more made : List SoundForest)
    → ((S : SoundForest) → IsIn S parts → IsIn S more) → Every (OfSome R parts) made → Every (OfSome R more) made
some_more R parts more made g h =
    every_weaker (OfSome R parts) (OfSome R more) made (λ s k. (k.0, g k.0 k.1, k.2)) h

pub some_of : (R : SoundForest → SoundForest → Type 0) (parts : List SoundForest) (S : SoundForest) → IsIn S parts
    → (made : List SoundForest) → Every (R S) made → Every (OfSome R parts) made
some_of R parts S i made h = every_weaker (R S) (OfSome R parts) made (λ s k. (S, i, k)) h

pub every_forest : (P : Forest → Type 0) (ss : List SoundForest) → Every (λ s. P s.forest) ss → Every P (forests ss)
every_forest P ss h = every_map (λ (s : SoundForest). s.forest) P ss h

-- the forests with one rule chosen at a root
pub choices : (r : ℕ) (S : SoundForest) (made : List SoundForest)
    → Every (λ (s : SoundForest). s.face ≡ S.face) made → Every (HasVarsOf S.forest) (forests made)
    → Every (λ (G : Forest). HasOneTop (component_at G.autos r)) (forests made)
    → ((T : List BoxDef) → Every (Regroups T S.forest) (forests made)) → Every (IsChoiceOf r S) made
choices r S made faces vars tops regroups = in_every (IsChoiceOf r S) made
    (λ s i. (let j = in_forests made s i in
    record {
      face_kept = every_in (λ (s : SoundForest). s.face ≡ S.face) made s faces i;
      vars_kept = every_in (HasVarsOf S.forest) (forests made) s.forest vars j;
      top = every_in (λ (G : Forest). HasOneTop (component_at G.autos r)) (forests made) s.forest tops j;
      regroups = λ T. every_in (Regroups T S.forest) (forests made) s.forest (regroups T) j;
    }))

-- a root of which a slot covers the field has one
pub covered_not_bared : (bs : List BoxFace) (r f : ℕ) (F : Forest) (p : ℕ)
    → IsCoverAt bs f (slice_get (root_slots F r) p) → IsBared bs r f F → ⊥
covered_not_bared bs r f F p h b = here (slice_get (root_slots F r) p) refl h
  where
    here : (o : Option Slot) → slice_get (root_slots F r) p ≡ o → IsCoverAt bs f o → ⊥
    here None e k = k
    here (Some s) e k =
        true≢false
        (sym k
        ∙ every_in (λ s. slot_covers bs f s ≡ false) (root_slots F r) s b.covered
        (in_from_place (root_slots F r) p s e))

module _ (t : Boxes) (r f : ℕ) where
  abbrev bs : List BoxFace
  bs = t.face.boxes

  abbrev T : List BoxDef
  T = t.defs

  -- Of one forest.

  -- one edge replaced, where there is one
  pub stepped : (F : Forest) → (IsBared bs r f F → ⊥) → (made : List SoundForest) → Every (IsLowered t r f F) made
      → Every (IsStepped t r f F) made
  stepped F covered made h = every_weaker (IsLowered t r f F) (IsStepped t r f F) made
      (λ s k. record {
        stage = k.stage;
        less = λ n w. elim w [ inl b ↦ absurd (covered b) | inr a ↦ inr (k.lower n a) ];
      })
      h

  -- and none, where there is none
  pub stays_bared : (s : SoundForest) → IsReady t r s → IsBared bs r f s.forest
      → Every (IsStepped t r f s.forest) (s ∷ [])
  stays_bared s ready b = (
    record {
      stage = record {
        face_kept = sym ready.at.face;
        vars_kept = (refl, refl);
        plain_kept = λ plain. plain;
        top = ready.top;
        from = from_self bs r (IsThatField f) T s.forest;
      };
      less = λ n w. inl b;
    },
    tt,
  )

  pub stays_whole : (s : SoundForest) → OpensInto bs T r (IsThatField f) s.forest (forests (s ∷ []))
  stays_whole s d h = (
    s.forest,
    inl refl,
    (d, h, regrouped_opened bs r (IsThatField f) s.forest s.forest d d (same (cells d)) refl refl),
  )

  -- A lifted forest.

  module _ (s : SoundForest) (face : t.face ≡ s.face) (signed : IsSigned s) (target : IsIn (At r) s.forest.vars)
      (parts : List SoundForest) (faces : Every (λ (z : SoundForest). z.face ≡ s.face) parts)
      (vars : Every (HasVarsOf s.forest) (forests parts)) where
    part_vars : (S : SoundForest) → IsIn S parts → HasVarsOf s.forest S.forest
    part_vars S i = every_in (HasVarsOf s.forest) (forests parts) S.forest vars (in_forests parts S i)

    part_ready : (S : SoundForest) → IsIn S parts → IsAtRoot t r S
    part_ready S i = record {
      face = face ∙ sym (every_in (λ (z : SoundForest). z.face ≡ s.face) parts S faces i);
      target = subst (λ (xs : List Target). IsIn (At r) xs) (sym (part_vars S i).0) target;
    }

    pub parts_give : (k : ℕ) → IsProvider s.face.boxes s.forest r f k
        → Every (IsLiftOf s.face.boxes s.forest r f k) (forests parts)
        → Every (λ (z : SoundForest). IsAtRoot t r z × HasGiver bs r f z.forest) parts
    parts_give k h lifts = in_every (λ (z : SoundForest). IsAtRoot t r z × HasGiver bs r f z.forest) parts
        (λ S i. (
          part_ready S i,
          subst (λ (x : Face). HasGiver x.boxes r f S.forest) (sym face)
              (lifted_giver s.face.boxes r f s.forest k signed.ranked h.there S.forest
              (every_in (IsLiftOf s.face.boxes s.forest r f k) (forests parts) S.forest lifts (in_forests parts S i))),
        ))

    pub lifted_lowered : (Every HasNoBoxes s.forest.autos → ⊥) → Every (Regroups T s.forest) (forests parts)
        → (made : List SoundForest)
        → Every (OfSome (λ S. IsLowered t r f S.forest) parts) made → Every (IsLowered t r f s.forest) made
    lifted_lowered boxed regroups made h =
        every_weaker (OfSome (λ S. IsLowered t r f S.forest) parts) (IsLowered t r f s.forest) made
        (λ z k. one z k.0 k.1 k.2) h
      where
        one : (z S : SoundForest) → IsIn S parts → IsLowered t r f S.forest z → IsLowered t r f s.forest z
        one z S i k =
            let v = part_vars S i in
            let c = every_in (Regroups T s.forest) (forests parts) S.forest regroups (in_forests parts S i) in
            record {
              stage = record {
                face_kept = k.stage.face_kept;
                vars_kept = (k.stage.vars_kept.0 ∙ v.0, k.stage.vars_kept.1 ∙ v.1);
                plain_kept = λ plain. absurd (boxed plain);
                top = k.stage.top;
                from = from_on bs r (IsThatField f) T s.forest S.forest z.forest v.0 target
                    (from_regrouped bs r (IsThatField f) T s.forest S.forest c) k.stage.from;
              };
              lower = λ n b. k.lower n (below_regrouped bs T r f s.forest S.forest v.0 target c (suc n) b);
            }

    pub lifted_whole : RegroupsInto T s.forest (forests parts) → (made : List SoundForest)
        → ((S : SoundForest) → IsIn S parts → OpensInto bs T r (IsThatField f) S.forest (forests made))
        → OpensInto bs T r (IsThatField f) s.forest (forests made)
    lifted_whole into made whole =
        into_each bs r (IsThatField f) T s.forest parts (forests made) vars target
        (into_regrouped bs r (IsThatField f) T s.forest (forests parts) into) whole

  -- Round after round.

  module _ (F : Forest) (target : IsIn (At r) F.vars) where
    pub round_ready : (k : ℕ) (made : List SoundForest) → Every (IsRound t r f F k) made → Every (IsReady t r) made
    round_ready k made h = every_weaker (IsRound t r f F k) (IsReady t r) made
        (λ s w. record {
          at = record {
            face = sym w.stage.face_kept;
            target = subst (λ (xs : List Target). IsIn (At r) xs) (sym w.stage.vars_kept.0) target;
          };
          top = w.stage.top;
        })
        h

    pub round_next : (k : ℕ) (parts made : List SoundForest) → Every (IsRound t r f F (suc k)) parts
        → Every (OfSome (λ S. IsStepped t r f S.forest) parts) made → Every (IsRound t r f F k) made
    round_next k parts made rounds h =
        every_weaker (OfSome (λ S. IsStepped t r f S.forest) parts) (IsRound t r f F k) made
        (λ z w. one z w.0 w.1 w.2) h
      where
        one : (z S : SoundForest) → IsIn S parts → IsStepped t r f S.forest z → IsRound t r f F k z
        one z S i w =
            let o = every_in (IsRound t r f F (suc k)) parts S rounds i in
            record {
              stage = record {
                face_kept = w.stage.face_kept;
                vars_kept = (
                  w.stage.vars_kept.0 ∙ o.stage.vars_kept.0,
                  w.stage.vars_kept.1 ∙ o.stage.vars_kept.1,
                );
                plain_kept = λ plain. w.stage.plain_kept (o.stage.plain_kept plain);
                top = w.stage.top;
                from = from_on bs r (IsThatField f) T F S.forest z.forest o.stage.vars_kept.0 target o.stage.from
                    w.stage.from;
              };
              left = w.less k o.left;
            }

    round_vars : (k : ℕ) (made : List SoundForest) → Every (IsRound t r f F k) made
        → Every (HasVarsOf F) (forests made)
    round_vars k made h = every_forest (HasVarsOf F) made
        (every_weaker (IsRound t r f F k) (λ s. HasVarsOf F s.forest) made (λ s w. w.stage.vars_kept) h)

    pub round_whole : (k : ℕ) (parts made : List SoundForest) → Every (IsRound t r f F k) parts
        → OpensInto bs T r (IsThatField f) F (forests parts)
        → ((S : SoundForest) → IsIn S parts → OpensInto bs T r (IsThatField f) S.forest (forests made))
        → OpensInto bs T r (IsThatField f) F (forests made)
    round_whole k parts made rounds into whole =
        into_each bs r (IsThatField f) T F parts (forests made) (round_vars k parts rounds) target into whole

  -- the first round
  pub round_first : (s : SoundForest) → t.face ≡ s.face → IsSigned s → IsBoxTable t → AreRankedInsides t.defs
      → IsIn (At r) s.forest.vars → (made : List SoundForest) → Every (λ (z : SoundForest). z.face ≡ s.face) made
      → Every (HasVarsOf s.forest) (forests made)
      → (Every HasNoBoxes s.forest.autos → Every (λ (G : Forest). Every HasNoBoxes G.autos) (forests made))
      → Every (λ (G : Forest). HasOneTop (component_at G.autos r)) (forests made)
      → Every (Regroups T s.forest) (forests made) → Every (IsRound t r f s.forest (length T)) made
  round_first s face signed table insides target made faces vars plains tops regroups =
      in_every (IsRound t r f s.forest (length T)) made (λ z i. one z i (in_forests made z i))
    where
      one : (z : SoundForest) → IsIn z made → IsIn z.forest (forests made) → IsRound t r f s.forest (length T) z
      one z i j =
          let v = every_in (HasVarsOf s.forest) (forests made) z.forest vars j in
          let c = every_in (Regroups T s.forest) (forests made) z.forest regroups j in
          record {
            stage = record {
              face_kept = every_in (λ (z : SoundForest). z.face ≡ s.face) made z faces i ∙ sym face;
              vars_kept = v;
              plain_kept = λ plain. every_in (λ (G : Forest). Every HasNoBoxes G.autos) (forests made) z.forest
                  (plains plain) j;
              top = every_in (λ (G : Forest). HasOneTop (component_at G.autos r)) (forests made) z.forest tops j;
              from = from_regrouped bs r (IsThatField f) T s.forest z.forest c;
            };
            left = inr
                (below_regrouped bs T r f s.forest z.forest v.0 target c (length T)
                (below_first t s.forest (over_of t s face signed table insides) r f));
          }

  -- and the last
  module _ (F : Forest) (table : IsBoxTable t) (insides : AreRankedInsides t.defs) (target : IsIn (At r) F.vars)
      (made : List SoundForest) (known : Every IsSigned made) (h : Every (IsRound t r f F 0) made) where
    pub last_bared : Every (IsBared bs r f) (forests made)
    last_bared = every_forest (IsBared bs r f) made
        (in_every (λ s. IsBared bs r f s.forest) made
        (λ s i. one s (every_in IsSigned made s known i) (every_in (IsRound t r f F 0) made s h i)))
      where
        one : (s : SoundForest) → IsSigned s → IsRound t r f F 0 s → IsBared bs r f s.forest
        one s signed w = elim w.left [
          | inl b ↦ b
          | inr a ↦ bared t s.forest (over_of t s (sym w.stage.face_kept) signed table insides) r f
              (root_there s r signed
              (subst (λ (xs : List Target). IsIn (At r) xs) (sym w.stage.vars_kept.0) target)) w.stage.top a
        ]

    pub last_face : (s : SoundForest) → t.face ≡ s.face → Every (λ (z : SoundForest). z.face ≡ s.face) made
    last_face s e =
        every_weaker (IsRound t r f F 0) (λ z. z.face ≡ s.face) made (λ z w. w.stage.face_kept ∙ e) h

    pub last_vars : Every (HasVarsOf F) (forests made)
    last_vars = every_forest (HasVarsOf F) made
        (every_weaker (IsRound t r f F 0) (λ z. HasVarsOf F z.forest) made (λ z w. w.stage.vars_kept) h)

    pub last_plain : Every (StaysPlain F) (forests made)
    last_plain = every_forest (StaysPlain F) made
        (every_weaker (IsRound t r f F 0) (λ z. StaysPlain F z.forest) made (λ z w. w.stage.plain_kept) h)

    pub last_from : Every (OpensFrom bs T r (IsThatField f) F) (forests made)
    last_from = every_forest (OpensFrom bs T r (IsThatField f) F) made
        (every_weaker (IsRound t r f F 0) (λ z. OpensFrom bs T r (IsThatField f) F z.forest) made
        (λ z w. w.stage.from) h)
