-- What a case is folded and regrouped into.
use Rattle.std.proofs.Common.{◌≡◌, suc, zero, List, [], ◌∷◌, map, length, refl, sym, ap, ◌∙◌, subst}
use Rattle.std.proofs.Common.{inl, inr}
use Rattle.fore_base.specs.declared.shape.Shape.{Shape}
use Rattle.fore_base.specs.declared.store.Store.{Store}
use Rattle.fore_base.specs.Lists.{IsIn, Every}
use Rattle.fore_base.proofs.ListLemmas.{every_in, in_every, every_map, in_map, in_mapped, paired_same}
use Rattle.ta_core.specs.Language.{HasSameLanguage}
use Rattle.fa_core.specs.Boxes.{Boxes, IsBoxTable}
use Rattle.fa_core.specs.Canonical.{IsCanonical}
use Rattle.fa_core.specs.Covering.{Reduced}
use Rattle.fa_core.specs.Dressed.{value_in, roots_of}
use Rattle.fa_core.specs.Faces.{IsGiving}
use Rattle.fa_core.specs.Filled.{IsSound}
use Rattle.fa_core.specs.LeastFolds.{IsFolded, FoldsTo}
use Rattle.fa_core.specs.Member.{Regroups, Stands}
use Rattle.fa_core.specs.declared.faces.Face.{Face}
use Rattle.fa_core.specs.declared.folds.FoldStep.{FoldStep}
use Rattle.fa_core.specs.declared.forest.Forest.{Forest}
use Rattle.fa_core.specs.declared.forest.Target.{Target}
use Rattle.fa_core.proofs.Composed.{regroups_same}
use Rattle.fa_core.proofs.TablesGive.{tables_give}
use Rattle.fa_back.specs.Insides.{AreRankedInsides}
use Rattle.fa_sound.specs.Soundness.{SoundForest, IsSigned}
use Rattle.fa_sound.specs.Unions.{forests, IsUnionOf}
use Rattle.fa_sample.proofs.Sampled.{has_member}
use Rattle.fa_merge.specs.Reached.{AreAllReached, DoesNoneLeak, NeverLeaks}
use Rattle.fa_merge.proofs.LeaksDecided.{all_never_leak, one_always_leaks, roots_decided}
use Rattle.fa_merge.proofs.Members.{not_both}
use Rattle.fa_order.proofs.CanonicalReached.{canonical_reached}
use Rattle.fa_fold.specs.All.{HasAsManyVariables}
use Rattle.fa_join.specs.Joinable.{NoneJoinable}
use Rattle.fa_join.specs.Joined.{IsJoined}
use Rattle.c_cfg.specs.Graphs.{ControlGraph}
use Rattle.fix_core.specs.Follows.{HasItsVars, IsMember, SameLanguages}
use Rattle.fix_successors.specs.Arriving.{StandsInCase}
use Rattle.fix_successors.specs.Ready.{IsNormal}
use Rattle.fix_successors.specs.inner.Settling.{AreNormalForms, IsRegrouped}

-- a forest has its own trees
pub same_trees : (F : Forest) → SameLanguages F F
same_trees F =
    record {
      vars = refl;
      data_vars = refl;
      languages = paired_same HasSameLanguage (λ a t. ((λ h. h), (λ h. h))) F.autos;
    }

-- Forests that were joined.

module _ (T : Boxes) (F : Forest) (Cs Js : List Forest) (joined : IsJoined T.defs Cs Js) where
  -- what regroups F does so joined
  regroups_joined : Every (Regroups T.defs F) Cs → (J : Forest) → IsIn J Js → Regroups T.defs F J
  regroups_joined each J i d of =
      let k = joined.only J i d of in
      let r = every_in (Regroups T.defs F) Cs k.0 each k.1 d k.3 in (
        r.0,
        record {
          of = r.1.of;
          same_cells = r.1.same_cells;
          vars = ap (λ (ts : List Target). map (value_in (roots_of d)) ts) (sym k.2.0) ∙ r.1.vars;
          data_vars = sym k.2.1 ∙ r.1.data_vars;
        },
      )

  -- a member of one of them is one of a joined one
  member_joined : (s : Store) → (C : Forest) → IsIn C Cs → IsMember T C s → (J : Forest) × IsIn J Js × IsMember T J s
  member_joined s C i (d, m) =
      let k = joined.whole C i d m.of in (
        k.0,
        k.1,
        (
          d,
          record {
            proper = m.proper;
            fields = m.fields;
            of = k.3;
            same_facts = m.same_facts;
            vars = m.vars ∙ ap (λ (ts : List Target). map (value_in (roots_of d)) ts) (sym k.2.0);
            data_vars = m.data_vars ∙ sym k.2.1;
          },
        ),
      )

  -- a joined one has as many variables as F, if each of those that were joined has
  many_joined : Every (HasAsManyVariables F) Cs → (J : Forest) → IsIn J Js → (s : Store) → IsMember T J s
      → HasAsManyVariables F J
  many_joined many J i s (d, m) =
      let k = joined.only J i d m.of in
      let n = every_in (HasAsManyVariables F) Cs k.0 many k.1 in
      (ap (λ (ts : List Target). length ts) (sym k.2.0) ∙ n.0, ap (λ ds. length ds) (sym k.2.1) ∙ n.1)

-- the variables of a forest with as many
pub as_many : (g : ControlGraph) (F G : Forest) → HasItsVars g F → HasAsManyVariables F G → HasItsVars g G
as_many g F G vars many = record { vars = many.0 ∙ vars.vars; data_vars = many.1 ∙ vars.data_vars }

-- the boxes of a forest over the table's face that lead back give their output something
pub gives : (T : Boxes) (F : SoundForest) → IsBoxTable T → F.face ≡ T.face → Every IsGiving F.face.boxes
gives T F table face = subst (λ (z : Face). Every IsGiving z.boxes) (sym face) (tables_give T table)

module _ (T : Boxes) (g : ControlGraph) (table : IsBoxTable T) (insides : AreRankedInsides T.defs) where
  -- a sound forest over the table's face has a member
  member_of : (s : SoundForest) → s.face ≡ T.face → IsSigned s → (t : Store) × IsMember T s.forest t
  member_of s face signed =
      has_member T.face T.defs s.forest table insides (subst (λ (z : Face). IsSound z s.forest) face signed.sound)
      signed.ranked

  -- canonical forests of F, joined
  pub normal_forms : (F : SoundForest) (cs js : List SoundForest) → F.face ≡ T.face → HasItsVars g F.forest
      → Every (Regroups T.defs F.forest) (forests cs) → IsUnionOf F.forest (forests cs)
      → Every (λ (s : SoundForest). length s.forest.vars ≡ length F.forest.vars) cs
      → Every (λ (s : SoundForest). s.forest.data_vars ≡ F.forest.data_vars) cs
      → IsJoined T.defs (forests cs) (forests js) → NoneJoinable F.face.boxes (forests js)
      → Every (λ (s : SoundForest). IsCanonical s.face s.forest) js → Every (λ (s : SoundForest). Reduced s.forest) js
      → Every (λ (s : SoundForest). s.face ≡ F.face) js → Every IsSigned js → AreNormalForms T g F.forest js
  normal_forms F cs js face own regroups union vars datums joined apart canonical reduced faces signed = record {
    normal = in_every (IsNormal T g) js normal;
    regroups = in_every (Regroups T.defs F.forest) (forests js)
        (regroups_joined T F.forest (forests cs) (forests js) joined regroups);
    apart = subst (λ (z : Face). NoneJoinable z.boxes (forests js)) face apart;
    kept = kept;
  }
    where
      many : Every (HasAsManyVariables F.forest) (forests cs)
      many = every_map (λ (s : SoundForest). s.forest) (HasAsManyVariables F.forest) cs
          (in_every (λ (s : SoundForest). HasAsManyVariables F.forest s.forest) cs
          (λ s i. (
            every_in (λ (z : SoundForest). length z.forest.vars ≡ length F.forest.vars) cs s vars i,
            ap (λ ds. length ds)
                (every_in (λ (z : SoundForest). z.forest.data_vars ≡ F.forest.data_vars) cs s datums i),
          )))

      normal : (s : SoundForest) → IsIn s js → IsNormal T g s
      normal s i =
          let over : s.face ≡ T.face = every_in (λ (z : SoundForest). z.face ≡ F.face) js s faces i ∙ face in
          let m = member_of s over (every_in IsSigned js s signed i) in
          record {
            face = over;
            canonical = subst (λ (z : Face). IsCanonical z s.forest) over
                (every_in (λ (z : SoundForest). IsCanonical z.face z.forest) js s canonical i);
            reduced = every_in (λ (z : SoundForest). Reduced z.forest) js s reduced i;
            vars = as_many g F.forest s.forest own
                (many_joined T F.forest (forests cs) (forests js) joined many s.forest
                (in_map (λ (z : SoundForest). z.forest) s js i) m.0 m.1);
          }

      kept : (s : Store) → IsMember T F.forest s → StandsInCase T js s
      kept s m =
          let c = (union T.face.shapes.structs T.defs s).0 m in
          let j = member_joined T F.forest (forests cs) (forests js) joined s c.0 c.1 c.2 in
          let x = in_mapped (λ (z : SoundForest). z.forest) j.0 js j.1 in
          record { case_of = x.0; listed = x.1; member = subst (λ (z : Forest). IsMember T z s) x.2 j.2 }

  -- where no member of a forest leaks, each of its roots is reached
  pub all_reached : (G : SoundForest) → G.face ≡ T.face → IsSigned G → NeverLeaks T.face G.forest
      → AreAllReached G.face G.forest
  all_reached G face signed never =
      let sound : IsSound T.face G.forest = subst (λ (z : Face). IsSound z G.forest) face signed.sound in
      subst (λ (z : Face). AreAllReached z G.forest) (sym face) (elim (roots_decided T.face G.forest sound) [
        | inl all ↦ all
        | inr h ↦ absurd
            (not_both T.face G.forest sound signed.ranked T.defs table insides
            (one_always_leaks T.face G.forest sound.well_formed.filled h.0 h.1.root h.1.unreached T.defs table)
            (never T.defs table))
      ])

  -- no member of a normal forest leaks
  pub none_leaks : (M : SoundForest) → IsNormal T g M → DoesNoneLeak T.face T.defs M.forest
  none_leaks M n = all_never_leak T.face M.forest n.canonical.well_formed.filled
      (canonical_reached T.face M.forest n.canonical) T.defs table

-- A case that cannot be folded.

module _ (T : Boxes) (g : ControlGraph) where
  none_joinable : (G : Forest) → NoneJoinable T.face.boxes (G ∷ [])
  none_joinable G zero zero A B a b differ = absurd (differ refl)
  none_joinable G zero (suc j) A B a b differ = cc
  none_joinable G (suc i) j A B a b differ = cc

  pub forms_alone : (M G : SoundForest) → IsNormal T g M → G.face ≡ M.face → M.forest ≡ G.forest
      → AreNormalForms T g G.forest (G ∷ [])
  forms_alone M G n face same = record {
    normal = (
      record {
        face = face ∙ n.face;
        canonical = subst (λ (z : Forest). IsCanonical T.face z) same n.canonical;
        reduced = subst (λ (z : Forest). Reduced z) same n.reduced;
        vars = subst (HasItsVars g) same n.vars;
      },
      tt,
    );
    regroups = (regroups_same T.defs G.forest, tt);
    apart = none_joinable G.forest;
    kept = λ s m. record { case_of = G; listed = inl refl; member = m };
  }

  pub trees_alone : (M G : SoundForest) → M.forest ≡ G.forest → Every (SameLanguages M.forest) (forests (G ∷ []))
  trees_alone M G same = (subst (SameLanguages M.forest) same (same_trees M.forest), tt)

  -- no fold changes nothing
  pub not_folded : (F G : Forest) (folds : List FoldStep) → folds ≡ [] → FoldsTo T F folds G → F ≡ G
  not_folded F G folds none steps = subst (λ xs. FoldsTo T F xs G) none steps

  pub regrouped : (M G : SoundForest) (folds : List FoldStep) (Gs : List SoundForest) → IsNormal T g M
      → IsSound M.face M.forest → FoldsTo T M.forest folds G.forest → IsFolded T G.forest
      → ((hs : List Shape) (s : Store) → Stands hs T.defs M.forest s → Stands hs T.defs G.forest s)
      → AreNormalForms T g G.forest Gs → (folds ≡ [] → Every (SameLanguages M.forest) (forests Gs))
      → IsRegrouped T g M folds Gs
  regrouped M G folds Gs n sound steps whole members forms unfolded = record {
    sound = subst (λ (z : Face). IsSound z M.forest) n.face sound;
    folded = G.forest;
    steps = steps;
    whole = whole;
    members = λ s m. members T.face.shapes.structs s m;
    forms = forms;
    unfolded = unfolded;
  }
