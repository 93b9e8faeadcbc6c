-- A forest split before an edge: pieces sorted, and pieces of pieces.
use Rattle.std.proofs.Common.{◌≡◌, ◌≢◌, ◌⊎◌, inl, inr, ℕ, ◌+◌, List, [], ◌∷◌, ◌++◌, length, refl, sym, ap, subst, ◌∙◌}
use Rattle.std.proofs.Common.{slice_index_or, append_assoc, append-nil, arith}
use Rattle.fore_base.specs.Lists.{IsIn, Every}
use Rattle.fore_base.specs.declared.fault.Fault.TheVariants.{Leak}
use Rattle.fore_base.specs.declared.store.Store.{Store}
use Rattle.fore_base.proofs.ListLemmas.{in_last, in_left, in_map, in_mapped, every_in, in_every, every_append}
use Rattle.fore_base.proofs.ListLemmas.{every_weaker, every_map, every_push}
use Rattle.ta_core.specs.Auto.{IsRanked}
use Rattle.fa_core.specs.Boxless.{HasNoBoxes}
use Rattle.fa_core.specs.declared.boxes.BoxDef.{BoxDef}
use Rattle.fa_core.specs.declared.faces.BoxFace.{BoxFace}
use Rattle.fa_core.specs.declared.faces.Face.{Face}
use Rattle.fa_core.specs.declared.forest.Forest.{Forest}
use Rattle.fa_core.specs.declared.forest.Target.{Target}
use Rattle.fa_core.specs.declared.forest.Target.TheVariants.{Uninit, At}
use Rattle.fa_core.specs.Filled.{IsFilled, IsSound}
use Rattle.fa_core.specs.Member.{Stands, Regroups, RegroupsInto}
use Rattle.fa_core.proofs.Regrouped.{members_regrouped, members_split}
use Rattle.fa_sound.specs.Soundness.{SoundForest}
use Rattle.fa_split.specs.Divided.{forests, HasVarsOf}
use Rattle.fa_split.specs.Split.{CanSplit, split_leaf, split_cells, IsSplitOf}
use Rattle.fa_split.proofs.Steps.{forests_both}
use Rattle.c_cfg.specs.Edges.{Faulted, gstep}
use Rattle.c_cfg.specs.declared.graph.Edge.{Edge}
use Rattle.sym_core.specs.Cases.{BadAt, StandsInOne, IsMet, IsTrueBad}
use Rattle.sym_core.specs.Refined.{Refines}
use Rattle.sym_core.proofs.Refining.{regroups_refine}
use Rattle.sym_step.specs.Freed.{NeverLeadsBack}
use Rattle.sym_step.specs.Posts.{bads, HasAsMany}
use Rattle.sym_step.specs.declared.posts.Bad.{Bad}
use Rattle.sym_step.specs.inner.Opening.{AreSorted, IsFreeAt, IsFreed, IsLost, IsOpeningBy, IsShown, IsSortedTo}
use Rattle.sym_step.specs.inner.Opening.{leak_at}
use Rattle.sym_step.specs.inner.Stepping.{IsLike, IsSteppingBy, IsThat}
use Rattle.sym_step.proofs.FreedChild.{cells_leak}
use Rattle.sym_step.proofs.Pieces.{cells_piece, leaf_count, leaf_piece}
use Rattle.sym_step.proofs.Showing.{shown_next}
use Rattle.sym_step.proofs.Stepping.{begins, one_taken, stepping_fewer}

-- Forests alike.

pub many_self : (F : Forest) → HasAsMany F F
many_self F = (refl, refl)

pub like_on : (face : Face) (F : Forest) (s t : SoundForest) → IsLike face F s → IsLike s.face s.forest t
    → IsLike face F t
like_on face F s t a b =
    record {
      face = b.face ∙ a.face;
      counts = (b.counts.0 ∙ a.counts.0, b.counts.1 ∙ a.counts.1);
      plain = λ none. b.plain (a.plain none);
    }

pub like_self : (s : SoundForest) → IsLike s.face s.forest s
like_self s = record { face = refl; counts = many_self s.forest; plain = λ none. none }

pub bads_both : (xs ys : List Bad) → bads (xs ++ ys) ≡ bads xs ++ bads ys
bads_both [] ys = refl
bads_both (x ∷ xs) ys = ap (λ (bs : List BadAt). record { fault = x.fault; at = x.at.forest } ∷ bs) (bads_both xs ys)

-- Sorted pieces.

in_more : (ss : List SoundForest) (s : SoundForest) (xs : List SoundForest) → Every (λ x. IsIn x ss) xs
    → Every (λ x. IsIn x (ss ++ s ∷ [])) xs
in_more ss s xs h = every_weaker (λ x. IsIn x ss) (λ x. IsIn x (ss ++ s ∷ [])) xs (λ x i. in_left x ss (s ∷ []) i) h

lost_more : (n : ℕ) (ss : List SoundForest) (s : SoundForest) (bs : List Bad) → Every (IsLost n ss) bs
    → Every (IsLost n (ss ++ s ∷ [])) bs
lost_more n ss s bs h = every_weaker (IsLost n ss) (IsLost n (ss ++ s ∷ [])) bs
    (λ b k. record {
      piece = in_left b.at ss (s ∷ []) k.piece;
      sound = k.sound;
      many = k.many;
      forward = k.forward;
      leaks = k.leaks;
    })
    h

sorted_more : (ready more : List SoundForest) (faults bad : List Bad) (ss : List SoundForest)
    → ((s : SoundForest) → IsIn s ready → IsIn s more) → ((b : Bad) → IsIn b faults → IsIn b bad)
    → Every (IsSortedTo ready faults) ss → Every (IsSortedTo more bad) ss
sorted_more ready more faults bad ss f g h = every_weaker (IsSortedTo ready faults) (IsSortedTo more bad) ss
    (λ s k. elim k [ inl i ↦ inl (f s i) | inr i ↦ inr (g (leak_at s) i) ]) h

pub sorted_none : (n : ℕ) → AreSorted n [] [] []
sorted_none n = record { ready_in = tt; lost = tt; all = tt }

pub sorted_ready : (n : ℕ) (ss ready : List SoundForest) (faults : List Bad) (s : SoundForest)
    → AreSorted n ss ready faults → AreSorted n (ss ++ s ∷ []) (ready ++ s ∷ []) faults
sorted_ready n ss ready faults s h = record {
  ready_in = every_push (λ x. IsIn x (ss ++ s ∷ [])) ready s (in_more ss s ready h.ready_in) (in_last s ss);
  lost = lost_more n ss s faults h.lost;
  all = every_push (IsSortedTo (ready ++ s ∷ []) faults) ss s
      (sorted_more ready (ready ++ s ∷ []) faults faults ss (λ x i. in_left x ready (s ∷ []) i) (λ b i. i) h.all)
      (inl (in_last s ready));
}

pub sorted_lost : (n : ℕ) (ss ready : List SoundForest) (faults : List Bad) (s : SoundForest)
    → IsSound s.face s.forest → length s.forest.autos ≢ n → NeverLeadsBack s.face.boxes s.forest n
    → AreSorted n ss ready faults → AreSorted n (ss ++ s ∷ []) ready (faults ++ leak_at s ∷ [])
sorted_lost n ss ready faults s sound many forward h = record {
  ready_in = in_more ss s ready h.ready_in;
  lost = every_push (IsLost n (ss ++ s ∷ [])) faults (leak_at s) (lost_more n ss s faults h.lost)
      (record { piece = in_last s ss; sound = sound; many = many; forward = forward; leaks = refl });
  all = every_push (IsSortedTo ready (faults ++ leak_at s ∷ [])) ss s
      (sorted_more ready ready faults (faults ++ leak_at s ∷ []) ss (λ x i. i)
      (λ b i. in_left b faults (leak_at s ∷ []) i) h.all)
      (inr (in_last (leak_at s) faults));
}

-- A child of a freed cell: the forests of leaves are to go on, and so is the one in which it is a cell to which a way
-- back leads; the one in which it is another cell is a leak.
module _ (T : List BoxDef) (G : SoundForest) (r p : ℕ) (e : Edge) (sound : IsSound G.face G.forest)
    (ranked : Every IsRanked G.forest.autos) (can : CanSplit G.forest r p) (freed : IsFreed T r e G)
    (shown : IsShown G.forest r p G.forest) where
  module _
      (ss : List SoundForest) (dressed : (T : List BoxDef) → Every (IsSplitOf T G.forest r p) (forests ss))
      (regroup : (T : List BoxDef) → Every (Regroups T G.forest) (forests ss))
      (whole : (T : List BoxDef) → RegroupsInto T G.forest (forests ss))
      (faces : Every (λ (s : SoundForest). s.face ≡ G.face) ss) (vars : Every (HasVarsOf G.forest) (forests ss))
      (plains : Every HasNoBoxes G.forest.autos → Every (λ (H : Forest). Every HasNoBoxes H.autos) (forests ss)) where
    abbrev n : ℕ
    n = length G.forest.autos

    forest_in : (s : SoundForest) → IsIn s ss → IsIn s.forest (forests ss)
    forest_in s i = in_map (λ (t : SoundForest). t.forest) s ss i

    face_same : (s : SoundForest) → IsIn s ss → s.face ≡ G.face
    face_same s i = every_in (λ (t : SoundForest). t.face ≡ G.face) ss s faces i

    piece_like : (s : SoundForest) → IsIn s ss → IsLike G.face G.forest s
    piece_like s i =
        let v = every_in (HasVarsOf G.forest) (forests ss) s.forest vars (forest_in s i) in
        record {
          face = face_same s i;
          counts = (ap (λ (ts : List Target). length ts) v.0, ap (λ ds. length ds) v.1);
          plain = λ none. every_in (λ (H : Forest). Every HasNoBoxes H.autos) (forests ss) s.forest (plains none)
              (forest_in s i);
        }

    piece_regroups : (U : List BoxDef) (s : SoundForest) → IsIn s ss → Regroups U G.forest s.forest
    piece_regroups U s i = every_in (Regroups U G.forest) (forests ss) s.forest (regroup U) (forest_in s i)

    -- one leaf stands at the place
    piece_shown : (s : SoundForest) → IsIn s ss → IsShown G.forest r (p + 1) s.forest
    piece_shown s i = here (every_in (IsSplitOf [] G.forest r p) (forests ss) s.forest (dressed []) (forest_in s i))
      where
        here : IsSplitOf [] G.forest r p s.forest → IsShown G.forest r (p + 1) s.forest
        here (inl (y, m, is, c, d)) =
            subst (λ (H : Forest). IsShown G.forest r (p + 1) H) (sym is)
            (shown_next G.forest r p ranked can shown y (split_leaf G.forest r p y)
            (leaf_piece G.forest r p ranked can y))
        here (inr (m, is, d)) =
            subst (λ (H : Forest). IsShown G.forest r (p + 1) H) (sym is)
            (shown_next G.forest r p ranked can shown (At n) (split_cells G.forest r p)
            (cells_piece G.forest r p ranked can))

    -- a cell to which no way back leads leaks
    lost_leaks : (b : Bad) → IsLost n ss b → (t : Store) → Stands G.face.shapes.structs T b.at.forest t
        → gstep G.face.shapes.structs e t ≡ Faulted Leak
    lost_leaks b k t h =
        here (every_in (IsSplitOf [] G.forest r p) (forests ss) b.at.forest (dressed []) (forest_in b.at k.piece))
      where
        here : IsSplitOf [] G.forest r p b.at.forest → gstep G.face.shapes.structs e t ≡ Faulted Leak
        here (inl (y, m, is, c, d)) =
            absurd (k.many (ap (λ (H : Forest). length H.autos) is ∙ leaf_count G.forest r p ranked can y))
        here (inr (m, is, d)) =
            cells_leak G.face T freed.table G.forest r p sound ranked can freed.fields
            (subst (λ (f : Face). IsFilled f (split_cells G.forest r p)) (face_same b.at k.piece)
            (subst (λ (H : Forest). IsFilled b.at.face H) is k.sound.well_formed.filled))
            (subst (λ (f : Face). NeverLeadsBack f.boxes (split_cells G.forest r p) n) (face_same b.at k.piece)
            (subst (λ (H : Forest). NeverLeadsBack b.at.face.boxes H n) is k.forward)) e freed.frees t
            (subst (λ (H : Forest). Stands G.face.shapes.structs T H t) is h)

    module _ (kept : List SoundForest) (lost : List Bad) (sorted : AreSorted n ss kept lost) where
      lost_true : (b : Bad) → IsIn b lost → IsTrueBad G.face T G.forest e (record { fault = b.fault; at = b.at.forest })
      lost_true b i t h =
          let k = every_in (IsLost n ss) lost b sorted.lost i in (
            members_regrouped G.face.shapes.structs T G.forest b.at.forest (piece_regroups T b.at k.piece) t h,
            lost_leaks b k t h ∙ ap Faulted (sym k.leaks),
          )

      abbrev Left : Store → Type 0
      Left t = StandsInOne G.face T (forests kept) t
          ⊎ IsMet G.face T [] (bads lost) t (gstep G.face.shapes.structs e t)

      in_piece : (t : Store) → (H : Forest) × IsIn H (forests ss) × Stands G.face.shapes.structs T H t → Left t
      in_piece t (H, i, h) = here (in_mapped (λ (s : SoundForest). s.forest) H ss i)
        where
          here : (s : SoundForest) × IsIn s ss × (H ≡ s.forest) → Left t
          here (s, j, q) = elim (every_in (IsSortedTo kept lost) ss s sorted.all j) [
            | inl k ↦ inl (s.forest, in_map (λ (x : SoundForest). x.forest) s kept k, own)
            | inr k ↦ inr
                (subst (IsMet G.face T [] (bads lost) t)
                (sym (lost_leaks (leak_at s) (every_in (IsLost n ss) lost (leak_at s) sorted.lost k) t own)) (
                  record { fault = Leak; at = s.forest },
                  in_map (λ (b : Bad). record { fault = b.fault; at = b.at.forest }) (leak_at s) lost k,
                  refl,
                  own,
                ))
          ]
            where
              own : Stands G.face.shapes.structs T s.forest t
              own = subst (λ (X : Forest). Stands G.face.shapes.structs T X t) q h

      kept_in : (s : SoundForest) → IsIn s kept → IsIn s ss
      kept_in s i = every_in (λ x. IsIn x ss) kept s sorted.ready_in i

      child_here : IsSteppingBy (IsThat T) G.face G.forest e (forests kept) [] (bads lost)
      child_here = record {
        whole = λ U q t h. subst
            (λ (V : List BoxDef). StandsInOne G.face V (forests kept) t
            ⊎ IsMet G.face V [] (bads lost) t (gstep G.face.shapes.structs e t)) (sym q)
            (in_piece t (members_split G.face.shapes.structs T G.forest (forests ss) (whole T) t
            (subst (λ (V : List BoxDef). Stands G.face.shapes.structs V G.forest t) q h)));
        refines = λ U q. every_map (λ (s : SoundForest). s.forest) (Refines G.face U e.instr G.forest) kept
            (in_every (λ (s : SoundForest). Refines G.face U e.instr G.forest s.forest) kept
            (λ s i. regroups_refine G.face U e.instr G.forest s.forest (piece_regroups U s (kept_in s i))));
        keeps = λ U q. tt;
        bads = λ U q. subst (λ (V : List BoxDef). Every (IsTrueBad G.face V G.forest e) (bads lost)) (sym q)
            (every_map (λ (b : Bad). record { fault = b.fault; at = b.at.forest }) (IsTrueBad G.face T G.forest e) lost
            (in_every (λ (b : Bad). IsTrueBad G.face T G.forest e (record { fault = b.fault; at = b.at.forest })) lost
            lost_true));
      }

      pub child_opened : IsOpeningBy (IsThat T) G.face G.forest e (IsShown G.forest r (p + 1)) [] kept lost
      child_opened = record {
        stepping = child_here;
        ready = every_map (λ (s : SoundForest). s.forest) (IsShown G.forest r (p + 1)) kept
            (in_every (λ (s : SoundForest). IsShown G.forest r (p + 1) s.forest) kept
            (λ s i. piece_shown s (kept_in s i)));
        like = in_every (IsLike G.face G.forest) kept (λ s i. piece_like s (kept_in s i));
        bad_like = in_every (λ (b : Bad). IsLike G.face G.forest b.at) lost
            (λ b i. piece_like b.at (every_in (IsLost n ss) lost b sorted.lost i).piece);
      }

-- The forest as it is.
pub unopened : {Q : List BoxDef → Type 0} → (face : Face) (F : Forest) (e : Edge) (P : Forest → Type 0)
    (s : SoundForest) → s.forest ≡ F → IsLike face F s → P s.forest → IsOpeningBy Q face F e P [] (s ∷ []) []
unopened {Q = Q} face F e P s is like p = record {
  stepping = subst (λ (H : Forest). IsSteppingBy Q face F e (H ∷ []) [] []) (sym is) (begins face e F);
  ready = (p, tt);
  like = (like, tt);
  bad_like = tt;
}

-- What is shown may be said otherwise.
pub opening_weaker : {Q : List BoxDef → Type 0} → (face : Face) (F : Forest) (e : Edge) (P R : Forest → Type 0)
    (todo made : List SoundForest) (faults : List Bad) → ((H : Forest) → P H → R H)
    → IsOpeningBy Q face F e P todo made faults → IsOpeningBy Q face F e R todo made faults
opening_weaker face F e P R todo made faults w a =
    record {
      stepping = a.stepping;
      ready = every_weaker P R (forests made) w a.ready;
      like = a.like;
      bad_like = a.bad_like;
    }

-- All that was made is to do.
pub opening_again : {Q : List BoxDef → Type 0} → (face : Face) (F : Forest) (e : Edge) (P R : Forest → Type 0)
    (made : List SoundForest) (faults : List Bad) → IsOpeningBy Q face F e P [] made faults
    → IsOpeningBy Q face F e R made [] faults
opening_again {Q = Q} face F e P R made faults a = record {
  stepping = subst (λ (Hs : List Forest). IsSteppingBy Q face F e Hs [] (bads faults)) (sym (append-nil (forests made)))
      a.stepping;
  ready = tt;
  like = tt;
  bad_like = a.bad_like;
}

-- With the same targets the edge frees the same root.
pub frees_still : (F G : Forest) (e : Edge) (r : ℕ) → G.vars ≡ F.vars → IsFreeAt F e r → IsFreeAt G e r
frees_still F G e r same (b, is, at) = (b, is, ap (λ (vs : List Target). slice_index_or vs b Uninit) same ∙ at)

-- One forest of the list, opened further.
module _ {Q : List BoxDef → Type 0} (face : Face) (F : Forest) (e : Edge) (P : Forest → Type 0) (G : SoundForest)
    (todo ready : List SoundForest) (faults : List Bad) (more : List SoundForest) (bad : List Bad)
    (a : IsOpeningBy Q face F e P (G ∷ todo) ready faults) (like : IsLike face F G)
    (b : IsOpeningBy Q G.face G.forest e P [] more bad)
  where
    own : IsSteppingBy Q face G.forest e (forests more) [] (bads bad)
    own = subst (λ (f : Face). IsSteppingBy Q f G.forest e (forests more) [] (bads bad)) like.face b.stepping

    stepped : IsSteppingBy Q face F e ((forests todo ++ forests ready) ++ forests more) ([] ++ [])
        (bads faults ++ bads bad)
    stepped = one_taken face e F G.forest (forests todo ++ forests ready) (forests more) [] [] (bads faults) (bads bad)
        a.stepping own

    pub opened_more : IsOpeningBy Q face F e P todo (ready ++ more) (faults ++ bad)
    opened_more = record {
      stepping = subst (λ (bs : List BadAt). IsSteppingBy Q face F e (forests todo ++ forests (ready ++ more)) [] bs)
          (sym (bads_both faults bad))
          (subst (λ (Hs : List Forest). IsSteppingBy Q face F e Hs [] (bads faults ++ bads bad))
          (append_assoc (forests todo) (forests ready) (forests more)
          ∙ ap (λ (Hs : List Forest). forests todo ++ Hs) (sym (forests_both ready more))) stepped);
      ready = subst (Every P) (sym (forests_both ready more))
          (every_append P (forests ready) (forests more) a.ready b.ready);
      like = every_append (IsLike face F) ready more a.like
          (every_weaker (IsLike G.face G.forest) (IsLike face F) more (λ s k. like_on face F G s like k) b.like);
      bad_like = every_append (λ (x : Bad). IsLike face F x.at) faults bad a.bad_like
          (every_weaker (λ (x : Bad). IsLike G.face G.forest x.at) (λ (x : Bad). IsLike face F x.at) bad
          (λ x k. like_on face F G x.at like k) b.bad_like);
    }
