-- The forests of a list while some are joined: none is lost, none is new, and each join takes one away.
use Rattle.std.proofs.Common.{◌≡◌, ◌⊎◌, inl, inr, ℕ, zero, suc, ◌+◌, length, List, [], ◌∷◌, ◌++◌, refl, sym, ap, subst}
use Rattle.std.proofs.Common.{◌∙◌, slice_get, Some, length-append, arith}
use Rattle.std.specs.List.{remove}
use Rattle.std.proofs.lemmas.Option.{none-some, same_Some}
use Rattle.fore_base.specs.Lists.{IsIn, Every}
use Rattle.fore_base.proofs.ListLemmas.{in_left, in_right, in_append, in_map, in_mapped, in_from_place, every_push}
use Rattle.fore_base.proofs.ListLemmas.{every_in, every_parts, every_without}
use Rattle.fa_core.specs.Canonical.{IsCanonical}
use Rattle.fa_core.specs.Covering.{Reduced}
use Rattle.fa_core.specs.Dressed.{Nodes}
use Rattle.fa_core.specs.Member.{OfForest}
use Rattle.fa_core.specs.declared.boxes.BoxDef.{BoxDef}
use Rattle.fa_core.specs.declared.faces.BoxFace.{BoxFace}
use Rattle.fa_core.specs.declared.faces.Face.{Face}
use Rattle.fa_core.specs.declared.forest.Forest.{Forest}
use Rattle.fa_sound.specs.Soundness.{SoundForest}
use Rattle.fa_split.specs.Divided.{HasVarsOf}
use Rattle.fa_sound.specs.Unions.{forests}
use Rattle.fa_join.specs.Joinable.{Joinable}
use Rattle.fa_join.specs.Joined.{OfOne, IsJoined, Joins}
use Rattle.fa_join.specs.declared.lists.Partner.{Partner}
use Rattle.fa_join.specs.inner.Differing.{CanJoin, IsPartner}
use Rattle.fa_join.specs.inner.Joining.{IsReady, HasNoEdges, NoLater, IsJoining}

vars_on : (F G H : Forest) → HasVarsOf F G → HasVarsOf G H → HasVarsOf F H
vars_on F G H h k = (k.0 ∙ h.0, k.1 ∙ h.1)

vars_back : (F G : Forest) → HasVarsOf F G → HasVarsOf G F
vars_back F G h = (sym h.0, sym h.1)

module _ (T : List BoxDef) where
  pub joined_same : (Fs : List Forest) → IsJoined T Fs Fs
  joined_same Fs = record { whole = λ F i d o. (F, i, (refl, refl), o); only = λ F i d o. (F, i, (refl, refl), o) }

  -- where F and G of a list are replaced by what joins them
  pub joined_step : (Fs Gs Hs : List Forest) (F G J : Forest) → IsIn F Gs → IsIn G Gs → IsIn J Hs → Joins F G J →
      ((N : Forest) → IsIn N Gs → (N ≡ F) ⊎ ((N ≡ G) ⊎ IsIn N Hs)) → ((N : Forest) → IsIn N Hs → (N ≡ J) ⊎ IsIn N Gs)
      → IsJoined T Fs Gs → IsJoined T Fs Hs
  joined_step Fs Gs Hs F G J iF iG iJ j forth back h = record {
    whole = λ E i d o. (let k = h.whole E i d o in moved E d k.0 k.2 k.3 (forth k.0 k.1));
    only = λ N i d o. came N d o (back N i);
  }
    where
      moved : (E : Forest) (d : Nodes) (N : Forest) → HasVarsOf E N → OfForest T N d → (N ≡ F) ⊎ ((N ≡ G) ⊎ IsIn N Hs)
          → OfOne T Hs E d
      moved E d N v o (inl e) = (
        J,
        iJ,
        vars_on E F J (subst (λ (z : Forest). HasVarsOf E z) e v) j.first,
        (j.dressed T d).1 (inl (subst (λ (z : Forest). OfForest T z d) e o)),
      )
      moved E d N v o (inr (inl e)) = (
        J,
        iJ,
        vars_on E G J (subst (λ (z : Forest). HasVarsOf E z) e v) j.second,
        (j.dressed T d).1 (inr (subst (λ (z : Forest). OfForest T z d) e o)),
      )
      moved E d N v o (inr (inr i)) = (N, i, v, o)

      from : (N M : Forest) (d : Nodes) → IsIn M Gs → HasVarsOf N M → OfForest T M d → OfOne T Fs N d
      from N M d i v o = (let k = h.only M i d o in (k.0, k.1, vars_on N M k.0 v k.2, k.3))

      came : (N : Forest) (d : Nodes) → OfForest T N d → (N ≡ J) ⊎ IsIn N Gs → OfOne T Fs N d
      came N d o (inr i) = h.only N i d o
      came N d o (inl e) = elim ((j.dressed T d).0 (subst (λ (z : Forest). OfForest T z d) e o)) [
        | inl k ↦ from N F d iF (subst (λ (z : Forest). HasVarsOf z F) (sym e) (vars_back F J j.first)) k
        | inr k ↦ from N G d iG (subst (λ (z : Forest). HasVarsOf z G) (sym e) (vars_back G J j.second)) k
      ]

  -- where the list has the same forests in another order
  pub joined_moved : (Fs Gs Hs : List Forest) → ((N : Forest) → IsIn N Gs → IsIn N Hs)
      → ((N : Forest) → IsIn N Hs → IsIn N Gs) → IsJoined T Fs Gs → IsJoined T Fs Hs
  joined_moved Fs Gs Hs forth back h = record {
    whole = λ E i d o. (let k = h.whole E i d o in (k.0, forth k.0 k.1, k.2, k.3));
    only = λ N i d o. h.only N (back N i) d o;
  }

-- Lists of sound forests.

pub in_forests : (F : SoundForest) (Fs : List SoundForest) → IsIn F Fs → IsIn F.forest (forests Fs)
in_forests F Fs i = in_map (λ (s : SoundForest). s.forest) F Fs i

-- the items of a list without one
in_without : (Fs : List SoundForest) (k : ℕ) (F G : SoundForest) → slice_get Fs k ≡ Some F → IsIn G Fs → (G ≡ F)
    ⊎ IsIn G (remove Fs k)
in_without [] k F G e i = absurd i
in_without (H ∷ Fs) zero F G e (inl q) = inl (q ∙ same_Some H F e)
in_without (H ∷ Fs) zero F G e (inr i) = inr i
in_without (H ∷ Fs) (suc k) F G e (inl q) = inr (inl q)
in_without (H ∷ Fs) (suc k) F G e (inr i) = elim (in_without Fs k F G e i) [ inl q ↦ inl q | inr j ↦ inr (inr j) ]

without_in : (Fs : List SoundForest) (k : ℕ) (G : SoundForest) → IsIn G (remove Fs k) → IsIn G Fs
without_in [] zero G i = absurd i
without_in [] (suc k) G i = absurd i
without_in (H ∷ Fs) zero G i = inr i
without_in (H ∷ Fs) (suc k) G (inl q) = inl q
without_in (H ∷ Fs) (suc k) G (inr i) = inr (without_in Fs k G i)

pub without_long : (Fs : List SoundForest) (k : ℕ) (F : SoundForest) → slice_get Fs k ≡ Some F
    → length (remove Fs k) + 1 ≡ length Fs
without_long [] k F e = absurd (none-some F e)
without_long (H ∷ Fs) zero F e = omega arith
without_long (H ∷ Fs) (suc k) F e = (let l = without_long Fs k F e in omega (arith, l))

module _ (bs : List BoxFace) where
  pub later_push : (Fs : List SoundForest) (G : SoundForest) → NoLater bs Fs
      → Every (λ F. Joinable bs F.forest G.forest → ⊥) Fs → NoLater bs (Fs ++ G ∷ [])
  later_push [] G h k = (tt, tt)
  later_push (F ∷ Fs) G h k =
      (every_push (λ H. Joinable bs F.forest H.forest → ⊥) Fs G h.0 k.0, later_push Fs G h.1 k.1)

  pub later_without : (Fs : List SoundForest) (k : ℕ) → NoLater bs Fs → NoLater bs (remove Fs k)
  later_without [] zero h = tt
  later_without [] (suc k) h = tt
  later_without (F ∷ Fs) zero h = h.1
  later_without (F ∷ Fs) (suc k) h =
      (every_without (λ H. Joinable bs F.forest H.forest → ⊥) Fs k h.0, later_without Fs k h.1)

-- All forests, those to do and those done.

cases_of : (todo done : List SoundForest) (N : Forest) → IsIn N (forests todo ++ forests done) → (s : SoundForest)
    × (N ≡ s.forest) × (IsIn s todo ⊎ IsIn s done)
cases_of todo done N i = elim (in_append N (forests todo) (forests done) i) [
  | inl k ↦ (let m = in_mapped (λ (s : SoundForest). s.forest) N todo k in (m.0, m.2, inl m.1))
  | inr k ↦ (let m = in_mapped (λ (s : SoundForest). s.forest) N done k in (m.0, m.2, inr m.1))
]

of_cases : (todo done : List SoundForest) (s : SoundForest) → IsIn s todo ⊎ IsIn s done
    → IsIn s.forest (forests todo ++ forests done)
of_cases todo done s (inl i) = in_left s.forest (forests todo) (forests done) (in_forests s todo i)
of_cases todo done s (inr i) = in_right s.forest (forests todo) (forests done) (in_forests s done i)

named : (todo done : List SoundForest) (N : Forest) (s : SoundForest) → N ≡ s.forest → IsIn s todo ⊎ IsIn s done
    → IsIn N (forests todo ++ forests done)
named todo done N s e i = subst (λ (z : Forest). IsIn z (forests todo ++ forests done)) (sym e) (of_cases todo done s i)

module _ (face : Face) (given : List SoundForest) where
  -- at first all are to do
  pub joining_first : Every (IsReady face) given → IsJoining face given given []
  joining_first h = record {
    todo_ready = h;
    done_ready = tt;
    apart = tt;
    plain = λ p. (p, tt);
    joined = λ T. joined_moved T (forests given) (forests given) (forests given ++ [])
        (λ N i. in_left N (forests given) [] i)
        (λ N i. elim (in_append N (forests given) [] i) [ inl k ↦ k | inr k ↦ absurd k ])
        (joined_same T (forests given));
    fewer = omega arith;
  }

  -- one that can be joined with none of those done is done
  pub joining_push : (todo done : List SoundForest) (next : SoundForest)
      → Every (λ s. Joinable face.boxes s.forest next.forest → ⊥) done → IsJoining face given (todo ++ next ∷ []) done
      → IsJoining face given todo (done ++ next ∷ [])
  joining_push todo done next none h =
      let parts = every_parts (IsReady face) todo (next ∷ []) h.todo_ready in record {
        todo_ready = parts.0;
        done_ready = every_push (IsReady face) done next h.done_ready parts.1.0;
        apart = later_push face.boxes done next h.apart none;
        plain =
            λ p.
            (let q = h.plain p in
            let w = every_parts HasNoEdges todo (next ∷ []) q.0 in
            (w.0, every_push HasNoEdges done next q.1 w.1.0));
        joined = λ T. joined_moved T (forests given) (forests (todo ++ next ∷ []) ++ forests done)
            (forests todo ++ forests (done ++ next ∷ []))
            (λ N i.
            (let c = cases_of (todo ++ next ∷ []) done N i in
            named todo (done ++ next ∷ []) N c.0 c.1 (forth c.0 c.2)))
            (λ N i.
            (let c = cases_of todo (done ++ next ∷ []) N i in
            named (todo ++ next ∷ []) done N c.0 c.1 (back c.0 c.2)))
            (h.joined T);
        fewer =
            (let l = h.fewer in let m = length-append todo (next ∷ []) in let n = length-append done (next ∷ []) in
            omega (arith, l, m, n));
      }
    where
      forth : (s : SoundForest) → IsIn s (todo ++ next ∷ []) ⊎ IsIn s done → IsIn s todo ⊎ IsIn s (done ++ next ∷ [])
      forth s (inl i) = elim (in_append s todo (next ∷ []) i)
          [ inl k ↦ inl k | inr k ↦ inr (in_right s done (next ∷ []) k) ]
      forth s (inr i) = inr (in_left s done (next ∷ []) i)

      back : (s : SoundForest) → IsIn s todo ⊎ IsIn s (done ++ next ∷ []) → IsIn s (todo ++ next ∷ []) ⊎ IsIn s done
      back s (inl i) = inl (in_left s todo (next ∷ []) i)
      back s (inr i) = elim (in_append s done (next ∷ []) i)
          [ inl k ↦ inr k | inr k ↦ inl (in_right s todo (next ∷ []) k) ]

  -- one that is joined with one of those done, which is taken out, is to do
  pub joining_join : (todo done : List SoundForest) (next other made : SoundForest) (k : ℕ) → slice_get done k
      ≡ Some other → IsReady face made → (HasNoEdges other → HasNoEdges next → HasNoEdges made)
      → Joins other.forest next.forest made.forest
      → IsJoining face given (todo ++ next ∷ []) done → IsJoining face given (todo ++ made ∷ []) (remove done k)
  joining_join todo done next other made k at ready keeps j h =
      let parts = every_parts (IsReady face) todo (next ∷ []) h.todo_ready in record {
        todo_ready = every_push (IsReady face) todo made parts.0 ready;
        done_ready = every_without (IsReady face) done k h.done_ready;
        apart = later_without face.boxes done k h.apart;
        plain =
            λ p.
            (let q = h.plain p in
            let w = every_parts HasNoEdges todo (next ∷ []) q.0 in
            let o = every_in HasNoEdges done other q.1 (in_from_place done k other at) in
            (every_push HasNoEdges todo made w.0 (keeps o w.1.0), every_without HasNoEdges done k q.1));
        joined = λ T. joined_step T (forests given) (forests (todo ++ next ∷ []) ++ forests done)
            (forests (todo ++ made ∷ []) ++ forests (remove done k)) other.forest next.forest made.forest
            (of_cases (todo ++ next ∷ []) done other (inr (in_from_place done k other at)))
            (of_cases (todo ++ next ∷ []) done next (inl (in_right next todo (next ∷ []) (inl refl))))
            (of_cases (todo ++ made ∷ []) (remove done k) made (inl (in_right made todo (made ∷ []) (inl refl))))
            j
            (λ N i. (let c = cases_of (todo ++ next ∷ []) done N i in forth N c.0 c.1 c.2))
            (λ N i. (let c = cases_of (todo ++ made ∷ []) (remove done k) N i in back N c.0 c.1 c.2))
            (h.joined T);
        fewer =
            (let l = h.fewer in let m = length-append todo (next ∷ []) in let n = length-append todo (made ∷ []) in
            let w = without_long done k other at in omega (arith, l, m, n, w));
      }
    where
      forth : (N : Forest) (s : SoundForest) → N ≡ s.forest → IsIn s (todo ++ next ∷ []) ⊎ IsIn s done
          → (N ≡ other.forest) ⊎ ((N ≡ next.forest) ⊎ IsIn N (forests (todo ++ made ∷ []) ++ forests (remove done k)))
      forth N s e (inl i) = elim (in_append s todo (next ∷ []) i) [
        | inl q ↦ inr (inr (named (todo ++ made ∷ []) (remove done k) N s e (inl (in_left s todo (made ∷ []) q))))
        | inr q ↦ elim q [
          | inl v ↦ inr (inl (e ∙ ap (λ (z : SoundForest). z.forest) v))
          | inr v ↦ absurd v
        ]
      ]
      forth N s e (inr i) = elim (in_without done k other s at i) [
        | inl v ↦ inl (e ∙ ap (λ (z : SoundForest). z.forest) v)
        | inr q ↦ inr (inr (named (todo ++ made ∷ []) (remove done k) N s e (inr q)))
      ]

      back : (N : Forest) (s : SoundForest) → N ≡ s.forest → IsIn s (todo ++ made ∷ []) ⊎ IsIn s (remove done k)
          → (N ≡ made.forest) ⊎ IsIn N (forests (todo ++ next ∷ []) ++ forests done)
      back N s e (inl i) = elim (in_append s todo (made ∷ []) i) [
        | inl q ↦ inr (named (todo ++ next ∷ []) done N s e (inl (in_left s todo (next ∷ []) q)))
        | inr q ↦ elim q [
          | inl v ↦ inl (e ∙ ap (λ (z : SoundForest). z.forest) v)
          | inr v ↦ absurd v
        ]
      ]
      back N s e (inr i) = inr (named (todo ++ next ∷ []) done N s e (inr (without_in done k s i)))

-- Ready forests.

pub all_ready : (face : Face) (Fs : List SoundForest) → Every (λ s. s.face ≡ face) Fs
    → Every (λ s. IsCanonical s.face s.forest) Fs → Every (λ s. Reduced s.forest) Fs → Every (IsReady face) Fs
all_ready face [] f c r = tt
all_ready face (F ∷ Fs) f c r =
    (record { over = f.0; canonical = c.0; reduced = r.0 }, all_ready face Fs f.1 c.1 r.1)

-- the partner that was found is the forest at its place
pub partner_joins : (bs : List BoxFace) (Fs : List SoundForest) (G : Forest) (found : Partner) (other : SoundForest)
    → IsPartner bs Fs G found → slice_get Fs found.place ≡ Some other → CanJoin bs other.forest G found.differing
partner_joins bs Fs G found other (F, e, k) i =
    subst (λ (s : SoundForest). CanJoin bs s.forest G found.differing) (same_Some F other (sym e ∙ i)) k

-- over its own face
pub own_face : (face : Face) (F G : SoundForest) → IsReady face F → IsReady face G → IsReady F.face G
own_face face F G f g = subst (λ (x : Face). IsReady x G) (sym f.over) g
