-- Forests taken along an edge one after the other, and joined.
use Rattle.std.proofs.Common.{◌≡◌, inl, inr, List, [], ◌∷◌, ◌++◌, map, length, sym, ap, subst, ◌∙◌, append-nil}
use Rattle.fore_base.specs.Lists.{IsIn, Every}
use Rattle.fore_base.specs.declared.store.Store.{Store}
use Rattle.fore_base.specs.declared.fault.Fault.{Fault}
use Rattle.fore_base.proofs.ListLemmas.{in_map, every_in, in_every, every_append, every_weaker, every_map}
use Rattle.fa_core.specs.Boxes.{IsTableOf}
use Rattle.fa_core.specs.Boxless.{HasNoBoxes}
use Rattle.fa_core.specs.Canonical.{IsCanonical}
use Rattle.fa_core.specs.Covering.{Reduced}
use Rattle.fa_core.specs.declared.boxes.BoxDef.{BoxDef}
use Rattle.fa_core.specs.declared.faces.Face.{Face}
use Rattle.fa_core.specs.declared.forest.Forest.{Forest}
use Rattle.fa_core.specs.declared.forest.Target.{Target}
use Rattle.fa_core.specs.Dressed.{Nodes, value_in, roots_of}
use Rattle.fa_core.specs.Member.{OfForest, StandsBy}
use Rattle.fa_sound.specs.Soundness.{SoundForest}
use Rattle.fa_split.specs.Divided.{forests, HasVarsOf}
use Rattle.fa_split.proofs.Steps.{forests_both}
use Rattle.fa_join.specs.Joined.{IsJoined}
use Rattle.c_cfg.specs.Edges.{Pass, Passed, Faulted, Halted, NotPassed, gstep}
use Rattle.c_cfg.specs.Ranges.{EdgeFits}
use Rattle.c_cfg.specs.declared.graph.Edge.{Edge}
use Rattle.sym_core.specs.Cases.{BadAt, StandsInOne, IsMet, AllCases, CaseOf}
use Rattle.sym_core.specs.Kept.{Keeps}
use Rattle.sym_step.specs.Posts.{bads, HasAsMany}
use Rattle.sym_step.specs.declared.posts.Bad.{Bad}
use Rattle.sym_step.specs.inner.Opening.{IsOpeningBy}
use Rattle.sym_step.specs.inner.Stepping.{HasDressed, IsStepping, IsSteppingBy, IsLike, IsNext, IsSettling}
use Rattle.sym_step.specs.inner.Stepping.{IsSettlingBy}
use Rattle.sym_step.proofs.OpenedForests.{like_on, like_self, bads_both}
use Rattle.sym_step.proofs.Stepping.{one_taken, none_left, stepping_fewer}

pub next_on : (face : Face) (F : Forest) (s t : SoundForest) → IsLike face F s → IsNext s.face s.forest t
    → IsNext face F t
next_on face F s t a b = record { like = like_on face F s t a b.like; canonical = b.canonical; reduced = b.reduced }

-- one forest of the list, taken along
module _ {P : List BoxDef → Type 0} (face : Face) (tables : (T : List BoxDef) → P T → IsTableOf face T) (F : Forest)
    (e : Edge) (G : SoundForest) (todo next : List SoundForest) (faults : List Bad) (more : List SoundForest)
    (bad : List Bad) (a : IsSettlingBy P face F e (G ∷ todo) next faults) (like : IsLike face F G)
    (b : IsSettling G.face G.forest e [] more bad) where
  own : IsStepping face G.forest e [] (forests more) (bads bad)
  own = subst (λ (f : Face). IsStepping f G.forest e [] (forests more) (bads bad)) like.face b.stepping

  stepped : IsSteppingBy P face F e (forests todo ++ []) (forests next ++ forests more) (bads faults ++ bads bad)
  stepped = one_taken face e F G.forest (forests todo) [] (forests next) (forests more) (bads faults) (bads bad)
      a.stepping (stepping_fewer face e tables G.forest [] (forests more) (bads bad) own)

  pub settled_more : IsSettlingBy P face F e todo (next ++ more) (faults ++ bad)
  settled_more = record {
    stepping = subst (λ (bs : List BadAt). IsSteppingBy P face F e (forests todo) (forests (next ++ more)) bs)
        (sym (bads_both faults bad))
        (subst (λ (Ns : List Forest). IsSteppingBy P face F e (forests todo) Ns (bads faults ++ bads bad))
        (sym (forests_both next more))
        (subst
        (λ (Gs : List Forest). IsSteppingBy P face F e Gs (forests next ++ forests more) (bads faults ++ bads bad))
        (append-nil (forests todo)) stepped));
    next = every_append (IsNext face F) next more a.next
        (every_weaker (IsNext G.face G.forest) (IsNext face F) more (λ s k. next_on face F G s like k) b.next);
    bad_like = every_append (λ (x : Bad). IsLike face F x.at) faults bad a.bad_like
        (every_weaker (λ (x : Bad). IsLike G.face G.forest x.at) (λ (x : Bad). IsLike face F x.at) bad
        (λ x k. like_on face F G x.at like k) b.bad_like);
  }

-- Joined forests.

-- the same dressed forest stands for the same stores
stands_same : (face : Face) (T : List BoxDef) (F G : Forest) (d : Nodes) (s : Store) → HasVarsOf F G → OfForest T G d
    → StandsBy face.shapes.structs T F d s → StandsBy face.shapes.structs T G d s
stands_same face T F G d s v o m = record {
  proper = m.proper;
  fields = m.fields;
  of = o;
  same_facts = m.same_facts;
  vars = m.vars ∙ ap (λ (ts : List Target). map (value_in (roots_of d)) ts) (sym v.0);
  data_vars = m.data_vars ∙ sym v.1;
}

module _ (face : Face) (F : Forest) (e : Edge) (Ns Ms : List Forest) (Bs : List BadAt)
    (joined : (T : List BoxDef) → IsJoined T Ns Ms) where
  in_joined : (T : List BoxDef) (s : Store) → StandsInOne face T Ns s → StandsInOne face T Ms s
  in_joined T s (N, i, (d, m)) =
      let k = (joined T).whole N i d m.of in
      (k.0, k.1, (d, stands_same face T N k.0 d s k.2 k.3 m))

  met_joined : (T : List BoxDef) (s : Store) (p : Pass) → IsMet face T Ns Bs s p → IsMet face T Ms Bs s p
  met_joined T s (Passed t) h = in_joined T t h
  met_joined T s (Faulted k) h = h
  met_joined T s Halted h = tt
  met_joined T s NotPassed h = tt

  keeps_joined : (T : List BoxDef) → Every (Keeps face T F e) Ns → (M : Forest) → IsIn M Ms → Keeps face T F e M
  keeps_joined T w M i d u m =
      let k = (joined T).only M i d m.of in
      every_in (Keeps face T F e) Ns k.0 w k.1 d u (stands_same face T M k.0 d u k.2 k.3 m)

  pub stepping_joined : {P : List BoxDef → Type 0} → IsSteppingBy P face F e [] Ns Bs
      → IsSteppingBy P face F e [] Ms Bs
  stepping_joined a = record {
    whole = λ T t s h. elim (a.whole T t s h)
        [ inl k ↦ inl k | inr k ↦ inr (met_joined T s (gstep face.shapes.structs e s) k) ];
    refines = λ T t. tt;
    keeps = λ T t. in_every (Keeps face T F e) Ms (λ M i. keeps_joined T (a.keeps T t) M i);
    bads = a.bads;
  }

  -- a joined forest has a dressed forest, and so the variables of one of those that were joined
  pub joined_many : Every (HasAsMany F) Ns → (M : Forest) → IsIn M Ms → HasDressed M → HasAsMany F M
  joined_many many M i has =
      let k = (joined has.0).only M i has.1 has.2 in
      let n = every_in (HasAsMany F) Ns k.0 many k.1 in
      (ap (λ (ts : List Target). length ts) (sym k.2.0) ∙ n.0, ap (λ ds. length ds) (sym k.2.1) ∙ n.1)

-- The forests that were opened are to be taken along.
pub settling_first : {Q : List BoxDef → Type 0} → (face : Face) (F : Forest) (e : Edge) (P : Forest → Type 0)
    (ready : List SoundForest) (faults : List Bad) → IsOpeningBy Q face F e P [] ready faults
    → IsSettlingBy Q face F e ready [] faults
settling_first face F e P ready faults a = record { stepping = a.stepping; next = tt; bad_like = a.bad_like }

-- The edge fits a forest with as many variables over the same structs.
pub fits_still : (face : Face) (F : Forest) (e : Edge) (s : SoundForest) → IsLike face F s
    → EdgeFits (length F.vars) (length F.data_vars) face.shapes.structs e
    → EdgeFits (length s.forest.vars) (length s.forest.data_vars) s.face.shapes.structs e
fits_still face F e s like h = rw (like.counts.0, like.counts.1, like.face) h

-- What one forest settles to.

module _ (G : SoundForest) (e : Edge) where
  pub settled_bad : (k : Fault) → IsStepping G.face G.forest e [] [] (record { fault = k; at = G.forest } ∷ [])
      → IsSettling G.face G.forest e [] [] (record { fault = k; at = G } ∷ [])
  settled_bad k a = record { stepping = a; next = tt; bad_like = (like_self G, tt) }

  pub settled_none : IsStepping G.face G.forest e [] [] [] → IsSettling G.face G.forest e [] [] []
  settled_none a = record { stepping = a; next = tt; bad_like = tt }

  -- what follows from an edited forest follows from the one before
  pub each_next_on : (R : SoundForest) → IsLike G.face G.forest R → (made : List SoundForest)
      → Every (IsNext R.face R.forest) made → Every (IsNext G.face G.forest) made
  each_next_on R like made h =
      every_weaker (IsNext R.face R.forest) (IsNext G.face G.forest) made (λ s k. next_on G.face G.forest R s like k) h

  pub settled_goes : (made : List SoundForest) → IsStepping G.face G.forest e [] (forests made) []
      → Every (IsNext G.face G.forest) made → IsSettling G.face G.forest e [] made []
  settled_goes made a next = record { stepping = a; next = next; bad_like = tt }

-- What is settled has the cases of the edge.

-- what keeps the box edges has true cases
pub keeps_cases : (face : Face) (T : List BoxDef) (F M : Forest) (e : Edge) → Keeps face T F e M → CaseOf face T F e M
keeps_cases face T F M e w u (d, m) =
    let c = w d u m in
    record { was = c.was; goes_to = c.goes_to; stands = (c.dressed, c.stands); goes = c.goes; alike = c.alike }

module _ {P : List BoxDef → Type 0} (face : Face) (F : Forest) (e : Edge) (made : List SoundForest) (faults : List Bad)
    (a : IsSettlingBy P face F e [] made faults) where
  pub settled_all : (T : List BoxDef) → P T → AllCases face T F e (forests made) (bads faults)
  settled_all T t = none_left face e F (forests made) (bads faults) a.stepping T t

  pub settled_cases : (T : List BoxDef) → P T → Every (CaseOf face T F e) (forests made)
  settled_cases T t = every_weaker (Keeps face T F e) (CaseOf face T F e) (forests made)
      (λ M k. keeps_cases face T F M e k) (a.stepping.keeps T t)

  pub settled_canonical : Every (λ (s : SoundForest). IsCanonical s.face s.forest) made
  settled_canonical = every_weaker (IsNext face F) (λ (s : SoundForest). IsCanonical s.face s.forest) made
      (λ s k. k.canonical) a.next

  pub settled_reduced : Every (λ (s : SoundForest). Reduced s.forest) made
  settled_reduced = every_weaker (IsNext face F) (λ (s : SoundForest). Reduced s.forest) made (λ s k. k.reduced) a.next

  pub settled_face : Every (λ (s : SoundForest). s.face ≡ face) made
  settled_face = every_weaker (IsNext face F) (λ (s : SoundForest). s.face ≡ face) made (λ s k. k.like.face) a.next

  pub settled_counts : Every (λ (s : SoundForest). HasAsMany F s.forest) made
  settled_counts = every_weaker (IsNext face F) (λ (s : SoundForest). HasAsMany F s.forest) made (λ s k. k.like.counts)
      a.next

  pub bad_face : Every (λ (b : Bad). b.at.face ≡ face) faults
  bad_face = every_weaker (λ (b : Bad). IsLike face F b.at) (λ (b : Bad). b.at.face ≡ face) faults (λ b k. k.face)
      a.bad_like

  pub bad_counts : Every (λ (b : Bad). HasAsMany F b.at.forest) faults
  bad_counts = every_weaker (λ (b : Bad). IsLike face F b.at) (λ (b : Bad). HasAsMany F b.at.forest) faults
      (λ b k. k.counts) a.bad_like

  -- without box edges where F has none
  pub settled_plain : Every HasNoBoxes F.autos → Every (λ (s : SoundForest). Every HasNoBoxes s.forest.autos) made
  settled_plain none = every_weaker (IsNext face F) (λ (s : SoundForest). Every HasNoBoxes s.forest.autos) made
      (λ s k. k.like.plain none) a.next

  pub bad_plain : Every HasNoBoxes F.autos → Every (λ (b : Bad). Every HasNoBoxes b.at.forest.autos) faults
  bad_plain none = every_weaker (λ (b : Bad). IsLike face F b.at) (λ (b : Bad). Every HasNoBoxes b.at.forest.autos)
      faults (λ b k. k.plain none) a.bad_like

  -- with other forests that have the same dressed forests
  pub settled_joined : (joined : List SoundForest) → ((T : List BoxDef) → IsJoined T (forests made) (forests joined))
      → Every (λ (s : SoundForest). IsCanonical s.face s.forest) joined
      → Every (λ (s : SoundForest). Reduced s.forest) joined
      → (Every (λ (s : SoundForest). Every HasNoBoxes s.forest.autos) made
      → Every (λ (s : SoundForest). Every HasNoBoxes s.forest.autos) joined)
      → Every (λ (s : SoundForest). s.face ≡ face) joined
      → Every (λ (s : SoundForest). HasDressed s.forest) joined → IsSettlingBy P face F e [] joined faults
  settled_joined joined same canonical reduced plains faces some = record {
    stepping = stepping_joined face F e (forests made) (forests joined) (bads faults) same a.stepping;
    next = in_every (IsNext face F) joined (λ s i. record {
      like = record {
        face = every_in (λ (t : SoundForest). t.face ≡ face) joined s faces i;
        counts = joined_many face F e (forests made) (forests joined) (bads faults) same
            (every_map (λ (t : SoundForest). t.forest) (HasAsMany F) made settled_counts) s.forest
            (in_map (λ (t : SoundForest). t.forest) s joined i)
            (every_in (λ (t : SoundForest). HasDressed t.forest) joined s some i);
        plain = λ none. every_in (λ (t : SoundForest). Every HasNoBoxes t.forest.autos) joined s
            (plains (settled_plain none)) i;
      };
      canonical = every_in (λ (t : SoundForest). IsCanonical t.face t.forest) joined s canonical i;
      reduced = every_in (λ (t : SoundForest). Reduced t.forest) joined s reduced i;
    });
    bad_like = a.bad_like;
  }
