-- Box edges for one field after the other of a root's cell opened.
use Rattle.std.proofs.Common.{◌≡◌, inl, inr, ℕ, zero, suc, List, [], ◌∷◌, ◌++◌, sym, subst, ◌∙◌}
use Rattle.fore_base.specs.Lists.{IsIn, Every}
use Rattle.fore_base.proofs.ListLemmas.{every_in, every_push, every_weaker, in_every, in_left, in_last}
use Rattle.ta_core.specs.Single.{HasOneTop}
use Rattle.fa_core.specs.declared.boxes.BoxDef.{BoxDef}
use Rattle.fa_core.specs.declared.faces.BoxFace.{BoxFace}
use Rattle.fa_core.specs.declared.faces.Face.{Face}
use Rattle.fa_core.specs.declared.forest.Forest.{Forest}
use Rattle.fa_core.specs.declared.forest.Target.{Target}
use Rattle.fa_core.specs.declared.forest.Target.TheVariants.{At}
use Rattle.fa_core.specs.Boxes.{Boxes, IsBoxTable}
use Rattle.fa_core.specs.Boxless.{HasNoBoxes}
use Rattle.fa_core.specs.Dressed.{SeenField, SeenLink, SeenHook}
use Rattle.fa_core.specs.Filled.{gives_in_of}
use Rattle.fa_core.specs.Member.{Regroups}
use Rattle.fa_core.specs.Ways.{gives_out_of}
use Rattle.fa_core.proofs.Counts.{in_or_out}
use Rattle.fa_back.specs.Insides.{AreRankedInsides}
use Rattle.fa_sound.specs.Components.{component_at}
use Rattle.fa_sound.specs.Soundness.{SoundForest, IsSigned}
use Rattle.fa_sound.specs.Unions.{forests}
use Rattle.fa_split.specs.Divided.{HasVarsOf}
use Rattle.fa_unfold.specs.Opens.{Item, IsCell, HasSlot}
use Rattle.fa_opening.specs.Each.{OfSome}
use Rattle.fa_opening.specs.Opened.{HasFieldsAlone, IsAnyField, IsBared, IsEdgeFor, IsThatField, OpensFrom, OpensInto}
use Rattle.fa_opening.specs.Opened.{StaysPlain}
use Rattle.fa_opening.specs.inner.Clearing.{AreIn, AreNamed, IsCleared, IsOpenedPart}
use Rattle.fa_opening.specs.inner.Rounds.{IsAtRoot}
use Rattle.fa_opening.proofs.BaredFields.{bared_fields}
use Rattle.fa_opening.proofs.BaredKept.{bared_kept}
use Rattle.fa_opening.proofs.BaredRoots.{bared}
use Rattle.fa_opening.proofs.OpenedForests.{from_more, from_on, from_regrouped, into_each, into_more}
use Rattle.fa_opening.proofs.Rounds.{every_forest}
use Rattle.fa_opening.proofs.Steps.{in_forests, over_of, root_there}

-- Fields that no box names.

named_in : (bs : List BoxFace) (fs : List ℕ) → AreNamed bs fs → (b f : ℕ) → IsIn f (gives_in_of bs b) → IsIn f fs
named_in [] fs h b f i = absurd i
named_in (x ∷ bs) fs h zero f i = every_in (λ g. IsIn g fs) x.gives_in f h.0.0 i
named_in (x ∷ bs) fs h (suc b) f i = named_in bs fs h.1 b f i

named_out : (bs : List BoxFace) (fs : List ℕ) → AreNamed bs fs → (b f : ℕ) → IsIn f (gives_out_of bs b) → IsIn f fs
named_out [] fs h b f i = absurd i
named_out (x ∷ bs) fs h zero f i = every_in (λ g. IsIn g fs) x.gives_out f h.0.1 i
named_out (x ∷ bs) fs h (suc b) f i = named_out bs fs h.1 b f i

-- a box edge is for a field of the list
edge_named : (bs : List BoxFace) (fs : List ℕ) → AreNamed bs fs → (n f : ℕ) (y : Item) → IsEdgeFor bs n f y
    → IsIn f fs
edge_named bs fs h n f (IsCell c s ds) w = absurd w
edge_named bs fs h n f (HasSlot c (SeenField g v)) (inl w) = absurd w.1
edge_named bs fs h n f (HasSlot c (SeenField g v)) (inr w) = absurd w
edge_named bs fs h n f (HasSlot c (SeenLink b i v)) (inl w) = named_in bs fs h b f w.1
edge_named bs fs h n f (HasSlot c (SeenLink b i v)) (inr w) = named_out bs fs h b f w.1
edge_named bs fs h n f (HasSlot c (SeenHook b i)) (inl w) = named_in bs fs h b f w.1
edge_named bs fs h n f (HasSlot c (SeenHook b i)) (inr w) = absurd w

module _ (t : Boxes) (table : IsBoxTable t) (insides : AreRankedInsides t.defs) (r : ℕ) (F : Forest)
    (target : IsIn (At r) F.vars) where
  abbrev bs : List BoxFace
  bs = t.face.boxes

  abbrev T : List BoxDef
  T = t.defs

  target_of : (G : Forest) → HasVarsOf F G → IsIn (At r) G.vars
  target_of G v = subst (λ (xs : List Target). IsIn (At r) xs) (sym v.0) target

  -- Each can be opened further.

  pub cleared_ready : (fs : List ℕ) (parts : List SoundForest) → Every (IsCleared t r F fs) parts
      → Every (IsAtRoot t r) parts
  cleared_ready fs parts h = every_weaker (IsCleared t r F fs) (IsAtRoot t r) parts
      (λ s k. record { face = sym k.face_kept; target = target_of s.forest k.vars_kept })
      h

  pub cleared_vars : (fs : List ℕ) (parts : List SoundForest) → Every (IsCleared t r F fs) parts
      → Every (HasVarsOf F) (forests parts)
  cleared_vars fs parts h = every_forest (HasVarsOf F) parts
      (every_weaker (IsCleared t r F fs) (λ s. HasVarsOf F s.forest) parts (λ s k. k.vars_kept) h)

  pub cleared_plain : (fs : List ℕ) (parts : List SoundForest) → Every (IsCleared t r F fs) parts
      → Every (StaysPlain F) (forests parts)
  cleared_plain fs parts h = every_forest (StaysPlain F) parts
      (every_weaker (IsCleared t r F fs) (λ s. StaysPlain F s.forest) parts (λ s k. k.plain_kept) h)

  pub cleared_from : (fs : List ℕ) (parts : List SoundForest) → Every (IsCleared t r F fs) parts
      → Every (OpensFrom bs T r IsAnyField F) (forests parts)
  cleared_from fs parts h = every_forest (OpensFrom bs T r IsAnyField F) parts
      (every_weaker (IsCleared t r F fs) (λ s. OpensFrom bs T r IsAnyField F s.forest) parts (λ s k. k.from) h)

  pub cleared_face : (fs : List ℕ) (parts : List SoundForest) → Every (IsCleared t r F fs) parts
      → (s : SoundForest) → t.face ≡ s.face → Every (λ (z : SoundForest). z.face ≡ s.face) parts
  cleared_face fs parts h s e =
      every_weaker (IsCleared t r F fs) (λ z. z.face ≡ s.face) parts (λ z k. k.face_kept ∙ e) h

  -- One field more.

  one_next : (fs : List ℕ) (f : ℕ) (S s : SoundForest) → IsCleared t r F fs S → IsOpenedPart t r f S s
      → IsCleared t r F (fs ++ f ∷ []) s
  one_next fs f S s a b =
      let face : t.face ≡ s.face = sym (b.face_kept ∙ a.face_kept) in
      record {
        signed = b.signed;
        face_kept = b.face_kept ∙ a.face_kept;
        vars_kept = (b.vars_kept.0 ∙ a.vars_kept.0, b.vars_kept.1 ∙ a.vars_kept.1);
        plain_kept = λ plain. b.plain_kept (a.plain_kept plain);
        top = b.bared.top;
        bared = every_push (λ g. IsBared bs r g s.forest) fs f
            (every_weaker (λ g. IsBared bs r g S.forest) (λ g. IsBared bs r g s.forest) fs
            (λ g k. bared_kept t S.forest s.forest (over_of t S (sym a.face_kept) a.signed table insides)
            (over_of t s face b.signed table insides) r g b.vars_kept.0 (target_of S.forest a.vars_kept) k
            (IsThatField f) b.from b.bared.root b.bared.top) a.bared) b.bared;
        from = from_on bs r IsAnyField T F S.forest s.forest a.vars_kept.0 target a.from
            (from_more bs r (IsThatField f) T IsAnyField (λ g k. tt) S.forest s.forest b.from);
      }

  pub cleared_next : (fs : List ℕ) (f : ℕ) (parts made : List SoundForest) → Every (IsCleared t r F fs) parts
      → Every (OfSome (IsOpenedPart t r f) parts) made → Every (IsCleared t r F (fs ++ f ∷ [])) made
  cleared_next fs f parts made h k =
      every_weaker (OfSome (IsOpenedPart t r f) parts) (IsCleared t r F (fs ++ f ∷ [])) made
      (λ s w. one_next fs f w.0 s (every_in (IsCleared t r F fs) parts w.0 h w.1) w.2) k

  pub cleared_whole : (fs : List ℕ) (f : ℕ) (parts made : List SoundForest) → Every (IsCleared t r F fs) parts
      → OpensInto bs T r IsAnyField F (forests parts)
      → ((S : SoundForest) → IsIn S parts → OpensInto bs T r (IsThatField f) S.forest (forests made))
      → OpensInto bs T r IsAnyField F (forests made)
  cleared_whole fs f parts made h into whole =
      into_each bs r IsAnyField T F parts (forests made) (cleared_vars fs parts h) target into
      (λ S i. into_more bs r (IsThatField f) T IsAnyField (λ g k. tt) S.forest (forests made) (whole S i))

  -- No field is left.

  pub cleared_bared : (fs : List ℕ) → AreNamed bs fs → (made : List SoundForest) → Every (IsCleared t r F fs) made
      → (f : ℕ) → Every (IsBared bs r f) (forests made)
  cleared_bared fs named made h f = every_forest (IsBared bs r f) made
      (every_weaker (IsCleared t r F fs) (λ s. IsBared bs r f s.forest) made one h)
    where
      one : (s : SoundForest) → IsCleared t r F fs s → IsBared bs r f s.forest
      one s k = elim (in_or_out f fs) [
        | inl i ↦ every_in (λ g. IsBared bs r g s.forest) fs f k.bared i
        | inr d ↦ bared t s.forest (over_of t s (sym k.face_kept) k.signed table insides) r f
            (root_there s r k.signed (target_of s.forest k.vars_kept)) k.top
            (λ e of apart y i w. absurd (d (edge_named bs fs named w.0 f y w.2)))
      ]

  -- so each slot of the root is a field
  pub cleared_fields : (fs : List ℕ) → AreNamed bs fs → (made : List SoundForest) → Every (IsCleared t r F fs) made
      → Every (λ (G : Forest). HasFieldsAlone G r) (forests made)
  cleared_fields fs named made h = every_forest (λ G. HasFieldsAlone G r) made
      (in_every (λ s. HasFieldsAlone s.forest r) made
      (λ s i. (let k = every_in (IsCleared t r F fs) made s h i in
      let there = root_there s r k.signed (target_of s.forest k.vars_kept) in
      bared_fields t.face s.forest r (over_of t s (sym k.face_kept) k.signed table insides).sound there k.top
      (λ f. every_in (IsBared bs r f) (forests made) s.forest (cleared_bared fs named made h f)
      (in_forests made s i)))))

-- The first forests: those with one rule of the root each.
pub cleared_first : (t : Boxes) (r : ℕ) (s : SoundForest) → t.face ≡ s.face → (made : List SoundForest)
    → Every IsSigned made → Every (λ (z : SoundForest). z.face ≡ s.face) made
    → Every (HasVarsOf s.forest) (forests made)
    → (Every HasNoBoxes s.forest.autos → Every (λ (G : Forest). Every HasNoBoxes G.autos) (forests made))
    → Every (λ (G : Forest). HasOneTop (component_at G.autos r)) (forests made)
    → Every (Regroups t.defs s.forest) (forests made) → Every (IsCleared t r s.forest []) made
cleared_first t r s face made known faces vars plains tops regroups = in_every (IsCleared t r s.forest []) made
    (λ z i. (let j = in_forests made z i in
    record {
      signed = every_in IsSigned made z known i;
      face_kept = every_in (λ (z : SoundForest). z.face ≡ s.face) made z faces i ∙ sym face;
      vars_kept = every_in (HasVarsOf s.forest) (forests made) z.forest vars j;
      plain_kept = λ plain. every_in (λ (G : Forest). Every HasNoBoxes G.autos) (forests made) z.forest
          (plains plain) j;
      top = every_in (λ (G : Forest). HasOneTop (component_at G.autos r)) (forests made) z.forest tops j;
      bared = tt;
      from = from_regrouped t.face.boxes r IsAnyField t.defs s.forest z.forest
          (every_in (Regroups t.defs s.forest) (forests made) z.forest regroups j);
    }))

-- The forests of one call of `open_edges`.
pub opened_parts : (t : Boxes) (r f : ℕ) (s : SoundForest) → t.face ≡ s.face → (made : List SoundForest)
    → Every IsSigned made → Every (IsBared s.face.boxes r f) (forests made)
    → Every (λ (z : SoundForest). z.face ≡ s.face) made → Every (HasVarsOf s.forest) (forests made)
    → Every (StaysPlain s.forest) (forests made)
    → Every (OpensFrom s.face.boxes t.defs r (IsThatField f) s.forest) (forests made)
    → Every (IsOpenedPart t r f s) made
opened_parts t r f s face made known bares faces vars stays each = in_every (IsOpenedPart t r f s) made
    (λ z i. (let j = in_forests made z i in
    record {
      signed = every_in IsSigned made z known i;
      face_kept = every_in (λ (z : SoundForest). z.face ≡ s.face) made z faces i;
      vars_kept = every_in (HasVarsOf s.forest) (forests made) z.forest vars j;
      plain_kept = every_in (StaysPlain s.forest) (forests made) z.forest stays j;
      bared = subst (λ (x : Face). IsBared x.boxes r f z.forest) (sym face)
          (every_in (IsBared s.face.boxes r f) (forests made) z.forest bares j);
      from = subst (λ (x : Face). OpensFrom x.boxes t.defs r (IsThatField f) s.forest z.forest) (sym face)
          (every_in (OpensFrom s.face.boxes t.defs r (IsThatField f) s.forest) (forests made) z.forest each j);
    }))

-- Fields added.

pub in_kept : (xs fs : List ℕ) (f : ℕ) → AreIn xs fs → AreIn xs (fs ++ f ∷ [])
in_kept xs fs f h =
    every_weaker (λ g. IsIn g fs) (λ g. IsIn g (fs ++ f ∷ [])) xs (λ g i. in_left g fs (f ∷ []) i) h

pub in_added : (xs fs : List ℕ) (f : ℕ) → AreIn xs fs → AreIn (xs ++ f ∷ []) (fs ++ f ∷ [])
in_added xs fs f h = every_push (λ g. IsIn g (fs ++ f ∷ [])) xs f (in_kept xs fs f h) (in_last f fs)

pub in_there : (xs fs : List ℕ) (f : ℕ) → AreIn xs fs → IsIn f fs → AreIn (xs ++ f ∷ []) fs
in_there xs fs f h i = every_push (λ g. IsIn g fs) xs f h i

pub in_self : (fs : List ℕ) → AreIn fs fs
in_self fs = in_every (λ g. IsIn g fs) fs (λ g i. i)

pub in_both : (xs fs gs : List ℕ) → AreIn xs fs → AreIn fs gs → AreIn xs gs
in_both xs fs gs a b = every_weaker (λ g. IsIn g fs) (λ g. IsIn g gs) xs (λ g i. every_in (λ g. IsIn g gs) fs g b i) a

pub named_more : (bs : List BoxFace) (fs gs : List ℕ) → AreIn fs gs → AreNamed bs fs → AreNamed bs gs
named_more bs fs gs k h =
    every_weaker (λ (x : BoxFace). AreIn x.gives_in fs × AreIn x.gives_out fs)
    (λ (x : BoxFace). AreIn x.gives_in gs × AreIn x.gives_out gs) bs
    (λ x w. (in_both x.gives_in fs gs w.0 k, in_both x.gives_out fs gs w.1 k)) h

pub named_next : (bs : List BoxFace) (x : BoxFace) (fs gs hs : List ℕ) → AreNamed bs fs → AreIn x.gives_in gs
    → AreIn fs gs → AreIn x.gives_out hs → AreIn gs hs → AreNamed (bs ++ x ∷ []) hs
named_next bs x fs gs hs h a b c d =
    every_push (λ (x : BoxFace). AreIn x.gives_in hs × AreIn x.gives_out hs) bs x
    (named_more bs fs hs (in_both fs gs hs b d) h) (in_both x.gives_in gs hs a d, c)
