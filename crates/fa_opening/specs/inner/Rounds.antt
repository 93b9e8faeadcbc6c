-- Box edges for a field replaced one after the other: the boxes of those that are left have lower numbers each time.
use Rattle.std.specs.Prelude.{◌≡◌, ◌<◌, ◌⊎◌, ℕ, suc, true, List, [], ◌∷◌, length, Option, Some, None, slice_get}
use Rattle.fore_base.specs.Lists.{IsIn, Every, IsDistinct}
use Rattle.ta_core.specs.Single.{HasOneTop}
use Rattle.ta_core.specs.declared.auto.Rule.{Rule}
use Rattle.ta_core.specs.declared.symbol.Slot.{Slot}
use Rattle.ta_core.specs.declared.symbol.Symbol.TheVariants.{Ref}
use Rattle.fa_core.specs.declared.boxes.BoxDef.{BoxDef}
use Rattle.fa_core.specs.declared.faces.BoxFace.{BoxFace}
use Rattle.fa_core.specs.declared.forest.Forest.{Forest}
use Rattle.fa_core.specs.declared.forest.Target.TheVariants.{At}
use Rattle.fa_core.specs.Boxes.{Boxes}
use Rattle.fa_core.specs.Choices.{all_numbers}
use Rattle.fa_core.specs.Dressed.{Nodes}
use Rattle.fa_core.specs.Member.{OfForest, Regroups}
use Rattle.fa_sound.specs.Components.{component_at}
use Rattle.fa_sound.specs.Soundness.{SoundForest}
use Rattle.fa_split.specs.Divided.{HasVarsOf}
use Rattle.fa_split.specs.Split.{top_rule}
use Rattle.fa_lift.specs.Lift.{MayRefer, slot_gives}
use Rattle.fa_unfold.specs.Opens.{Item, item_boxes, items}
use Rattle.fa_unfold.specs.Slots.{Place, rule_places}
use Rattle.fa_unfold.specs.UnfoldingOf.{root_slots}
use Rattle.fa_opening.specs.Opened.{IsBared, IsEdgeForRoot, IsThatField, OpensFrom, StaysPlain, slot_covers}

-- the slot is there and is a box edge that covers field f
abbrev pub IsCoverAt : List BoxFace → ℕ → Option Slot → Type 0
IsCoverAt bs f None = ⊥
IsCoverAt bs f (Some s) = slot_covers bs f s ≡ true

-- each rule of the state is the leaf Ref(r), and there is one
pub record IsOnlyRef (rules : List Rule) (r q : ℕ) : Type 0 where
  pub there : MayRefer rules r q
  pub only : (x : Rule) → IsIn x rules → x.state ≡ q → x.symbol ≡ Ref r

-- the states are one, of which each rule is that leaf
abbrev pub IsRefAlone : List Rule → ℕ → List ℕ → Type 0
IsRefAlone rules r qs = (q : ℕ) × (qs ≡ q ∷ []) × IsOnlyRef rules r q

-- the slot gives field f to its end, which is that leaf alone
abbrev pub IsGivingPlace : List BoxFace → ℕ → ℕ → List Rule → Place → Type 0
IsGivingPlace bs r f rules x = (slot_gives bs f x.0 ≡ true) × IsRefAlone rules r x.1

-- root u has one rule, whose slot p gives field f to root r, which alone stands at its end
pub record IsGiver (bs : List BoxFace) (r f : ℕ) (F : Forest) (u p : ℕ) : Type 0 where
  pub root : u < length F.autos
  pub top : HasOneTop (component_at F.autos u)
  pub place : Place
  pub there : slice_get (rule_places (top_rule (component_at F.autos u))) p ≡ Some place
  pub gives : IsGivingPlace bs r f (component_at F.autos u).rules place

abbrev pub HasGiver : List BoxFace → ℕ → ℕ → Forest → Type 0
HasGiver bs r f F = (u : ℕ) × (p : ℕ) × IsGiver bs r f F u p

-- root u is r and has one rule, whose slot p is a box edge that covers field f
pub record IsCovering (bs : List BoxFace) (r f : ℕ) (F : Forest) (u p : ℕ) : Type 0 where
  pub root : u < length F.autos
  pub same : u ≡ r
  pub top : HasOneTop (component_at F.autos u)
  pub covers : IsCoverAt bs f (slice_get (root_slots F u) p)

-- the slot is one of the two
abbrev pub IsNeeded : List BoxFace → ℕ → ℕ → Forest → ℕ → ℕ → Type 0
IsNeeded bs r f F u p = IsCovering bs r f F u p ⊎ IsGiver bs r f F u p

-- in each dressed forest whose cells have different numbers, the box edges for field f of root r are of boxes below k
abbrev pub AreBelow : List BoxFace → List BoxDef → ℕ → ℕ → Forest → ℕ → Type 0
AreBelow bs T r f F k = (d : Nodes) → OfForest T F d → IsDistinct (all_numbers d) → (y : Item) → IsIn y (items d)
    → IsEdgeForRoot bs r f d y → Every (λ b. b < k) (item_boxes y)

-- there are none, or they are of boxes below k
abbrev pub IsLeft : List BoxFace → List BoxDef → ℕ → ℕ → Forest → ℕ → Type 0
IsLeft bs T r f F k = IsBared bs r f F ⊎ AreBelow bs T r f F k

-- s stands over the face of the table, and a variable is at root r
pub record IsAtRoot (t : Boxes) (r : ℕ) (s : SoundForest) : Type 0 where
  pub face : t.face ≡ s.face
  pub target : IsIn (At r) s.forest.vars

-- besides, root r has one rule
pub record IsReady (t : Boxes) (r : ℕ) (s : SoundForest) : Type 0 where
  pub at : IsAtRoot t r s
  pub top : HasOneTop (component_at s.forest.autos r)

-- s is F with some box edges for field f of root r replaced, and root r has one rule
pub record IsStage (t : Boxes) (r f : ℕ) (F : Forest) (s : SoundForest) : Type 0 where
  pub face_kept : s.face ≡ t.face
  pub vars_kept : HasVarsOf F s.forest
  pub plain_kept : StaysPlain F s.forest
  pub top : HasOneTop (component_at s.forest.autos r)
  pub from : OpensFrom t.face.boxes t.defs r (IsThatField f) F s.forest

-- one was replaced
pub record IsLowered (t : Boxes) (r f : ℕ) (F : Forest) (s : SoundForest) : Type 0 where
  pub stage : IsStage t r f F s
  pub lower : (k : ℕ) → AreBelow t.face.boxes t.defs r f F (suc k) → AreBelow t.face.boxes t.defs r f s.forest k

-- one was replaced, or there was none
pub record IsStepped (t : Boxes) (r f : ℕ) (F : Forest) (s : SoundForest) : Type 0 where
  pub stage : IsStage t r f F s
  pub less : (k : ℕ) → IsLeft t.face.boxes t.defs r f F (suc k) → IsLeft t.face.boxes t.defs r f s.forest k

-- those that are left are of boxes below k
pub record IsRound (t : Boxes) (r f : ℕ) (F : Forest) (k : ℕ) (s : SoundForest) : Type 0 where
  pub stage : IsStage t r f F s
  pub left : IsLeft t.face.boxes t.defs r f s.forest k

-- s has one rule of root r of S
pub record IsChoiceOf (r : ℕ) (S s : SoundForest) : Type 0 where
  pub face_kept : s.face ≡ S.face
  pub vars_kept : HasVarsOf S.forest s.forest
  pub top : HasOneTop (component_at s.forest.autos r)
  pub regroups : (T : List BoxDef) → Regroups T S.forest s.forest
