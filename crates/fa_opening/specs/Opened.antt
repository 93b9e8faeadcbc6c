-- Box edges that cover or give a field of a root's cell, and forests in which such edges are replaced by their insides.
use Rattle.std.specs.Prelude.{◌≡◌, ◌<◌, ◌⊎◌, ℕ, Bool, false, List, map, length}
use Rattle.fore_base.specs.Lists.{IsIn, Every}
use Rattle.fore_base.specs.declared.store.Value.TheVariants.{Cell}
use Rattle.ta_core.specs.Single.{HasOneTop}
use Rattle.ta_core.specs.declared.symbol.Slot.{Slot}
use Rattle.ta_core.specs.declared.symbol.Slot.TheVariants.{Field, Link, Hook}
use Rattle.fa_core.specs.declared.boxes.BoxDef.{BoxDef}
use Rattle.fa_core.specs.declared.faces.BoxFace.{BoxFace}
use Rattle.fa_core.specs.declared.forest.Forest.{Forest}
use Rattle.fa_core.specs.Boxless.{HasNoBoxes}
use Rattle.fa_core.specs.Dressed.{Nodes, Seen, SeenField, SeenLink, SeenHook, facts, nth_value, roots_of, value_in}
use Rattle.fa_core.specs.Filled.{covers, gives_in_of}
use Rattle.fa_core.specs.Member.{OfForest}
use Rattle.fa_core.specs.Rearranged.{Rearranged}
use Rattle.fa_core.specs.Ways.{gives_out_of, has}
use Rattle.fa_sound.specs.Components.{component_at}
use Rattle.fa_lift.specs.Lift.{IsProvider}
use Rattle.fa_unfold.specs.Opens.{Item, IsCell, HasSlot, items}
use Rattle.fa_unfold.specs.UnfoldingOf.{root_slots}

-- Box edges of dressed forests.

-- the box of the slot covers field f at its own cell
abbrev pub CoversAt : List BoxFace → Seen → ℕ → Type 0
CoversAt bs (SeenField g v) f = ⊥
CoversAt bs (SeenLink b inside v) f = IsIn f (covers bs (Link b))
CoversAt bs (SeenHook b inside) f = IsIn f (covers bs (Hook b))

-- the box of the slot gives field f to cell n, at its end
abbrev pub GivesAt : List BoxFace → Seen → ℕ → ℕ → Type 0
GivesAt bs (SeenField g v) n f = ⊥
GivesAt bs (SeenLink b inside v) n f = (v ≡ Cell n) × IsIn f (gives_out_of bs b)
GivesAt bs (SeenHook b inside) n f = ⊥

-- the item is a box edge that covers field f at cell n, or gives it to that cell
abbrev pub IsEdgeFor : List BoxFace → ℕ → ℕ → Item → Type 0
IsEdgeFor bs n f (IsCell c s ds) = ⊥
IsEdgeFor bs n f (HasSlot c x) = ((c ≡ n) × CoversAt bs x f) ⊎ GivesAt bs x n f

-- so it is for the cell of root r of d
abbrev pub IsEdgeForRoot : List BoxFace → ℕ → ℕ → Nodes → Item → Type 0
IsEdgeForRoot bs r f d y = (n : ℕ) × (nth_value (roots_of d) r ≡ Cell n) × IsEdgeFor bs n f y

-- it is one for some field that meets P
abbrev pub IsEdgeForSome : List BoxFace → ℕ → (ℕ → Type 0) → Nodes → Item → Type 0
IsEdgeForSome bs r P d y = (f : ℕ) × P f × IsEdgeForRoot bs r f d y

-- the one field
abbrev pub IsThatField : ℕ → ℕ → Type 0
IsThatField f g = g ≡ f

-- any field
abbrev pub IsAnyField : ℕ → Type 0
IsAnyField g = Unit {0}

-- e of G says what d of F says: the same facts, variables and data; and each cell and slot of d stays, but for box
-- edges that cover a field that meets P at the cell of root r, or give one to that cell
pub record IsOpened (bs : List BoxFace) (r : ℕ) (P : ℕ → Type 0) (F G : Forest) (d e : Nodes) : Type 0 where
  pub same_facts : Rearranged (facts d) (facts e)
  pub stays : (y : Item) → IsIn y (items d) → IsIn y (items e) ⊎ IsEdgeForSome bs r P d y
  pub vars : map (value_in (roots_of d)) F.vars ≡ map (value_in (roots_of e)) G.vars
  pub data_vars : F.data_vars ≡ G.data_vars

-- each dressed forest of G is one of F, so opened
abbrev pub OpensFrom : List BoxFace → List BoxDef → ℕ → (ℕ → Type 0) → Forest → Forest → Type 0
OpensFrom bs T r P F G = (e : Nodes) → OfForest T G e → (d : Nodes) × OfForest T F d × IsOpened bs r P F G d e

-- each dressed forest of F is, so opened, one of some forest of the list
abbrev pub OpensInto : List BoxFace → List BoxDef → ℕ → (ℕ → Type 0) → Forest → List Forest → Type 0
OpensInto bs T r P F Gs = (d : Nodes) → OfForest T F d
    → (G : Forest) × IsIn G Gs × ((e : Nodes) × OfForest T G e × IsOpened bs r P F G d e)

-- Forests without box edges.

-- G has no box edge where F has none
abbrev pub StaysPlain : Forest → Forest → Type 0
StaysPlain F G = Every HasNoBoxes F.autos → Every HasNoBoxes G.autos

-- Roots of forests.

-- whether the slot is a box edge that covers field f
abbrev pub slot_covers : List BoxFace → ℕ → Slot → Bool
slot_covers bs f (Field g) = false
slot_covers bs f (Link b) = has f (gives_in_of bs b)
slot_covers bs f (Hook b) = has f (gives_in_of bs b)

-- root r has one rule, no box edge of which covers field f, and no box edge of the forest gives that field to the root:
-- it is a slot of the rule, or the struct has no such field
pub record IsBared (bs : List BoxFace) (r f : ℕ) (F : Forest) : Type 0 where
  pub root : r < length F.autos
  pub top : HasOneTop (component_at F.autos r)
  pub covered : Every (λ s. slot_covers bs f s ≡ false) (root_slots F r)
  pub given : (t : ℕ) → IsProvider bs F r f t → ⊥

-- the slot is a field
abbrev pub IsField : Slot → Type 0
IsField (Field f) = Unit {0}
IsField (Link b) = ⊥
IsField (Hook b) = ⊥

-- each slot of the one rule of root r is a field
abbrev pub HasFieldsAlone : Forest → ℕ → Type 0
HasFieldsAlone F r = Every IsField (root_slots F r)
