-- Parts of forests, and folds: a part that a box edge takes the place of.
use Rattle.std.specs.Prelude.{◌≡◌, ◌↔◌, ◌<◌, ℕ, zero, suc, ◌+◌, ◌-◌, Bool, false, not, nat_eq, nat_lt, if◌then◌else◌}
use Rattle.std.specs.Prelude.{List, [], ◌∷◌, ◌++◌, map, filter, flat_map, length, Option, Some, None, slice_get}
use Rattle.fore_base.specs.Lists.{IsIn, IsDistinct, Paired}
use Rattle.fore_base.specs.declared.store.Datum.{Datum}
use Rattle.ta_core.specs.Auto.{Automaton}
use Rattle.ta_core.specs.Language.{InLanguage, IsWithin}
use Rattle.ta_core.specs.Single.{HasOneTop}
use Rattle.ta_core.specs.declared.symbol.Slot.{Slot}
use Rattle.ta_core.specs.declared.symbol.Slot.TheVariants.{Field, Link, Hook}
use Rattle.ta_core.specs.declared.symbol.Symbol.{Symbol}
use Rattle.ta_core.specs.declared.symbol.Symbol.TheVariants.{Null, Uninit, Dangling, Ref, Cell}
use Rattle.ta_core.specs.declared.tree.Tree.{Tree, out-Tree, roll-Tree, fold-Tree}
use Rattle.fa_core.specs.declared.boxes.BoxDef.{BoxDef}
use Rattle.fa_core.specs.declared.faces.BoxFace.{BoxFace}
use Rattle.fa_core.specs.declared.folds.FoldStep.{FoldStep}
use Rattle.fa_core.specs.declared.forest.Forest.{Forest}
use Rattle.fa_core.specs.declared.forest.Target.{Target}
use Rattle.fa_core.specs.declared.forest.Target.TheVariants.{Null as NullTarget, Uninit as UninitTarget}
use Rattle.fa_core.specs.declared.forest.Target.TheVariants.{Dangling as DanglingTarget, At}
use Rattle.fa_core.specs.Canonical.{refs_at}
use Rattle.fa_core.specs.Filled.{Choice, covers, IsInOrder}
use Rattle.fa_core.specs.Rearranged.{Rearranged, IsRising}
use Rattle.fa_core.specs.References.{tree_refs}
use Rattle.fa_core.specs.Ways.{has}

-- Slots with their children.

-- each slot with its child, a list of one; a Hook has none
abbrev pub places : List Slot → List Tree → List (Slot × List Tree)
places [] ts = []
places (Hook b ∷ ss) ts = (Hook b, []) ∷ places ss ts
places (Field f ∷ ss) [] = []
places (Field f ∷ ss) (t ∷ ts) = (Field f, t ∷ []) ∷ places ss ts
places (Link b ∷ ss) [] = []
places (Link b ∷ ss) (t ∷ ts) = (Link b, t ∷ []) ∷ places ss ts

-- the slots of a symbol
abbrev pub symbol_slots : Symbol → List Slot
symbol_slots Null = []
symbol_slots Uninit = []
symbol_slots Dangling = []
symbol_slots (Ref r) = []
symbol_slots (Cell s ds ss) = ss

-- the fields that the slots at the top of a tree cover
abbrev pub covered_fields : List BoxFace → Tree → List ℕ
covered_fields bs t = flat_map (covers bs) (symbol_slots (out-Tree t).symbol)

-- the slots at the top of a tree, with their children
abbrev pub top_places : Tree → List (Slot × List Tree)
top_places t = places (symbol_slots (out-Tree t).symbol) (out-Tree t).children

-- a cell with these slots and children
abbrev pub cell_of : ℕ → List Datum → List (Slot × List Tree) → Tree
cell_of s ds ps = roll-Tree (record { symbol = Cell s ds (map (λ p. p.0) ps); children = flat_map (λ p. p.1) ps })

-- the slot is one of these fields
abbrev pub is_one_of : List ℕ → Slot → Bool
is_one_of fs (Field f) = has f fs
is_one_of fs (Link b) = false
is_one_of fs (Hook b) = false

-- those of the slots that are one of the fields, and the others
abbrev pub taken : List ℕ → List (Slot × List Tree) → List (Slot × List Tree)
taken fs = filter (λ p. is_one_of fs p.0)

abbrev pub left : List ℕ → List (Slot × List Tree) → List (Slot × List Tree)
left fs = filter (λ p. not (is_one_of fs p.0))

-- References with other numbers.

abbrev pub moved_symbol : (ℕ → ℕ) → Symbol → Symbol
moved_symbol f Null = Null
moved_symbol f Uninit = Uninit
moved_symbol f Dangling = Dangling
moved_symbol f (Ref r) = Ref (f r)
moved_symbol f (Cell s ds ss) = Cell s ds ss

-- the tree with f of the root of each reference
abbrev pub moved_tree : (ℕ → ℕ) → Tree → Tree
moved_tree f = fold-Tree Tree (λ t. roll-Tree (record { symbol = moved_symbol f t.symbol; children = t.children }))

abbrev pub moved_places : (ℕ → ℕ) → List (Slot × List Tree) → List (Slot × List Tree)
moved_places f = map (λ p. (p.0, map (moved_tree f) p.1))

abbrev pub moved_target : (ℕ → ℕ) → Target → Target
moved_target f NullTarget = NullTarget
moved_target f UninitTarget = UninitTarget
moved_target f DanglingTarget = DanglingTarget
moved_target f (At r) = At (f r)

-- The roots of a part.

-- the walk from `todo`, where the roots of `placed` are placed, ends with `order` placed
pub data Placing (refers : ℕ → List ℕ) : List ℕ → List ℕ → List ℕ → Type 0 where
  all_placed : {order : List ℕ} → Placing refers [] order order
  is_placed : {r : ℕ} {todo placed order : List ℕ} → IsIn r placed → Placing refers todo placed order
      → Placing refers (r ∷ todo) placed order
  place_now : {r : ℕ} {todo placed order : List ℕ} → (IsIn r placed → ⊥)
      → Placing refers (refers r ++ todo) (placed ++ r ∷ []) order → Placing refers (r ∷ todo) placed order

-- the place of the number in the list, where it stands first
abbrev pub position : List ℕ → ℕ → ℕ
position [] k = 0
position (r ∷ rs) k = if nat_eq k r then 0 else suc (position rs k)

-- the roots to which trees refer
abbrev pub place_refs : List (Slot × List Tree) → List ℕ
place_refs ps = flat_map (λ p. flat_map tree_refs p.1) ps

-- the fields that some slot at the top of a port's tree covers
pub record ArePortFields (bs : List BoxFace) (a : Automaton) (fs : List ℕ) : Type 0 where
  pub rising : IsRising fs
  pub are : (f : ℕ) → IsIn f fs ↔ ((t : Tree) × InLanguage a t × IsIn f (covered_fields bs t))

-- the root is there, one rule stands at the top of its trees, and that is a cell of this struct with a slot for each of
-- the fields
pub record IsPortRoot (autos : List Automaton) (r shape : ℕ) (fs : List ℕ) : Type 0 where
  pub auto : Automaton
  pub there : slice_get autos r ≡ Some auto
  pub one : HasOneTop auto
  pub datums : List Datum
  pub slots : List Slot
  pub symbol : one.rule.symbol ≡ Cell shape datums slots
  pub fields : (f : ℕ) → IsIn f fs → IsIn (Field f) slots

-- the ports of a part: the root of the input, with the fields that are taken there, and then that of the output, where
-- there is one
abbrev pub Ports : Type 0
Ports = List (ℕ × List ℕ)

-- the fields that are taken at root r; a root that is both ports gives the fields of both
abbrev pub taken_at : Ports → ℕ → List ℕ
taken_at [] r = []
taken_at (p ∷ ps) r = if nat_eq p.0 r then p.1 ++ taken_at ps r else taken_at ps r

-- the tree of root r, for one tree of each component
abbrev pub places_at : List Tree → ℕ → List (Slot × List Tree)
places_at [] r = []
places_at (t ∷ ts) zero = top_places t
places_at (t ∷ ts) (suc r) = places_at ts r

-- what the taken fields refer to, port by port
abbrev pub port_refs : List Tree → Ports → List ℕ
port_refs ts ps = flat_map (λ p. place_refs (taken p.1 (places_at ts p.0))) ps

-- what the slots of root r refer to that are not taken
abbrev pub left_refs : List Tree → Ports → ℕ → List ℕ
left_refs ts ps r = place_refs (left (taken_at ps r) (places_at ts r))

-- for one tree of each component: the inner roots are those that are reached from the taken fields without passing the
-- ports, in order of first visit; no variable is at one of them, and no slot outside of the part refers to one
pub record ArePartRoots (vars : List Target) (ts : List Tree) (ps : Ports) (inner : List ℕ) : Type 0 where
  pub order : List ℕ
  pub reached : Placing (refs_at ts) (port_refs ts ps) (map (λ p. p.0) ps) order
  pub are : order ≡ map (λ p. p.0) ps ++ inner
  pub no_var : (r : ℕ) → IsIn r inner → IsIn (At r) vars → ⊥
  pub alone : (r k : ℕ) → IsIn k inner → (IsIn r inner → ⊥) → r < length ts → IsIn k (left_refs ts ps r) → ⊥

-- Parts.

-- the trees of b are g of the trees of a
abbrev pub IsLanguageOf : (Tree → Tree) → Automaton → Automaton → Type 0
IsLanguageOf g a b = (u : Tree) → InLanguage b u ↔ ((t : Tree) × InLanguage a t × (u ≡ g t))

-- a port's tree: a cell without data and with the taken fields alone
abbrev pub port_tree : (ℕ → ℕ) → ℕ → List ℕ → Tree → Tree
port_tree f shape fs t = cell_of shape [] (moved_places f (taken fs (top_places t)))

-- the components of the ports of a part
abbrev pub ArePortAutos : (ℕ → ℕ) → List Automaton → Ports → List ℕ → List Automaton → Type 0
ArePortAutos f autos [] shapes made = made ≡ []
ArePortAutos f autos (p ∷ ps) [] made = ⊥
ArePortAutos f autos (p ∷ ps) (s ∷ shapes) [] = ⊥
ArePortAutos f autos (p ∷ ps) (s ∷ shapes) (b ∷ made) =
    ((a : Automaton) × (slice_get autos p.0 ≡ Some a) × IsLanguageOf (port_tree f s p.1) a b)
    × ArePortAutos f autos ps shapes made

-- the components of its inner roots
abbrev pub AreInnerAutos : (ℕ → ℕ) → List Automaton → List ℕ → List Automaton → Type 0
AreInnerAutos f autos inner made =
    Paired (λ r b. (a : Automaton) × (slice_get autos r ≡ Some a) × IsLanguageOf (moved_tree f) a b) inner made

-- the ports of a part for a box
abbrev pub PortsAre : List BoxFace → BoxDef → ℕ → Option ℕ → Ports → List ℕ → Type 0
PortsAre bs b i None ps shapes = (a : Automaton) × (ins : List ℕ) × (slice_get b.inside.autos 0 ≡ Some a)
    × ArePortFields bs a ins × (ps ≡ (i, ins) ∷ []) × (b.face.output ≡ None) × (shapes ≡ b.face.input ∷ [])
PortsAre bs b i (Some j) ps shapes = (a c : Automaton) × (ins outs : List ℕ) × (t : ℕ)
    × (slice_get b.inside.autos 0 ≡ Some a) × (slice_get b.inside.autos 1 ≡ Some c) × ArePortFields bs a ins
    × ArePortFields bs c outs × (ps ≡ (i, ins) ∷ ((j, outs) ∷ [])) × (b.face.output ≡ Some t)
    × (shapes ≡ b.face.input ∷ (t ∷ []))

-- each port is a root with one rule, of its struct and with its fields
abbrev pub ArePortRoots : List Automaton → Ports → List ℕ → Type 0
ArePortRoots autos ps shapes = Paired (λ p s. IsPortRoot autos p.0 s p.1) ps shapes

-- g is the part of F for box b at root i and, where the box has an output, root j: the fields that the slots of the
-- box's ports cover, with the trees under them and the roots that are reached only through them. References go to the
-- places in the part; where i and j are one root, they go to 0
pub record IsPart (bs : List BoxFace) (F : Forest) (b : BoxDef) (i : ℕ) (out : Option ℕ) (g : BoxDef) : Type 0 where
  pub ports : Ports
  pub shapes : List ℕ
  pub inner : List ℕ
  pub are_ports : PortsAre bs b i out ports shapes
  pub roots : ArePortRoots F.autos ports shapes
  -- where both ports are one root, they cover no common field
  pub once : (r : ℕ) → IsDistinct (taken_at ports r)
  pub reached : (ts : List Tree) → Choice F.autos ts → ArePartRoots F.vars ts ports inner
  pub name : g.name ≡ b.name
  pub face : g.face ≡ b.face
  pub no_vars : g.inside.vars ≡ []
  pub no_data : g.inside.data_vars ≡ []
  pub port_autos : List Automaton
  pub inner_autos : List Automaton
  pub autos : g.inside.autos ≡ port_autos ++ inner_autos
  pub at_ports : ArePortAutos (position (map (λ p. p.0) ports ++ inner)) F.autos ports shapes port_autos
  pub at_inner : AreInnerAutos (position (map (λ p. p.0) ports ++ inner)) F.autos inner inner_autos

-- the part is within the box: it has as many components, each with a language within the box's
abbrev pub IsPartWithin : BoxDef → BoxDef → Type 0
IsPartWithin g b = Paired IsWithin g.inside.autos b.inside.autos

-- some part of F is within box b at these roots
abbrev pub Within : List BoxFace → Forest → BoxDef → ℕ → Option ℕ → Type 0
Within bs F b i out = (g : BoxDef) × IsPart bs F b i out g × IsPartWithin g b

-- Folds.

-- the number of root r once these roots are taken away
abbrev pub number_without : List ℕ → ℕ → ℕ
number_without inner r = r - length (filter (λ k. nat_lt k r) inner)

-- the slot of box n, which ends at this root, where it has an output
abbrev pub box_slot : (ℕ → ℕ) → ℕ → Option ℕ → Slot × List Tree
box_slot f n None = (Hook n, [])
box_slot f n (Some j) = (Link n, roll-Tree (record { symbol = Ref (f j); children = [] }) ∷ [])

-- the new slot, at the input alone
abbrev pub gained : Slot × List Tree → ℕ → ℕ → List (Slot × List Tree)
gained p i r = if nat_eq i r then p ∷ [] else []

-- u is the tree t of root r after the fold: the slots that are not taken and the one that is gained, in order, with the
-- new numbers of the roots
pub record IsFoldedTree (bs : List BoxFace) (f : ℕ → ℕ) (more : List (Slot × List Tree)) (fs : List ℕ) (t u : Tree) :
    Type 0 where
  pub shape : ℕ
  pub datums : List Datum
  pub slots : List Slot
  pub symbol : (out-Tree t).symbol ≡ Cell shape datums slots
  pub made : List (Slot × List Tree)
  pub same : Rearranged made (more ++ moved_places f (left fs (top_places t)))
  pub order : IsInOrder bs (map (λ p. p.0) made)
  pub is : u ≡ cell_of shape datums made

-- the trees of c are those of a after the fold
abbrev pub IsFoldedAuto : List BoxFace → (ℕ → ℕ) → List (Slot × List Tree) → List ℕ → Automaton → Automaton → Type 0
IsFoldedAuto bs f more fs a c = (u : Tree) → InLanguage c u
    ↔ ((t : Tree) × InLanguage a t × IsFoldedTree bs f more fs t u)

-- G is F after the fold of the part g, which is within box n of the table: it has the Link or Hook of the box at root i
-- in place of the fields of the part, and the part's inner roots are taken away. So the members of F are those of G
-- with the inside of that one edge within g
pub record FoldOf (bs : List BoxFace) (T : List BoxDef) (F G : Forest) (n i : ℕ) (out : Option ℕ) (g : BoxDef) :
    Type 0 where
  pub def : BoxDef
  pub there : slice_get T n ≡ Some def
  pub part : IsPart bs F def i out g
  pub within : IsPartWithin g def
  pub vars : G.vars ≡ map (moved_target (number_without part.inner)) F.vars
  pub data_vars : G.data_vars ≡ F.data_vars
  pub count : length G.autos + length part.inner ≡ length F.autos
  pub autos : (r : ℕ) (a : Automaton) → slice_get F.autos r ≡ Some a → (IsIn r part.inner → ⊥) → (c : Automaton)
      × (slice_get G.autos (number_without part.inner r) ≡ Some c)
      × IsFoldedAuto bs (number_without part.inner) (gained (box_slot (number_without part.inner) n out) i r)
      (taken_at part.ports r) a c

-- the recorded fold leads from F to G
abbrev pub IsFold : List BoxFace → List BoxDef → Forest → FoldStep → Forest → Type 0
IsFold bs T F x G = FoldOf bs T F G x.box_no x.input x.output x.part
