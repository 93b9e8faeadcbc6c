-- Forests in which each field of each cell is given exactly once, and well-formed forests.
use Rattle.std.specs.Prelude.{min, ◌≡◌, ◌<◌, ◌≤◌, ◌⊎◌, ℕ, suc, List, [], ◌∷◌, ◌++◌, map, length, flat_map, Option, Some}
use Rattle.std.specs.Prelude.{None, IsSome, IsNone, slice_get}
use Rattle.fore_base.specs.Lists.{Every}
use Rattle.fore_base.specs.Shapes.{targets_of, datums_of}
use Rattle.fore_base.specs.declared.shape.Shape.{Shape}
use Rattle.fore_base.specs.declared.store.Datum.{Datum}
use Rattle.fore_base.specs.declared.store.Datum.TheVariants.{Undefined, Known}
use Rattle.ta_core.specs.Auto.{Automaton}
use Rattle.ta_core.specs.Language.{InLanguage, RunOf}
use Rattle.ta_core.specs.declared.auto.Rule.{Rule}
use Rattle.ta_core.specs.declared.symbol.Slot.{Slot}
use Rattle.ta_core.specs.declared.symbol.Slot.TheVariants.{Field, Link, Hook}
use Rattle.ta_core.specs.declared.symbol.Symbol.{Symbol}
use Rattle.ta_core.specs.declared.symbol.Symbol.TheVariants.{Null, Uninit, Dangling, Ref, Cell}
use Rattle.ta_core.specs.declared.tree.Tree.{Tree, out-Tree, para-Tree}
use Rattle.fa_core.specs.declared.faces.BoxFace.{BoxFace}
use Rattle.fa_core.specs.declared.faces.Face.{Face}
use Rattle.fa_core.specs.declared.forest.Target.{Target}
use Rattle.fa_core.specs.declared.forest.Target.TheVariants.{At}
use Rattle.fa_core.specs.declared.forest.Forest.{Forest}
use Rattle.fa_core.specs.Rearranged.{Rearranged, IsRising}
use Rattle.fa_core.specs.Ways.{ways, gives_out_of, given, to_root, signature}

-- The cells of a tree.

-- a cell of a tree: its struct, its slots, what stands at the end of each child, and the fields that the edge above
-- gives it
pub record Spot : Type 0 where
  pub shape : ℕ
  pub slots : List Slot
  pub ends : List Symbol
  pub given : List ℕ

-- the cells below the slots
abbrev pub child_spots : List BoxFace → List Slot → List (List ℕ → List Spot) → List Spot
child_spots bs [] cs = []
child_spots bs (Hook b ∷ ss) cs = child_spots bs ss cs
child_spots bs (Field f ∷ ss) [] = []
child_spots bs (Field f ∷ ss) (c ∷ cs) = c [] ++ child_spots bs ss cs
child_spots bs (Link b ∷ ss) [] = []
child_spots bs (Link b ∷ ss) (c ∷ cs) = c (gives_out_of bs b) ++ child_spots bs ss cs

-- the cells of a tree by its symbol and its children
abbrev pub spots_at : List BoxFace → Symbol → List (Tree × (List ℕ → List Spot)) → List ℕ → List Spot
spots_at bs Null cs above = []
spots_at bs Uninit cs above = []
spots_at bs Dangling cs above = []
spots_at bs (Ref r) cs above = []
spots_at bs (Cell s ds ss) cs above =
    record { shape = s; slots = ss; ends = map (λ c. (out-Tree c.0).symbol) cs; given = above }
    ∷ child_spots bs ss (map (λ c. c.1) cs)

-- the cells of a tree, where the fields `above` are given to its top
abbrev pub spots : List BoxFace → Tree → List ℕ → List Spot
spots bs = para-Tree (List ℕ → List Spot) (λ t. spots_at bs t.symbol t.children)

-- Ends.

-- the symbol is, or names, a cell of struct s; `tops` are the structs of the roots
abbrev pub NamesStruct : List ℕ → Symbol → ℕ → Type 0
NamesStruct tops Null s = ⊥
NamesStruct tops Uninit s = ⊥
NamesStruct tops Dangling s = ⊥
NamesStruct tops (Ref r) s = slice_get tops r ≡ Some s
NamesStruct tops (Cell t ds ss) s = t ≡ s

-- the struct to which pointer field f of struct s points, if there is such a field
abbrev pub target_of : List Shape → ℕ → ℕ → Option ℕ
target_of hs s f = slice_get (targets_of hs s) f

-- the face of box b, if there is one
abbrev pub face_of : List BoxFace → ℕ → Option BoxFace
face_of bs b = slice_get bs b

-- what may stand at the end of a field to struct s: a null, uninitialised or dangling pointer, or a cell of that struct
abbrev pub FieldEnds : List ℕ → ℕ → Symbol → Type 0
FieldEnds tops s Null = Unit {0}
FieldEnds tops s Uninit = Unit {0}
FieldEnds tops s Dangling = Unit {0}
FieldEnds tops s (Ref r) = NamesStruct tops (Ref r) s
FieldEnds tops s (Cell t ds ss) = NamesStruct tops (Cell t ds ss) s

-- the child stands at the end of the slot as the slot allows
abbrev pub EndFits : Face → List ℕ → ℕ → Slot → Symbol → Type 0
EndFits face tops s (Field f) y = (t : ℕ) × (target_of face.shapes.structs s f ≡ Some t) × FieldEnds tops t y
EndFits face tops s (Link b) y = (x : BoxFace) × (t : ℕ) × (face_of face.boxes b ≡ Some x) × (x.input ≡ s)
    × (x.output ≡ Some t) × (NamesStruct tops y t ⊎ ((y ≡ Dangling) × (x.gives_out ≡ [])))
EndFits face tops s (Hook b) y = ⊥

-- the slot without a child is of a box without an output
abbrev pub HookFits : Face → ℕ → ℕ → Type 0
HookFits face s b = (x : BoxFace) × (face_of face.boxes b ≡ Some x) × (x.input ≡ s) × (x.output ≡ None)

-- each child stands at the end of its slot as the slot allows
abbrev pub EndsFit : Face → List ℕ → ℕ → List Slot → List Symbol → Type 0
EndsFit face tops s [] [] = Unit {0}
EndsFit face tops s [] (y ∷ ys) = ⊥
EndsFit face tops s (Hook b ∷ ss) ys = HookFits face s b × EndsFit face tops s ss ys
EndsFit face tops s (Field f ∷ ss) [] = ⊥
EndsFit face tops s (Field f ∷ ss) (y ∷ ys) = EndFits face tops s (Field f) y × EndsFit face tops s ss ys
EndsFit face tops s (Link b ∷ ss) [] = ⊥
EndsFit face tops s (Link b ∷ ss) (y ∷ ys) = EndFits face tops s (Link b) y × EndsFit face tops s ss ys

-- Fields.

-- the numbers from k on, one for each item
abbrev pub numbered : ℕ → List ℕ → List ℕ
numbered k [] = []
numbered k (x ∷ xs) = k ∷ numbered (suc k) xs

-- the numbers of the pointer fields of struct s
abbrev pub fields_of : List Shape → ℕ → List ℕ
fields_of hs s = numbered 0 (targets_of hs s)

-- the fields that a face covers at its input; where there is none, none
abbrev pub fields_in : Option BoxFace → List ℕ
fields_in None = []
fields_in (Some x) = x.gives_in

-- the fields that box b covers at its input
abbrev pub gives_in_of : List BoxFace → ℕ → List ℕ
gives_in_of bs b = fields_in (slice_get bs b)

-- the fields that a slot covers at its own cell
abbrev pub covers : List BoxFace → Slot → List ℕ
covers bs (Field f) = f ∷ []
covers bs (Link b) = gives_in_of bs b
covers bs (Hook b) = gives_in_of bs b

-- the least of a number and others
abbrev pub least_of : ℕ → List ℕ → ℕ
least_of n [] = n
least_of n (f ∷ fs) = least_of (min n f) fs

-- the least of the fields
abbrev pub least : List ℕ → ℕ
least [] = 0
least (f ∷ fs) = least_of f fs

-- there is a field
abbrev pub HasField : List ℕ → Type 0
HasField [] = ⊥
HasField (f ∷ fs) = Unit {0}

-- the slots stand in order of the least field that each covers; a slot that covers none is in order nowhere
abbrev pub IsInOrder : List BoxFace → List Slot → Type 0
IsInOrder bs ss = Every (λ s. HasField (covers bs s)) ss × IsRising (map (λ s. least (covers bs s)) ss)

-- the cell is filled: its ends fit, its slots stand in order, and each of its pointer fields is given exactly once
pub record IsFilledSpot (face : Face) (tops : List ℕ) (p : Spot) : Type 0 where
  pub ends : EndsFit face tops p.shape p.slots p.ends
  pub order : IsInOrder face.boxes p.slots
  pub once : Rearranged (fields_of face.shapes.structs p.shape) (flat_map (covers face.boxes) p.slots ++ p.given)

-- Filled, the part on trees.

-- one tree of each component
abbrev pub Choice : List Automaton → List Tree → Type 0
Choice [] [] = Unit {0}
Choice [] (t ∷ ts) = ⊥
Choice (a ∷ autos) [] = ⊥
Choice (a ∷ autos) (t ∷ ts) = InLanguage a t × Choice autos ts

-- a cell of struct s stands at the top of the tree
abbrev pub IsTopped : ℕ → Tree → Type 0
IsTopped s t = (ds : List Datum) × (slots : List Slot) × ((out-Tree t).symbol ≡ Cell s ds slots)

-- the tops are cells of these structs
abbrev pub TopsAre : List Tree → List ℕ → Type 0
TopsAre [] [] = Unit {0}
TopsAre [] (s ∷ ss) = ⊥
TopsAre (t ∷ ts) [] = ⊥
TopsAre (t ∷ ts) (s ∷ ss) = IsTopped s t × TopsAre ts ss

-- the fields that box edges of the trees give to root r
abbrev pub given_at : List BoxFace → List Tree → ℕ → List ℕ
given_at bs ts r = flat_map (λ t. flat_map (λ w. given bs w.steps) (to_root r (ways t))) ts

-- each cell of each tree is filled; the trees are those of the roots from r on, among all trees
abbrev pub TreesFilled : Face → List Tree → List ℕ → ℕ → List Tree → Type 0
TreesFilled face all tops r [] = Unit {0}
TreesFilled face all tops r (t ∷ ts) = Every (IsFilledSpot face tops) (spots face.boxes t (given_at face.boxes all r))
    × TreesFilled face all tops (suc r) ts

-- a target that names a root names one below n
abbrev pub IsRoot : ℕ → Target → Type 0
IsRoot n t = (r : ℕ) → t ≡ At r → r < n

-- for this choice of trees each target names a root, each tree has a cell at its top, and each cell is filled
pub record ChoiceFilled (face : Face) (F : Forest) (ts : List Tree) : Type 0 where
  pub tops : List ℕ
  pub are : TopsAre ts tops
  pub vars : Every (IsRoot (length ts)) F.vars
  pub cells : TreesFilled face ts tops 0 ts

-- Filled, the part on rules.

-- the box is there, and has an output
abbrev pub HasOutput : Option BoxFace → Type 0
HasOutput None = ⊥
HasOutput (Some x) = IsSome x.output

-- the box is there, and has none
abbrev pub HasNoOutput : Option BoxFace → Type 0
HasNoOutput None = ⊥
HasNoOutput (Some x) = IsNone x.output

-- the slots that a cell of struct s may have: its pointer fields, Links of boxes with an output, Hooks of boxes without
abbrev pub SlotFits : Face → ℕ → Slot → Type 0
SlotFits face s (Field f) = IsSome (target_of face.shapes.structs s f)
SlotFits face s (Link b) = HasOutput (face_of face.boxes b)
SlotFits face s (Hook b) = HasNoOutput (face_of face.boxes b)

-- a datum is at most 15
abbrev pub DatumFits : Datum → Type 0
DatumFits Undefined = Unit {0}
DatumFits (Known n) = n ≤ 15

-- a cell is of a struct of the face, with its data and possible slots
abbrev pub SymbolFits : Face → Symbol → Type 0
SymbolFits face Null = Unit {0}
SymbolFits face Uninit = Unit {0}
SymbolFits face Dangling = Unit {0}
SymbolFits face (Ref r) = Unit {0}
SymbolFits face (Cell s ds slots) = (s < length face.shapes.structs) × (length ds ≡ datums_of face.shapes.structs s)
    × Every DatumFits ds × Every (SlotFits face s) slots

-- the symbol of each rule fits
abbrev pub RulesFit : Face → Automaton → Type 0
RulesFit face a = Every (λ (r : Rule). SymbolFits face r.symbol) a.rules

-- each field of each cell is given exactly once: no datum is above 15, each rule fits, and each choice of trees is
-- filled
pub record IsFilled (face : Face) (F : Forest) : Type 0 where
  pub data_vars : Every DatumFits F.data_vars
  pub rules : Every (RulesFit face) F.autos
  pub trees : (ts : List Tree) → Choice F.autos ts → ChoiceFilled face F ts

-- Well-formed forests.

-- all trees of one state, and all trees of the automaton, have one signature
pub record HasSignatures (bs : List BoxFace) (a : Automaton) : Type 0 where
  pub states : (q : ℕ) (t u : Tree) → RunOf a.rules q t → RunOf a.rules q u → signature bs t ≡ signature bs u
  pub component : (t u : Tree) → InLanguage a t → InLanguage a u → signature bs t ≡ signature bs u

-- the forest is filled, and its signatures are uniform
pub record IsWellFormed (face : Face) (F : Forest) : Type 0 where
  pub filled : IsFilled face F
  pub signatures : Every (HasSignatures face.boxes) F.autos

-- the automaton accepts some tree
abbrev pub HasSome : Automaton → Type 0
HasSome a = (t : Tree) × InLanguage a t

-- the forest is well formed, and no component is empty
pub record IsSound (face : Face) (F : Forest) : Type 0 where
  pub well_formed : IsWellFormed face F
  pub full : Every HasSome F.autos
