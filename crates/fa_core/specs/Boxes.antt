-- Sound boxes, and tables of them.
use Rattle.std.specs.Prelude.{◌≡◌, ◌≢◌, ◌<◌, ◌≤◌, ◌⊎◌, ℕ, suc, true, false, List, [], ◌∷◌, ◌++◌, map, length, flat_map}
use Rattle.std.specs.Prelude.{Option, Some, None}
use Rattle.fore_base.specs.Lists.{IsIn, Every, IsDistinct}
use Rattle.fore_base.specs.declared.shape.Shapes.{Shapes}
use Rattle.fore_base.specs.declared.store.Value.{Value}
use Rattle.fore_base.specs.declared.store.Value.TheVariants.{Dangling as DanglingValue, Cell as CellValue}
use Rattle.ta_core.specs.Auto.{Automaton}
use Rattle.ta_core.specs.Language.{InLanguage, RunOf, TakesPart}
use Rattle.ta_core.specs.declared.auto.Rule.{Rule}
use Rattle.ta_core.specs.declared.symbol.Symbol.{Symbol}
use Rattle.ta_core.specs.declared.symbol.Symbol.TheVariants.{Null, Uninit, Dangling, Ref, Cell}
use Rattle.ta_core.specs.declared.tree.Tree.{Tree}
use Rattle.fa_core.specs.declared.boxes.BoxDef.{BoxDef}
use Rattle.fa_core.specs.declared.faces.BoxFace.{BoxFace}
use Rattle.fa_core.specs.declared.faces.Face.{Face}
use Rattle.fa_core.specs.Canonical.{RefersTo}
use Rattle.fa_core.specs.Dressed.{Nodes, Fact, Head, Points, inside_facts}
use Rattle.fa_core.specs.Filled.{Choice, TopsAre, Spot, spots, given_at, covers, HasField, IsFilledSpot, EndsFit}
use Rattle.fa_core.specs.Filled.{IsInOrder, HasSome, SlotFits, SymbolFits, RulesFit}
use Rattle.fa_core.specs.Folding.{covered_fields}
use Rattle.fa_core.specs.Member.{TreesOf}
use Rattle.fa_core.specs.Rearranged.{Rearranged, IsRising}
use Rattle.fa_core.specs.Ways.{signature}
use Rattle.fa_core.specs.Words.{IsWord}

-- Rules of an inside.

-- a cell that stands for a port: it has no data, and possible slots
abbrev pub PortSymbolFits : Face → Symbol → Type 0
PortSymbolFits face Null = Unit {0}
PortSymbolFits face Uninit = Unit {0}
PortSymbolFits face Dangling = Unit {0}
PortSymbolFits face (Ref r) = Unit {0}
PortSymbolFits face (Cell s ds slots) = (s < length face.shapes.structs) × (ds ≡ []) × Every (SlotFits face s) slots

-- state q is a child of some rule
abbrev pub IsChild : Automaton → ℕ → Type 0
IsChild a q = (r : Rule) × IsIn r a.rules × IsIn q r.children

-- each rule of a root state fits a port; each rule of another state, or of one that stands below a cell, fits a cell
pub record PortRulesFit (face : Face) (a : Automaton) : Type 0 where
  pub tops : Every (λ (r : Rule). IsIn r.state a.roots → PortSymbolFits face r.symbol) a.rules
  pub inner : Every (λ (r : Rule). (IsIn r.state a.roots → ⊥) ⊎ IsChild a r.state → SymbolFits face r.symbol) a.rules

-- the first components are ports, one for each item of the list
abbrev pub InsideRulesFit : Face → List (List ℕ) → List Automaton → Type 0
InsideRulesFit face ports [] = Unit {0}
InsideRulesFit face [] (a ∷ autos) = RulesFit face a × InsideRulesFit face [] autos
InsideRulesFit face (p ∷ ports) (a ∷ autos) = PortRulesFit face a × InsideRulesFit face ports autos

-- Trees of an inside.

-- the cell at the top of a port's tree: its ends fit, its slots stand in order, and it is given these fields, each
-- once, by its slots and by the box edges of the inside that end at it
pub record IsPortSpot (face : Face) (tops fields : List ℕ) (p : Spot) : Type 0 where
  pub ends : EndsFit face tops p.shape p.slots p.ends
  pub order : IsInOrder face.boxes p.slots
  pub once : Rearranged fields (flat_map (covers face.boxes) p.slots ++ p.given)

-- the top of a port's tree is given these fields, and the cells below it are filled
abbrev pub IsPortFilled : Face → List ℕ → List ℕ → List Spot → Type 0
IsPortFilled face tops fields [] = ⊥
IsPortFilled face tops fields (p ∷ ps) = IsPortSpot face tops fields p × Every (IsFilledSpot face tops) ps

-- the trees of the roots from r on, among all: first the ports, each with the fields of its face, then the inner roots
abbrev pub InsideFilled : Face → List Tree → List ℕ → ℕ → List (List ℕ) → List Tree → Type 0
InsideFilled face all tops r ports [] = ports ≡ []
InsideFilled face all tops r [] (t ∷ ts) =
    Every (IsFilledSpot face tops) (spots face.boxes t (given_at face.boxes all r))
    × InsideFilled face all tops (suc r) [] ts
InsideFilled face all tops r (fields ∷ ports) (t ∷ ts) =
    IsPortFilled face tops fields (spots face.boxes t (given_at face.boxes all r))
    × InsideFilled face all tops (suc r) ports ts

-- the structs of the ports, and the fields that the face says of each
abbrev pub port_structs : BoxFace → Option ℕ → List ℕ
port_structs x None = x.input ∷ []
port_structs x (Some t) = x.input ∷ (t ∷ [])

abbrev pub port_fields : BoxFace → Option ℕ → List (List ℕ)
port_fields x None = x.gives_in ∷ []
port_fields x (Some t) = x.gives_in ∷ (x.gives_out ∷ [])

-- xs is the beginning of ys
abbrev pub Begins : List ℕ → List ℕ → Type 0
Begins xs ys = (zs : List ℕ) × (ys ≡ xs ++ zs)

-- for this choice of trees each tree has a cell at its top, the ports' are of the face's structs, each reference is to
-- a component, and the fields are given as the face says
pub record InsideFits (face : Face) (x : BoxFace) (ts : List Tree) : Type 0 where
  pub tops : List ℕ
  pub are : TopsAre ts tops
  pub ports : Begins (port_structs x x.output) tops
  pub refs : (t : Tree) (k : ℕ) → IsIn t ts → RefersTo t k → k < length ts
  pub cells : InsideFilled face ts tops 0 (port_fields x x.output) ts

-- What the slots of the ports cover: one set of fields at each port, which a fold takes.

-- all trees of the component cover the same fields by the slots at their tops
abbrev pub CoverAlike : List BoxFace → Automaton → Type 0
CoverAlike bs a = (t u : Tree) → InLanguage a t → InLanguage a u → (f : ℕ)
    → IsIn f (covered_fields bs t) → IsIn f (covered_fields bs u)

-- each tree of the component covers some field by the slots at its top
abbrev pub CoverSome : List BoxFace → Automaton → Type 0
CoverSome bs a = (t : Tree) → InLanguage a t → HasField (covered_fields bs t)

-- the ports are there, the trees of each cover alike, and those of the input cover some field
abbrev pub PortsCover : List BoxFace → Option ℕ → List Automaton → Type 0
PortsCover bs out [] = ⊥
PortsCover bs None (a ∷ autos) = CoverAlike bs a × CoverSome bs a
PortsCover bs (Some t) (a ∷ []) = ⊥
PortsCover bs (Some t) (a ∷ (c ∷ autos)) = CoverAlike bs a × CoverSome bs a × CoverAlike bs c

-- What an edge of the box is worth to reachability, by the fields of its inside.

-- the cells that a value names, and those that a field of such a cell names
pub data Reaches (from : List Value) (facts : List Fact) : ℕ → Type 0 where
  named : {n : ℕ} → IsIn (CellValue n) from → Reaches from facts n
  through : {n : ℕ} (m f : ℕ) → Reaches from facts m → IsIn (Points m f (CellValue n)) facts → Reaches from facts n

-- the number of a head
abbrev pub head_of : Fact → List ℕ
head_of (Head c s ds) = c ∷ []
head_of (Points c f v) = []

-- the numbers of the heads
abbrev pub heads : List Fact → List ℕ
heads fs = flat_map head_of fs

-- what may stand at the output: a cell, or Dangling where the box gives it nothing
abbrev pub OutFits : BoxFace → Value → Type 0
OutFits x w = ((m : ℕ) × (w ≡ CellValue m)) ⊎ ((w ≡ DanglingValue) × (x.gives_out ≡ []))

-- the ports of an edge that begins at cell c
abbrev pub PortsFit : BoxFace → Option ℕ → ℕ → List Value → Type 0
PortsFit x None c ports = ports ≡ CellValue c ∷ []
PortsFit x (Some t) c ports = (w : Value) × (ports ≡ CellValue c ∷ (w ∷ [])) × OutFits x w

-- from the input each inner cell and each port is reached, in each dressed inside and for all ports
abbrev pub IsReached : List BoxDef → BoxFace → List Automaton → Type 0
IsReached T x autos = (d : Nodes) → TreesOf T autos d → (c : ℕ) (ports : List Value) → PortsFit x x.output c ports
    → (n : ℕ) → IsIn n (heads (inside_facts ports d)) ⊎ IsIn (CellValue n) ports
    → Reaches (CellValue c ∷ []) (inside_facts ports d) n

-- from the output the input is reached, in each dressed inside and for all ports
abbrev pub LeadsUp : List BoxDef → List Automaton → Type 0
LeadsUp T autos = (d : Nodes) → TreesOf T autos d → (c m : ℕ)
    → Reaches (CellValue m ∷ []) (inside_facts (CellValue c ∷ (CellValue m ∷ [])) d) c

-- from the output the input is not reached, in each dressed inside whose cells and ports all differ
abbrev pub LeadsNowhere : List BoxDef → List Automaton → Type 0
LeadsNowhere T autos = (d : Nodes) → TreesOf T autos d → (c m : ℕ)
    → IsDistinct (c ∷ (m ∷ heads (inside_facts (CellValue c ∷ (CellValue m ∷ [])) d)))
    → Reaches (CellValue m ∷ []) (inside_facts (CellValue c ∷ (CellValue m ∷ [])) d) c → ⊥

-- `back` says whether the input is reached from the output; a box that leads back gives its output something, and a box
-- without an output gives nothing and does not lead back
abbrev pub BackHolds : List BoxDef → BoxFace → Option ℕ → List Automaton → Type 0
BackHolds T x None autos = (x.gives_out ≡ []) × (x.back ≡ false)
BackHolds T x (Some t) autos = (x.back ≡ true → (x.gives_out ≢ []) × LeadsUp T autos)
    × (x.back ≡ false → LeadsNowhere T autos)

-- Sound boxes.

-- the box is sound over the boxes T, whose faces are those of the Face
pub record SoundBox (face : Face) (T : List BoxDef) (b : BoxDef) : Type 0 where
  pub rules : InsideRulesFit face (port_fields b.face b.face.output) b.inside.autos
  pub full : Every HasSome b.inside.autos
  pub fits : (ts : List Tree) → Choice b.inside.autos ts → InsideFits face b.face ts
  -- the input covers something, each port by one set of slots' fields, and the face's fields are rising
  pub covers : b.face.gives_in ≢ []
  pub ports : PortsCover face.boxes b.face.output b.inside.autos
  pub in_order : IsRising b.face.gives_in × IsRising b.face.gives_out
  -- all trees of a state that takes part have one signature; a component may have several
  pub signatures : Every (λ (a : Automaton). (q : ℕ) → TakesPart a q → (t u : Tree) → RunOf a.rules q t
      → RunOf a.rules q u → signature face.boxes t ≡ signature face.boxes u) b.inside.autos
  pub reached : IsReached T b.face b.inside.autos
  pub back : BackHolds T b.face b.face.output b.inside.autos

-- Tables.

-- boxes over structs, each with its face
pub record Boxes : Type 0 where
  pub face : Face
  pub defs : List BoxDef

-- the faces of the boxes
abbrev pub faces_of : List BoxDef → List BoxFace
faces_of defs = map (λ (b : BoxDef). b.face) defs

-- each box of the list is sound over those before it, the first over `before`: so it uses earlier boxes only
abbrev pub AreSoundOver : Shapes → List BoxDef → List BoxDef → Type 0
AreSoundOver shapes before [] = Unit {0}
AreSoundOver shapes before (b ∷ defs) = SoundBox (record { shapes = shapes; boxes = faces_of before }) before b
    × AreSoundOver shapes (before ++ b ∷ []) defs

-- the names of the boxes
abbrev pub names_of : List BoxDef → List (List ℕ)
names_of defs = map (λ (b : BoxDef). b.name) defs

-- the inside has no variables
abbrev pub HasNoVariables : BoxDef → Type 0
HasNoVariables b = (b.inside.vars ≡ []) × (b.inside.data_vars ≡ [])

-- the faces are those of the boxes, each box is sound over those before it, and there are at most 32, with different
-- names that are words, and without variables inside
pub record IsBoxTable (t : Boxes) : Type 0 where
  pub faces : t.face.boxes ≡ faces_of t.defs
  pub sound : AreSoundOver t.face.shapes [] t.defs
  pub count : length t.defs ≤ 32
  pub names : IsDistinct (names_of t.defs)
  pub words : Every IsWord (names_of t.defs)
  pub insides : Every HasNoVariables t.defs

-- what a table keeps, of the boxes of the list over the face: what is said of stores that leak, are made or are
-- changed is said of each such list, and what only regroups dressed forests of every list
abbrev pub IsTableOf : Face → List BoxDef → Type 0
IsTableOf face T = IsBoxTable (record { face = face; defs = T })
