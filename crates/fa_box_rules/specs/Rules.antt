-- The rules B4 to B7, of which a box breaks none where it has a face by which it is sound.
use Rattle.std.specs.Prelude.{◌≡◌, ◌≢◌, ◌<◌, ◌≤◌, ℕ, true, List, [], ◌∷◌, ◌++◌, map, length, Option, Some, None}
use Rattle.std.specs.Prelude.{slice_get}
use Rattle.fore_base.specs.Lists.{IsIn, Every}
use Rattle.ta_core.specs.Auto.{Automaton, IsRanked}
use Rattle.ta_core.specs.Language.{InLanguage, RunOf, IsBarren, TakesPart}
use Rattle.ta_core.specs.declared.auto.Rule.{Rule}
use Rattle.ta_core.specs.declared.symbol.Symbol.TheVariants.{Ref}
use Rattle.ta_core.specs.declared.tree.Tree.{Tree, out-Tree}
use Rattle.fa_core.specs.declared.boxes.BoxDef.{BoxDef}
use Rattle.fa_core.specs.declared.faces.BoxFace.{BoxFace}
use Rattle.fa_core.specs.declared.faces.Face.{Face}
use Rattle.fa_core.specs.Boxes.{InsideRulesFit, PortsCover, IsReached, LeadsUp, LeadsNowhere, BackHolds}
use Rattle.fa_core.specs.Canonical.{RefersTo}
use Rattle.fa_core.specs.Cells.{is_leaf}
use Rattle.fa_core.specs.Filled.{Choice, IsTopped, HasField, HasSome, given_at}
use Rattle.fa_core.specs.Folding.{covered_fields}
use Rattle.fa_core.specs.Rearranged.{Rearranged, IsRising}
use Rattle.fa_core.specs.Ways.{signature}
use Rattle.fa_box_rules.specs.Cells.{AreRight}
use Rattle.fa_box_rules.specs.declared.rule.BoxRule.{BoxRule}
use Rattle.fa_box_rules.specs.declared.rule.BoxRule.TheVariants.{B4, B5, B6, B7}

-- What a box is before it has a face: the structs of its ports, and the components of its inside.
pub record Inside : Type 0 where
  pub input : ℕ
  pub output : Option ℕ
  pub autos : List Automaton

-- how many ports there are
abbrev pub port_count : Option ℕ → ℕ
port_count None = 1
port_count (Some t) = 2

-- the structs of the ports
abbrev pub structs_of : ℕ → Option ℕ → List ℕ
structs_of s None = s ∷ []
structs_of s (Some t) = s ∷ (t ∷ [])

-- each reference of a rule is to a component below n
abbrev pub AreRefsBelow : ℕ → Automaton → Type 0
AreRefsBelow n a = (r : Rule) (k : ℕ) → IsIn r a.rules → r.symbol ≡ Ref k → k < n

-- what is known of a box whose names and references are there, before it is looked at which trees it has
pub record IsWellNamed (face : Face) (b : Inside) : Type 0 where
  pub rules : InsideRulesFit face (map (λ (s : ℕ). []) (structs_of b.input b.output)) b.autos
  pub refs : Every (AreRefsBelow (length b.autos)) b.autos
  pub ranked : Every IsRanked b.autos
  pub ports : port_count b.output ≤ length b.autos
  pub structs : Every (λ (s : ℕ). s < length face.shapes.structs) (structs_of b.input b.output)

-- all trees of each state that takes part have one signature
abbrev pub HaveSignatures : List BoxFace → Automaton → Type 0
HaveSignatures bs a = (q : ℕ) → TakesPart a q → (t u : Tree) → RunOf a.rules q t → RunOf a.rules q u
    → signature bs t ≡ signature bs u

-- The fields of a port.

-- the fields that the slots at the top of the tree cover, where there is one
abbrev pub covered_at : List BoxFace → Option Tree → List ℕ
covered_at bs None = []
covered_at bs (Some t) = covered_fields bs t

-- the fields that the cell of root r has by its own slots and by the box edges that end at it, for a choice of trees
abbrev pub root_fields : List BoxFace → List Tree → ℕ → List ℕ
root_fields bs ts r = covered_at bs (slice_get ts r) ++ given_at bs ts r

-- Rules.

-- B4: for some choice of trees, an inner cell has not each field once, or a port a field twice; or slots do not stand
-- in order, or an edge ends where it may not
abbrev pub Breaks4 : Face → Inside → Type 0
Breaks4 face b = (ts : List Tree) × Choice b.autos ts × (AreRight face ts 0 (port_count b.output) ts → ⊥)

-- B5
pub data Breaks5 (face : Face) (T : List BoxDef) (b : Inside) : Type 0 where
  -- a component accepts a leaf
  takes_leaf : (a : Automaton) (t : Tree) → IsIn a b.autos → InLanguage a t → is_leaf (out-Tree t).symbol ≡ true
      → Breaks5 face T b
  -- a port is of another struct
  other_struct : (r s u : ℕ) (a : Automaton) (t : Tree) → slice_get (structs_of b.input b.output) r ≡ Some s
      → slice_get b.autos r ≡ Some a → InLanguage a t → IsTopped u t → u ≢ s → Breaks5 face T b
  -- two trees of a port cover different fields by their own slots
  covers_apart : (r f : ℕ) (a : Automaton) (t u : Tree) → r < port_count b.output → slice_get b.autos r ≡ Some a
      → InLanguage a t → InLanguage a u → IsIn f (covered_fields face.boxes t)
      → (IsIn f (covered_fields face.boxes u) → ⊥) → Breaks5 face T b
  -- a tree of the input covers none
  covers_none : (a : Automaton) (t : Tree) → slice_get b.autos 0 ≡ Some a → InLanguage a t
      → (HasField (covered_fields face.boxes t) → ⊥) → Breaks5 face T b
  -- two trees of a state that takes part have different signatures
  signs_apart : (a : Automaton) (q : ℕ) (t u : Tree) → IsIn a b.autos → TakesPart a q → RunOf a.rules q t
      → RunOf a.rules q u → signature face.boxes t ≢ signature face.boxes u → Breaks5 face T b
  -- two choices of trees give a port different fields
  gives_apart : (ts us : List Tree) (r : ℕ) → Choice b.autos ts → Choice b.autos us → r < port_count b.output
      → (Rearranged (root_fields face.boxes ts r) (root_fields face.boxes us r) → ⊥) → Breaks5 face T b
  -- some insides lead back, and some do not
  leads_apart : (t : ℕ) → b.output ≡ Some t → (LeadsUp T b.autos → ⊥) → (LeadsNowhere T b.autos → ⊥)
      → Breaks5 face T b

-- the box may end at no cell only where its trees give the output nothing
abbrev pub MayEndNowhere : List BoxFace → BoxFace → List Automaton → Type 0
MayEndNowhere bs x autos = x.gives_out ≡ [] → (ts : List Tree) → Choice autos ts → root_fields bs ts 1 ≡ []

-- B6: in some inside an inner cell or the output is not reached from the input
abbrev pub Breaks6 : Face → List BoxDef → Inside → Type 0
Breaks6 face T b = (x : BoxFace) × (x.output ≡ b.output) × MayEndNowhere face.boxes x b.autos
    × (IsReached T x b.autos → ⊥)

-- B7: a component has no tree
abbrev pub Breaks7 : Inside → Type 0
Breaks7 b = (a : Automaton) × IsIn a b.autos × IsBarren a

-- the box breaks the rule
abbrev pub Breaks : Face → List BoxDef → Inside → BoxRule → Type 0
Breaks face T b B4 = Breaks4 face b
Breaks face T b B5 = Breaks5 face T b
Breaks face T b B6 = Breaks6 face T b
Breaks face T b B7 = Breaks7 b

-- it breaks the rule and no lesser one; where a component has no tree, the others are not looked for
abbrev pub BreaksFirst : Face → List BoxDef → Inside → BoxRule → Type 0
BreaksFirst face T b B4 = (Breaks7 b → ⊥) × Breaks4 face b
BreaksFirst face T b B5 = (Breaks7 b → ⊥) × (Breaks4 face b → ⊥) × Breaks5 face T b
BreaksFirst face T b B6 = (Breaks7 b → ⊥) × (Breaks4 face b → ⊥) × (Breaks5 face T b → ⊥) × Breaks6 face T b
BreaksFirst face T b B7 = Breaks7 b

-- Faces.

-- for each choice of trees the port has these fields
abbrev pub Gives : List BoxFace → List Automaton → ℕ → List ℕ → Type 0
Gives bs autos r fields = (ts : List Tree) → Choice autos ts → Rearranged fields (root_fields bs ts r)

-- so for the output, if there is one; else the box gives nothing there
abbrev pub GivesOutput : List BoxFace → List Automaton → Option ℕ → List ℕ → Type 0
GivesOutput bs autos None fields = fields ≡ []
GivesOutput bs autos (Some t) fields = Gives bs autos 1 fields

-- x is the face of the box: the structs of its ports, the fields that its trees give there, in rising order, and
-- whether it leads back
pub record IsFaceOf (face : Face) (T : List BoxDef) (b : Inside) (x : BoxFace) : Type 0 where
  pub input : x.input ≡ b.input
  pub output : x.output ≡ b.output
  pub gives_in : Gives face.boxes b.autos 0 x.gives_in
  pub gives_out : GivesOutput face.boxes b.autos b.output x.gives_out
  pub in_order : IsRising x.gives_in × IsRising x.gives_out
  pub back : BackHolds T x b.output b.autos

-- Boxes that break none.

-- each reference of each tree is to a component
abbrev pub AreRefsThere : List Automaton → Type 0
AreRefsThere autos = (ts : List Tree) → Choice autos ts → (t : Tree) (k : ℕ) → IsIn t ts → RefersTo t k
    → k < length ts

-- what the rules ask, said of a box that has the face x
pub record IsUnbroken (face : Face) (T : List BoxDef) (b : Inside) (x : BoxFace) : Type 0 where
  -- not B7
  pub full : Every HasSome b.autos
  -- not B4
  pub right : (ts : List Tree) → Choice b.autos ts → AreRight face ts 0 (port_count b.output) ts
  -- not B5: each tree has a cell at its top, the ports' are of the structs that the box says, cover the same fields by
  -- their own slots, and the input's some; and each state has one signature
  pub tops : (a : Automaton) (t : Tree) → IsIn a b.autos → InLanguage a t → (u : ℕ) × IsTopped u t
  pub structs : (r s u : ℕ) (a : Automaton) (t : Tree) → slice_get (structs_of b.input b.output) r ≡ Some s
      → slice_get b.autos r ≡ Some a → InLanguage a t → IsTopped u t → u ≡ s
  pub covers : PortsCover face.boxes b.output b.autos
  pub signatures : Every (HaveSignatures face.boxes) b.autos
  -- nor by what the ports are given and whether the box leads back, since there is one face
  pub one : IsFaceOf face T b x
  -- not B6
  pub reached : IsReached T x b.autos

-- the box without its face
abbrev pub inside_of : BoxDef → Inside
inside_of d = record { input = d.face.input; output = d.face.output; autos = d.inside.autos }
