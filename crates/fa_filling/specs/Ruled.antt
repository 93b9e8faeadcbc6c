-- What the rules of an automaton say of the cells of its trees.
use Rattle.std.specs.Prelude.{◌≡◌, ℕ, List, [], ◌++◌, flat_map, Option, Some, None, slice_get}
use Rattle.fore_base.specs.Lists.{IsIn, Every, Paired}
use Rattle.fore_base.specs.declared.store.Datum.{Datum}
use Rattle.ta_core.specs.declared.auto.Rule.{Rule}
use Rattle.ta_core.specs.declared.symbol.Slot.{Slot}
use Rattle.ta_core.specs.declared.symbol.Symbol.{Symbol}
use Rattle.ta_core.specs.declared.symbol.Symbol.TheVariants.{Cell, Null, Uninit, Dangling, Ref}
use Rattle.ta_core.specs.declared.tree.Tree.{Tree}
use Rattle.ta_core.specs.Auto.{Automaton}
use Rattle.fa_core.specs.declared.faces.BoxFace.{BoxFace}
use Rattle.fa_core.specs.Ways.{given_by}
use Rattle.fa_core.specs.Cells.{edges}
use Rattle.ta_core.specs.declared.symbol.Slot.TheVariants.{Field, Link, Hook}
use Rattle.ta_core.specs.Language.{InLanguage}
use Rattle.fa_core.specs.declared.faces.Face.{Face}
use Rattle.fa_core.specs.Rearranged.{Rearranged}
use Rattle.fa_core.specs.Filled.{Spot, spots, IsFilledSpot, IsInOrder, target_of, face_of, covers, fields_of}

abbrev pub spot : ℕ → List Slot → List Symbol → List ℕ → Spot
spot s ss ys above = record { shape = s; slots = ss; ends = ys; given = above }

-- some rule of the state has the symbol
abbrev pub SymbolsOf : List Rule → ℕ → Symbol → Type 0
SymbolsOf rules q y = (r : Rule) × IsIn r rules × (r.state ≡ q) × (r.symbol ≡ y)

-- P holds of the cell at the top of each tree by the rule, where the fields `above` are given to it
abbrev pub RuleSpots : (Spot → Type 0) → List Rule → Rule → List ℕ → Type 0
RuleSpots P rules r above = (s : ℕ) (ds : List Datum) (ss : List Slot) → r.symbol ≡ Cell s ds ss → (ys : List Symbol)
    → Paired (SymbolsOf rules) r.children ys → P (spot s ss ys above)

-- P holds of the cell at the top of each tree below the rule's edges, with what the edge gives it
abbrev pub BelowRule : List BoxFace → (Spot → Type 0) → List Rule → Rule → Type 0
BelowRule bs P rules r = (s : ℕ) (ds : List Datum) (ss : List Slot) → r.symbol ≡ Cell s ds ss
    → Every (λ (e : Slot × ℕ). (o : Rule) → IsIn o rules → o.state ≡ e.1 → RuleSpots P rules o (given_by bs e.0))
    (edges ss r.children)

-- P holds of each cell that the rules can make, where the fields `above` are given at the root
abbrev pub SpotsFromRules : List BoxFace → (Spot → Type 0) → Automaton → List ℕ → Type 0
SpotsFromRules bs P a above = ((r : Rule) → IsIn r a.rules → IsIn r.state a.roots → RuleSpots P a.rules r above)
    × ((r : Rule) → IsIn r a.rules → BelowRule bs P a.rules r)

-- one struct for each root, of those that may stand at its top
abbrev pub AreTops : List (List ℕ) → List ℕ → Type 0
AreTops topss tops = Paired (λ ts t. IsIn t ts) topss tops

-- the root is there, and s alone may stand at its top
abbrev pub IsAlone : ℕ → Option (List ℕ) → Type 0
IsAlone s None = ⊥
IsAlone s (Some ts) = Every (λ t. t ≡ s) ts

-- what may stand at the end of a field to struct s, whatever stands at the tops
abbrev pub FieldAlways : List (List ℕ) → ℕ → Symbol → Type 0
FieldAlways topss s Null = Unit {0}
FieldAlways topss s Uninit = Unit {0}
FieldAlways topss s Dangling = Unit {0}
FieldAlways topss s (Ref r) = IsAlone s (slice_get topss r)
FieldAlways topss s (Cell t ds ss) = t ≡ s

-- what may stand at the end of a Link to a cell of struct t, whatever stands at the tops; `gives` is what the box gives
-- there
abbrev pub LinkAlways : List (List ℕ) → ℕ → List ℕ → Symbol → Type 0
LinkAlways topss t gives Null = ⊥
LinkAlways topss t gives Uninit = ⊥
LinkAlways topss t gives Dangling = gives ≡ []
LinkAlways topss t gives (Ref r) = IsAlone t (slice_get topss r)
LinkAlways topss t gives (Cell u ds ss) = u ≡ t

-- so for a box with this output; one without has no Link
abbrev pub OutputAlways : List (List ℕ) → List ℕ → Option ℕ → Symbol → Type 0
OutputAlways topss gives None y = ⊥
OutputAlways topss gives (Some t) y = LinkAlways topss t gives y

-- what may stand at the end of a Link of a box, if there is one, at a cell of struct s
abbrev pub BoxAlways : List (List ℕ) → ℕ → Option BoxFace → Symbol → Type 0
BoxAlways topss s None y = ⊥
BoxAlways topss s (Some x) y = (x.input ≡ s) × OutputAlways topss x.gives_out x.output y

-- the child ends as its slot allows, whatever stands at the tops
abbrev pub EndAlways : Face → List (List ℕ) → ℕ → Slot → Symbol → Type 0
EndAlways face topss s (Field f) y = (t : ℕ) × (target_of face.shapes.structs s f ≡ Some t) × FieldAlways topss t y
EndAlways face topss s (Link b) y = BoxAlways topss s (face_of face.boxes b) y
EndAlways face topss s (Hook b) y = ⊥

-- the rule's trees end the slot as it allows, if they have runs to the state
abbrev pub RuleAlways : Face → List (List ℕ) → ℕ → Slot × ℕ → Rule → Type 0
RuleAlways face topss s e o = o.state ≡ e.1 → EndAlways face topss s e.0 o.symbol

-- each tree with a run to the state ends the slot as it allows
abbrev pub EdgeAlways : Face → List (List ℕ) → List Rule → ℕ → Slot × ℕ → Type 0
EdgeAlways face topss rules s e = Every (RuleAlways face topss s e) rules

-- a cell of struct s may have a Hook of the box, if there is one
abbrev pub HookAlways : ℕ → Option BoxFace → Type 0
HookAlways s None = ⊥
HookAlways s (Some x) = (x.input ≡ s) × (x.output ≡ None)

-- a slot without a child is one that a cell of struct s may have
abbrev pub SlotAlways : Face → ℕ → Slot → Type 0
SlotAlways face s (Field f) = Unit {0}
SlotAlways face s (Link b) = Unit {0}
SlotAlways face s (Hook b) = HookAlways s (face_of face.boxes b)

-- the cell's ends and order are right, whatever stands at the tops
pub record IsShapedCell (face : Face) (topss : List (List ℕ)) (rules : List Rule) (s : ℕ) (ss : List Slot)
    (children : List ℕ) : Type 0 where
  pub ends : Every (EdgeAlways face topss rules s) (edges ss children)
  pub hooks : Every (SlotAlways face s) ss
  pub order : IsInOrder face.boxes ss

-- so are those of a cell with this symbol
abbrev pub ShapedBy : Face → List (List ℕ) → List Rule → Symbol → List ℕ → Type 0
ShapedBy face topss rules Null children = Unit {0}
ShapedBy face topss rules Uninit children = Unit {0}
ShapedBy face topss rules Dangling children = Unit {0}
ShapedBy face topss rules (Ref r) children = Unit {0}
ShapedBy face topss rules (Cell s ds ss) children = IsShapedCell face topss rules s ss children

-- so are those of the rule's cell
abbrev pub IsShapedRule : Face → List (List ℕ) → List Rule → Rule → Type 0
IsShapedRule face topss rules r = ShapedBy face topss rules r.symbol r.children

-- each field of a cell with this symbol is given once, where the fields `above` are given to it from above
abbrev pub OnceBy : Face → List ℕ → Symbol → Type 0
OnceBy face above Null = Unit {0}
OnceBy face above Uninit = Unit {0}
OnceBy face above Dangling = Unit {0}
OnceBy face above (Ref r) = Unit {0}
OnceBy face above (Cell s ds ss) =
    Rearranged (fields_of face.shapes.structs s) (flat_map (covers face.boxes) ss ++ above)

-- so it is for the rules of the state
abbrev pub StateOnce : Face → List ℕ → ℕ → Rule → Type 0
StateOnce face above q o = o.state ≡ q → OnceBy face above o.symbol

-- so it is for the rules of root states, with what is given at the root
abbrev pub RootOnce : Face → List ℕ → List ℕ → Rule → Type 0
RootOnce face above roots o = IsIn o.state roots → OnceBy face above o.symbol

-- so it is below the edge, with what the edge gives
abbrev pub EdgeOnce : Face → List Rule → Slot × ℕ → Type 0
EdgeOnce face rules e = Every (StateOnce face (given_by face.boxes e.0) e.1) rules

-- so it is below each edge of a cell with this symbol
abbrev pub OnceBelow : Face → List Rule → Symbol → List ℕ → Type 0
OnceBelow face rules Null children = Unit {0}
OnceBelow face rules Uninit children = Unit {0}
OnceBelow face rules Dangling children = Unit {0}
OnceBelow face rules (Ref r) children = Unit {0}
OnceBelow face rules (Cell s ds ss) children = Every (EdgeOnce face rules) (edges ss children)

-- so it is below each edge of the rule
abbrev pub IsOnceBelow : Face → List Rule → Rule → Type 0
IsOnceBelow face rules r = OnceBelow face rules r.symbol r.children

-- what the rules of a part have to meet, where the fields `above` are given at the root
pub record AreRulesFilled (face : Face) (topss : List (List ℕ)) (a : Automaton) (above : List ℕ) : Type 0 where
  pub shapes : Every (IsShapedRule face topss a.rules) a.rules
  pub roots : Every (RootOnce face above a.roots) a.rules
  pub edges : Every (IsOnceBelow face a.rules) a.rules

-- each cell of each tree is filled, whatever stands at the tops of the roots, where the fields `above` are given at the
-- root
abbrev pub IsFilledPart : Face → List (List ℕ) → Automaton → List ℕ → Type 0
IsFilledPart face topss a above = (tops : List ℕ) → AreTops topss tops → (t : Tree) → InLanguage a t
    → Every (IsFilledSpot face tops) (spots face.boxes t above)
