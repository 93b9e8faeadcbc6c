-- Boxes that are learnt from a forest. Between two roots stands what a box would stand for: at each of them the fields
-- that lead to the other one alone, with the trees under these.
use Rattle.std.specs.Prelude.{◌≡◌, ◌≢◌, ◌↔◌, ◌⊎◌, ◌<◌, ◌≤◌, ℕ, List, [], ◌∷◌, ◌++◌, length, Some, slice_get, codes}
use Rattle.std.specs.Prelude.{decimal}
use Rattle.fore_base.specs.Lists.{IsIn, Every, Paired}
use Rattle.fore_base.specs.declared.store.Datum.{Datum}
use Rattle.ta_core.specs.Auto.{Automaton, IsRanked}
use Rattle.ta_core.specs.Language.{InLanguage, HasSameLanguage, IsTrim}
use Rattle.ta_core.specs.Single.{HasOneTop}
use Rattle.ta_core.specs.declared.symbol.Slot.{Slot}
use Rattle.ta_core.specs.declared.symbol.Symbol.TheVariants.{Cell}
use Rattle.ta_core.specs.declared.tree.Tree.{Tree}
use Rattle.fa_core.specs.Boxes.{Boxes, HasNoVariables, names_of}
use Rattle.fa_core.specs.Folding.{IsLanguageOf, place_refs, port_tree, position, taken, top_places}
use Rattle.fa_core.specs.Rearranged.{IsRising}
use Rattle.fa_core.specs.declared.boxes.BoxDef.{BoxDef}
use Rattle.fa_core.specs.declared.forest.Forest.{Forest}
use Rattle.fa_box_rules.specs.Rules.{HaveSignatures, IsFaceOf, inside_of}

-- What leads from a root to another.

-- the roots to which the tree under field f of the top of t refers; none where no slot at the top is that field
abbrev pub field_refs : ℕ → Tree → List ℕ
field_refs f t = place_refs (taken (f ∷ []) (top_places t))

-- at the top of each tree of a, field f is a slot of its own, with a tree that refers to root j and to no other root
abbrev pub LeadsTo : Automaton → ℕ → ℕ → Type 0
LeadsTo a j f = (t : Tree) → InLanguage a t
    → IsIn j (field_refs f t) × ((k : ℕ) → IsIn k (field_refs f t) → k ≡ j)

-- these are the fields that lead to root j alone, in rising order
pub record AreFieldsTo (a : Automaton) (j : ℕ) (fs : List ℕ) : Type 0 where
  pub rising : IsRising fs
  pub are : (f : ℕ) → IsIn f fs ↔ LeadsTo a j f

-- root r is there, and one rule stands at the top of its trees, with a cell of this struct
pub record IsPort (F : Forest) (r shape : ℕ) : Type 0 where
  pub auto : Automaton
  pub there : slice_get F.autos r ≡ Some auto
  pub one : HasOneTop auto
  pub datums : List Datum
  pub slots : List Slot
  pub symbol : one.rule.symbol ≡ Cell shape datums slots

-- what stands between roots i and j: the fields of i that lead to j alone, and those of j that lead to i alone. There
-- are some of the first, and some of the second or two of the first
pub record IsBetween (F : Forest) (i j : ℕ) (ins outs : List ℕ) : Type 0 where
  pub differ : i ≢ j
  pub in_shape : ℕ
  pub out_shape : ℕ
  pub input : IsPort F i in_shape
  pub output : IsPort F j out_shape
  pub are_in : AreFieldsTo input.auto j ins
  pub are_out : AreFieldsTo output.auto i outs
  pub some : ins ≢ []
  pub enough : (outs ≢ []) ⊎ (2 ≤ length ins)

-- Boxes of what stands between two roots.

-- for a reference to i one to the input, and for one to j one to the output
abbrev pub port_of : ℕ → ℕ → ℕ → ℕ
port_of i j = position (i ∷ j ∷ [])

-- the box has two components: the cells of both roots without data, with these fields and the trees under them. No
-- state and no rule of them takes no part
pub record IsBoxBetween (F : Forest) (i j : ℕ) (g : BoxDef) : Type 0 where
  pub ins : List ℕ
  pub outs : List ℕ
  pub between : IsBetween F i j ins outs
  pub first : Automaton
  pub second : Automaton
  pub autos : g.inside.autos ≡ first ∷ second ∷ []
  pub at_input : IsLanguageOf (port_tree (port_of i j) between.in_shape ins) between.input.auto first
  pub at_output : IsLanguageOf (port_tree (port_of i j) between.out_shape outs) between.output.auto second
  pub trim : Every IsTrim g.inside.autos
  pub ranked : Every IsRanked g.inside.autos
  pub no_variables : HasNoVariables g
  pub face_in : g.face.input ≡ between.in_shape
  pub face_out : g.face.output ≡ Some between.out_shape

-- the boxes have one face, and each component the same trees
pub record IsSameBox (g b : BoxDef) : Type 0 where
  pub face : g.face ≡ b.face
  pub trees : Paired HasSameLanguage g.inside.autos b.inside.autos

-- the k-th name of learnt boxes, from 0
abbrev pub learnt_name : ℕ → List ℕ
learnt_name k = codes "learn" ++ decimal k

-- the box has the first of these names that no box of the table has
pub record HasLearntName (T : Boxes) (g : BoxDef) : Type 0 where
  pub number : ℕ
  pub name : g.name ≡ learnt_name number
  pub new : IsIn g.name (names_of T.defs) → ⊥
  pub least : (k : ℕ) → k < number → IsIn (learnt_name k) (names_of T.defs)

-- g is a candidate of F at roots i and j: the box of what stands between them, of which all trees of a state have one
-- signature, as those of each box of a table; with the face that its trees show and a name of its own. No box of the
-- table is the same
pub record IsCandidate (T : Boxes) (F : Forest) (i j : ℕ) (g : BoxDef) : Type 0 where
  pub is : IsBoxBetween F i j g
  pub signatures : Every (HaveSignatures T.face.boxes) g.inside.autos
  pub face : IsFaceOf T.face T.defs (inside_of g) g.face
  pub other : (b : BoxDef) → IsIn b T.defs → IsSameBox g b → ⊥
  pub named : HasLearntName T g

-- The first candidate.

-- F has no candidate at these roots, whatever the box
abbrev pub HasNoneAt : Boxes → Forest → ℕ → ℕ → Type 0
HasNoneAt T F i j = (g : BoxDef) → IsCandidate T F i j g → ⊥

-- F has no candidate
abbrev pub HasNone : Boxes → Forest → Type 0
HasNone T F = (i j : ℕ) → HasNoneAt T F i j

-- the pair (k, l) comes before (i, j): the lower input, and then the lower output
abbrev pub ComesBefore : ℕ → ℕ → ℕ → ℕ → Type 0
ComesBefore k l i j = (k < i) ⊎ ((k ≡ i) × (l < j))

-- g is the first candidate of F, at roots i and j
pub record IsFirstOf (T : Boxes) (F : Forest) (i j : ℕ) (g : BoxDef) : Type 0 where
  pub is : IsCandidate T F i j g
  pub first : (k l : ℕ) → ComesBefore k l i j → HasNoneAt T F k l

-- The table with a box more.

-- the table with this box last
abbrev pub with_box : Boxes → BoxDef → Boxes
with_box T g = record {
  face = record T.face { boxes = T.face.boxes ++ g.face ∷ [] };
  defs = T.defs ++ g ∷ [];
}
