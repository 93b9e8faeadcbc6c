-- Files of boxes, and the first rule that a text breaks.
use Rattle.std.specs.Prelude.{◌≡◌, ◌⊎◌, ℕ, List, [], take, length, slice_get, Some, Result, Err}
use Rattle.fore_base.specs.Lists.{Paired}
use Rattle.fore_base.specs.declared.shape.Shapes.{Shapes}
use Rattle.fa_core.specs.Boxes.{Boxes, AreSoundOver, faces_of}
use Rattle.fa_core.specs.declared.boxes.BoxDef.{BoxDef}
use Rattle.fa_core.specs.declared.faces.Face.{Face}
use Rattle.fa_box_rules.specs.Rules.{Inside, BreaksFirst}
use Rattle.fa_box_rules.specs.declared.rule.BoxRule.{BoxRule}
use Rattle.fa_box_rules.specs.declared.rule.BoxRule.TheVariants.{B4, B5, B6, B7}
use Rattle.fa_written.specs.Drafts.{IsText, IsFirstBad}
use Rattle.fa_written.specs.declared.draft.BoxDraft.{BoxDraft}
use Rattle.fa_named.specs.Named.{AreNamed, faults, first_of}
use Rattle.fa_named.specs.declared.fault.NameFault.{NameFault}
use Rattle.fa_named.specs.declared.fault.NameFault.TheVariants.{K6, B2, B3, Memory as NoMemory}
use Rattle.fa_named.specs.declared.named.NamedBox.{NamedBox}
use Rattle.fa_text.specs.declared.fault.BoxFault.{BoxFault}
use Rattle.fa_text.specs.declared.fault.BoxFault.TheVariants.{Rule, Limit, Memory}

-- Tables.

-- the face over which a box stands: the structs, and the boxes before it
abbrev pub face_over : Shapes → List BoxDef → Face
face_over shapes before = record { shapes = shapes; boxes = faces_of before }

-- the box is the one that is written, with a face
pub record HasFace (n : NamedBox) (b : BoxDef) : Type 0 where
  pub name : b.name ≡ n.name
  pub input : b.face.input ≡ n.input
  pub output : b.face.output ≡ n.output
  pub inside : b.inside ≡ n.inside

-- the boxes are those that are written, each with a face by which it is sound over those before it
abbrev pub AreBoxes : Shapes → List NamedBox → List BoxDef → Type 0
AreBoxes shapes named defs = Paired HasFace named defs × AreSoundOver shapes [] defs

-- the table is that of the text over these structs: the text writes boxes, their names stand for something, and each
-- has a face
pub record IsBoxFile (text : List ℕ) (shapes : Shapes) (t : Boxes) : Type 0 where
  pub drafts : List BoxDraft
  pub named : List NamedBox
  pub written : IsText text drafts
  pub are_named : AreNamed shapes drafts named
  pub boxes : AreBoxes shapes named t.defs
  pub face : t.face ≡ face_over shapes t.defs

-- Faults.

-- the box without its name
abbrev pub bare : NamedBox → Inside
bare n = record { input = n.input; output = n.output; autos = n.inside.autos }

-- the boxes before one are sound with their faces, it begins on this line, and breaks this rule and no lesser one
pub record IsFirstBroken (shapes : Shapes) (drafts : List BoxDraft) (named : List NamedBox) (rule : BoxRule)
    (line : ℕ) : Type 0 where
  pub before : List BoxDef
  pub draft : BoxDraft
  pub box : NamedBox
  pub draft_at : slice_get drafts (length before) ≡ Some draft
  pub box_at : slice_get named (length before) ≡ Some box
  pub boxes : AreBoxes shapes (take (length before) named) before
  pub place : line ≡ draft.head.line
  pub breaks : BreaksFirst (face_over shapes before) before (bare box) rule

abbrev pub rule_number : BoxRule → ℕ
rule_number B4 = 4
rule_number B5 = 5
rule_number B6 = 6
rule_number B7 = 7

abbrev pub fault_of : NameFault → BoxFault
fault_of (K6 line) = Limit line
fault_of (B2 line) = Rule 2 line
fault_of (B3 line) = Rule 3 line
fault_of NoMemory = Memory

-- the first rule that the text breaks, with its line: B1 is looked for in the whole text first, then the 33rd box, then
-- B2 and B3 line by line, then B4 to B7 box by box
pub data IsFirst (text : List ℕ) (shapes : Shapes) (fault : BoxFault) : Type 0 where
  in_the_way : (line : ℕ) → IsFirstBad text line → fault ≡ Rule 1 line → IsFirst text shapes fault
  misnamed : (drafts : List BoxDraft) (x : NameFault) → IsText text drafts → first_of (faults shapes drafts) ≡ Some x
      → fault ≡ fault_of x → IsFirst text shapes fault
  broken : (drafts : List BoxDraft) (named : List NamedBox) (rule : BoxRule) (line : ℕ) → IsText text drafts
      → AreNamed shapes drafts named → IsFirstBroken shapes drafts named rule line
      → fault ≡ Rule (rule_number rule) line
      → IsFirst text shapes fault

-- this is the first rule that the text breaks, or memory ran out
abbrev pub IsFault : List ℕ → Shapes → BoxFault → Type 0
IsFault text shapes (Rule rule line) = IsFirst text shapes (Rule rule line)
IsFault text shapes (Limit line) = IsFirst text shapes (Limit line)
IsFault text shapes Memory = Unit {0}

-- this is answered, unless memory ran out
abbrev pub Answers : {X : Type 0} → Result X BoxFault → Result X BoxFault → Type 0
Answers result wanted = (result ≡ wanted) ⊎ (result ≡ Err Memory)
