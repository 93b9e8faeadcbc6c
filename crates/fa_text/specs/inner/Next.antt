-- What is known of a box that is to be added to a table.
use Rattle.std.specs.Prelude.{◌≡◌, ◌<◌, ◌^◌, ℕ, List, [], ◌++◌, take, length, slice_get, Some}
use Rattle.fore_base.specs.Lists.{IsIn, Paired}
use Rattle.fore_base.specs.declared.shape.Shapes.{Shapes}
use Rattle.fa_core.specs.Boxes.{Boxes, names_of}
use Rattle.fa_core.specs.Words.{IsWord}
use Rattle.fa_core.specs.declared.boxes.BoxDef.{BoxDef}
use Rattle.fa_box_rules.specs.Rules.{IsWellNamed, BreaksFirst}
use Rattle.fa_box_rules.specs.declared.rule.BoxRule.{BoxRule}
use Rattle.fa_written.specs.declared.draft.BoxDraft.{BoxDraft}
use Rattle.fa_written.specs.declared.fault.DraftFault.{DraftFault}
use Rattle.fa_written.specs.declared.fault.DraftFault.TheVariants.{B1, Memory as NoDrafts}
use Rattle.fa_named.specs.declared.named.NamedBox.{NamedBox}
use Rattle.fa_text.specs.Files.{face_over, bare, HasFace, rule_number, IsFirstBroken}
use Rattle.fa_text.specs.declared.fault.BoxFault.{BoxFault}
use Rattle.fa_text.specs.declared.fault.BoxFault.TheVariants.{Rule, Limit, Memory}

-- the box may stand behind these, if it has a face
pub record IsNext (shapes : Shapes) (before : List BoxDef) (n : NamedBox) : Type 0 where
  pub named : IsWellNamed (face_over shapes before) (bare n)
  pub word : IsWord n.name
  pub new : IsIn n.name (names_of before) → ⊥
  pub plain : (n.inside.vars ≡ []) × (n.inside.data_vars ≡ [])
  pub room : length before < 32

-- so may each box of the list, behind those and the ones before it
abbrev pub AreNext : Shapes → List BoxDef → List NamedBox → Type 0
AreNext shapes before named = (i : ℕ) (defs : List BoxDef) (n : NamedBox) → Paired HasFace (take i named) defs
    → slice_get named i ≡ Some n → IsNext shapes (before ++ defs) n

-- there are fewer components than a number has values
abbrev pub HasFew : NamedBox → Type 0
HasFew n = length n.inside.autos < 2 ^ 32

-- why a box that begins on this line is not added
abbrev pub IsRefused : Boxes → NamedBox → ℕ → BoxFault → Type 0
IsRefused t n line (Rule rule at) = (at ≡ line) × (r : BoxRule) × (rule ≡ rule_number r)
    × BreaksFirst t.face t.defs (bare n) r
IsRefused t n line (Limit at) = ⊥
IsRefused t n line Memory = Unit {0}

-- why boxes are no table
abbrev pub IsBroken : Shapes → List BoxDraft → List NamedBox → BoxFault → Type 0
IsBroken shapes drafts named (Rule rule line) = (r : BoxRule) × (rule ≡ rule_number r)
    × IsFirstBroken shapes drafts named r line
IsBroken shapes drafts named (Limit line) = ⊥
IsBroken shapes drafts named Memory = Unit {0}

-- the table has the first boxes, with their faces
pub record IsMade (hs : Shapes) (named : List NamedBox) (i : ℕ) (t : Boxes) : Type 0 where
  pub shapes : t.face.shapes ≡ hs
  pub boxes : Paired HasFace (take i named) t.defs

-- why a text writes no boxes
abbrev pub fault_by : DraftFault → BoxFault
fault_by (B1 line) = Rule 1 line
fault_by NoDrafts = Memory
