-- Boxes that were read from a file and are printed again.
use Rattle.std.specs.Prelude.{◌≡◌, ◌≤◌, List, [], ◌∷◌, map}
use Rattle.fore_base.specs.Lists.{Every, Paired}
use Rattle.fore_base.specs.declared.shape.Shapes.{Shapes}
use Rattle.fa_core.specs.Boxes.{Boxes}
use Rattle.fa_core.specs.declared.boxes.BoxDef.{BoxDef}
use Rattle.fa_lines.specs.Pieces.{lines_of}
use Rattle.fa_lines.specs.Says.{Says}
use Rattle.fa_lines.specs.Spelling.{IsLine}
use Rattle.fa_lines.specs.declared.line.Line.{Line}
use Rattle.fa_print.specs.Lines.{lines_text}
use Rattle.fa_written.specs.Forms.{box_lines}
use Rattle.fa_written.specs.declared.draft.RuleDraft.{RuleDraft}
use Rattle.fa_written.specs.declared.draft.PartDraft.{PartDraft}
use Rattle.fa_written.specs.declared.draft.BoxDraft.{BoxDraft}
use Rattle.fa_named.specs.Named.{AreNamed}
use Rattle.fa_named.specs.declared.named.NamedBox.{NamedBox}
use Rattle.fa_print.specs.Texts as printed

-- the rules stand in order of state
abbrev pub AreInOrder : List RuleDraft → Type 0
AreInOrder [] = Unit {0}
AreInOrder (r ∷ []) = Unit {0}
AreInOrder (r ∷ s ∷ rs) = (r.state ≤ s.state) × AreInOrder (s ∷ rs)

-- so in each component
abbrev pub IsInOrder : BoxDraft → Type 0
IsInOrder b = Every (λ (p : PartDraft). AreInOrder p.rules) b.parts

-- the box is the one that was named
pub record IsBoxOf (n : NamedBox) (b : BoxDef) : Type 0 where
  pub name : b.name ≡ n.name
  pub input : b.face.input ≡ n.input
  pub output : b.face.output ≡ n.output
  pub inside : b.inside ≡ n.inside

-- the lines of a box in its file, without their numbers
abbrev pub lines_read : BoxDraft → List Line
lines_read b = map (λ l. l.1) (box_lines b)

-- the boxes of a file, whose rules stand in order of state, are printed by the lines of the file
abbrev pub IsPrintedAsRead : Shapes → List BoxDraft → Boxes → Type 0
IsPrintedAsRead shapes bs table = (named : List NamedBox) → AreNamed shapes bs named → Every IsInOrder bs
    → table.face.shapes ≡ shapes → Paired IsBoxOf named table.defs
    → map (printed.box_lines table) table.defs ≡ map lines_read bs

-- what is printed for lines says these lines to the reader of files of boxes
abbrev pub AreReadAsPrinted : List Line → Type 0
AreReadAsPrinted lines = Every IsLine lines → Paired Says (lines_of (lines_text lines)) lines
