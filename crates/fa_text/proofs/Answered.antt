-- Why a text has no table, from why its boxes have none.
use Rattle.std.proofs.Common.{◌≡◌, ℕ, List, refl, sym, ap, subst, Result, Ok, Err, IfErr}
use Rattle.fore_base.specs.declared.shape.Shapes.{Shapes}
use Rattle.fa_core.specs.Boxes.{Boxes}
use Rattle.fa_written.specs.Drafts.{IsText}
use Rattle.fa_written.specs.Faults.{IsFault as IsDraftFault}
use Rattle.fa_written.specs.declared.draft.BoxDraft.{BoxDraft}
use Rattle.fa_written.specs.declared.fault.DraftFault.{DraftFault}
use Rattle.fa_written.specs.declared.fault.DraftFault.TheVariants.{B1, Memory as NoDrafts}
use Rattle.fa_named.specs.Named.{AreNamed, faults, IsFirst as IsFirstName}
use Rattle.fa_named.specs.declared.fault.NameFault.{NameFault}
use Rattle.fa_named.specs.declared.fault.NameFault.TheVariants.{K6, B2, B3, Memory as NoMemory}
use Rattle.fa_named.specs.declared.named.NamedBox.{NamedBox}
use Rattle.fa_text.specs.Files.{in_the_way, misnamed, broken, fault_of, IsFault}
use Rattle.fa_text.specs.declared.fault.BoxFault.{BoxFault}
use Rattle.fa_text.specs.declared.fault.BoxFault.TheVariants.{Rule, Limit, Memory}
use Rattle.fa_text.specs.inner.Next.{IsBroken, fault_by}

pub broken_fault : (text : List ℕ) (shapes : Shapes) (drafts : List BoxDraft) (named : List NamedBox)
    (r : Result Boxes BoxFault) → IsText text drafts → AreNamed shapes drafts named
    → IfErr r (IsBroken shapes drafts named) → IfErr r (IsFault text shapes)
broken_fault text shapes drafts named (Ok t) written so h = tt
broken_fault text shapes drafts named (Err (Rule rule line)) written so h =
    broken drafts named h.0 line written so h.2 (ap (λ (k : ℕ). Rule k line) h.1)
broken_fault text shapes drafts named (Err (Limit line)) written so h = absurd h
broken_fault text shapes drafts named (Err Memory) written so h = tt

pub name_fault : (text : List ℕ) (shapes : Shapes) (drafts : List BoxDraft) (x : NameFault) (f : BoxFault)
    → IsText text drafts → IsFirstName (faults shapes drafts) x → f ≡ fault_of x → IsFault text shapes f
name_fault text shapes drafts x f written first e = subst (IsFault text shapes) (sym e) (here x first)
  where
    here : (y : NameFault) → IsFirstName (faults shapes drafts) y → IsFault text shapes (fault_of y)
    here (K6 line) h = misnamed drafts (K6 line) written h refl
    here (B2 line) h = misnamed drafts (B2 line) written h refl
    here (B3 line) h = misnamed drafts (B3 line) written h refl
    here NoMemory h = tt

pub line_fault : (text : List ℕ) (shapes : Shapes) (x : DraftFault) (f : BoxFault) → IsDraftFault text x
    → f ≡ fault_by x
    → IsFault text shapes f
line_fault text shapes x f h e = subst (IsFault text shapes) (sym e) (here x h)
  where
    here : (y : DraftFault) → IsDraftFault text y → IsFault text shapes (fault_by y)
    here (B1 line) k = in_the_way line k refl
    here NoDrafts k = tt
