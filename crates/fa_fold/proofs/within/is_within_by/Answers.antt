use Rattle.std.proofs.Common.{◌↔◌, IsTrue, sym, subst, true≢false}
use Rattle.std.proofs.lemmas.Result.{IfOk-at_ok, IfOk-weaker}
use Rattle.fore_base.proofs.ListLemmas.{same_item}
use Rattle.fa_core.specs.Folding.{IsPart, IsPartWithin}
use Rattle.fa_core.specs.LeastFolds.{CanFold}
use Rattle.fa_core.specs.declared.boxes.BoxDef.{BoxDef}
use Rattle.fa_part.proofs.TablePorts.{box_there, output_fits}
use Rattle.fa_part.specs.Parts.{IsPartOrNone}
use Rattle.fa_fold.proofs.OneParts.{none_folds, some_folds}
use Rattle.fa_fold.proofs.within.is_within_by.Goals as goal

pub box_def-def-requires : goal.box_def-def-requires
box_def-def-requires c =
    box_there c.args.table.now.defs c.args.box_no c.args.output c.requires.site.fits

pub part_by-requires-clause-fits : goal.part_by-requires-clause-fits
part_by-requires-clause-fits c =
    output_fits _ c.box_def-def.result.now c.args.output c.box_def-def.ensures c.requires.site.fits

pub returns-in-None : goal.returns-in-None
returns-in-None c =
    let T = c.args.table.now in
    let F = c.args.forest.now.forest in
    let b = c.box_def-def.result.now in
    let found = IfOk-at_ok (IsPartOrNone T.face.boxes F b c.args.input c.args.output) c.in_ok-part_by.was
    (c.part_by.ensures T.face.boxes (c.requires.fields b c.box_def-def.ensures)) in
    let none = rw c.in-None.is at found in (
      (λ h. absurd (true≢false (sym h))),
      (λ k.
          absurd
          (none_folds T F c.args.box_no c.args.input c.args.output
          (λ def there.
          subst (λ (z : BoxDef). (g : BoxDef) → IsPart T.face.boxes F z c.args.input c.args.output g → ⊥)
          (same_item T.defs c.args.box_no b def c.box_def-def.ensures there) none) k)),
    )

pub returns-in-Some : goal.returns-in-Some
returns-in-Some c =
    let T = c.args.table.now in
    let F = c.args.forest.now.forest in
    let def = c.box_def-def.result.now in
    let part = c.in-Some.part in
    let found = IfOk-at_ok (IsPartOrNone T.face.boxes F def c.args.input c.args.output) c.in_ok-part_by.was
    (c.part_by.ensures T.face.boxes (c.requires.fields def c.box_def-def.ensures)) in
    let is = rw c.in-Some.is at found in
    IfOk-weaker c.is_part_within.result (λ v. IsTrue v ↔ IsPartWithin part def)
    (λ v. IsTrue v ↔ CanFold T F c.args.box_no c.args.input c.args.output)
    (λ v d. some_folds T F c.args.box_no c.args.input c.args.output c.args.forest.now.face c.known.ensures.sound def
    part v
    c.box_def-def.ensures is d)
    c.is_part_within.ensures
