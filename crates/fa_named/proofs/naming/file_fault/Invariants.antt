use Rattle.std.proofs.Common.{◌≡◌, drop}
use Rattle.fa_named.specs.Breaks.{file_faults}
use Rattle.fa_named.specs.Earlier.{no_boxes}
use Rattle.fa_named.specs.Named.{first_of}
use Rattle.fa_named.proofs.naming.file_fault.Given as goal

abbrev pub invariant-loop-draft : goal.invariant-loop-draft
invariant-loop-draft l =
    first_of (file_faults l.known no_boxes l.drafts)
    ≡ first_of (file_faults l.known l.boxes (drop l.draft-index l.drafts))
