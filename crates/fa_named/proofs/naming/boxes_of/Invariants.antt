use Rattle.std.proofs.Common.{◌≡◌, ◌++◌, drop}
use Rattle.fa_named.specs.Earlier.{no_boxes}
use Rattle.fa_named.specs.Named.{boxes_of}
use Rattle.fa_named.proofs.naming.boxes_of.Given as goal

abbrev pub invariant-loop-draft : goal.invariant-loop-draft
invariant-loop-draft l =
    l.made ++ boxes_of l.known l.boxes (drop l.draft-index l.drafts) ≡ boxes_of l.known no_boxes l.drafts
