use Rattle.std.proofs.Common.{◌≡◌, drop}
use Rattle.fa_written.specs.Drafts.{missing_parts}
use Rattle.fa_written.specs.inner.Reached.{first_of}
use Rattle.fa_written.proofs.references.missing_parts.Given as goal

abbrev pub invariant-loop-part : goal.invariant-loop-part
invariant-loop-part l = first_of (missing_parts l.count l.parts)
    ≡ first_of (missing_parts l.count (drop l.part-index l.parts))
