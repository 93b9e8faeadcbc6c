use Rattle.std.proofs.Common.{◌≡◌, drop}
use Rattle.fa_written.specs.Drafts.{missing_rules}
use Rattle.fa_written.specs.inner.Reached.{first_of}
use Rattle.fa_written.proofs.references.missing_rules.Given as goal

abbrev pub invariant-loop-rule : goal.invariant-loop-rule
invariant-loop-rule l = first_of (missing_rules l.count l.rules)
    ≡ first_of (missing_rules l.count (drop l.rule-index l.rules))
