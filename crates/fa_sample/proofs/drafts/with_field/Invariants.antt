use Rattle.std.proofs.Common.{◌≡◌, ◌++◌, drop, if◌then◌else◌}
use Rattle.fa_sample.specs.inner.Written.{put_in}
use Rattle.fa_sample.proofs.drafts.with_field.Given as goal

abbrev pub invariant-loop-field : goal.invariant-loop-field
invariant-loop-field l = l.all ++
    (if l.is_put then drop l.field-index l.fields else put_in l.new (drop l.field-index l.fields))
    ≡ put_in l.new l.fields
