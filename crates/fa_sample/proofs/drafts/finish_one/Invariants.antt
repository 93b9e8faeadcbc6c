use Rattle.std.proofs.Common.{◌≡◌, map, take}
use Rattle.fa_sample.proofs.drafts.finish_one.Given as goal

abbrev pub invariant-loop-field : goal.invariant-loop-field
invariant-loop-field l = l.fields ≡ map (λ x. x.value) (take l.field-index l.field-items)
