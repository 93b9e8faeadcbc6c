use Rattle.std.proofs.Common.{◌≡◌, ◌≤◌, drop, length}
use Rattle.c_lower.specs.inner.Sites.{inside_each, rests_of}
use Rattle.c_lower.proofs.site.Site.rests.Given as goal

abbrev pub invariant-loop-at : goal.invariant-loop-at
invariant-loop-at l = record {
  within : l.at ≤ length l.body;
  inner : l.inner ≡ inside_each l.self l.around (drop l.at l.body);
  rests : l.rests ≡ rests_of l.self l.around (drop l.at l.body);
}
