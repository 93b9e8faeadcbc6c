use Rattle.std.proofs.Common.{◌≡◌, ◌+◌, ◌++◌, ◌<◌, drop, length}
use Rattle.c_lower.specs.inner.Emitting.{emit_parts}
use Rattle.c_lower.proofs.site.Site.+cond.Given as goal

abbrev pub invariant-add_parts-loop-part : goal.invariant-add_parts-loop-part
invariant-add_parts-loop-part l = record {
  some : 0 < l.left;
  counted : l.left + l.part-index ≡ length l.parts;
  edges : l.edges ++ emit_parts l.self.counts.ptrs l.self.counts.datums l.joint (drop l.part-index l.parts) l.from l.yes
      l.no ≡ l.initial.edges ++ emit_parts l.self.counts.ptrs l.self.counts.datums l.joint l.parts l.at l.yes l.no;
}
