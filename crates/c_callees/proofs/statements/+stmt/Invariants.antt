use Rattle.std.proofs.Common.{◌≡◌, map, drop}
use Rattle.c_typing.specs.Callees.{part_callees}
use Rattle.c_typing.specs.Texts.{joined}
use Rattle.c_callees.specs.inner.Calling.{called}
use Rattle.c_callees.proofs.statements.«+stmt».Given as goal

abbrev pub invariant-parts_calls-loop-part : goal.invariant-parts_calls-loop-part
invariant-parts_calls-loop-part l = called l.names l.found (joined (map part_callees (drop l.part-index l.parts)))
    ≡ called l.names l.initial.found (joined (map part_callees l.parts))
