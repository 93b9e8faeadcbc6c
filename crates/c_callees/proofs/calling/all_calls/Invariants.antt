use Rattle.std.proofs.Common.{◌≡◌, map, take}
use Rattle.c_typing.specs.Globals.{body_callees, body_named, numbers_among}
use Rattle.c_callees.proofs.calling.all_calls.Given as goal

abbrev pub invariant-loop-text : goal.invariant-loop-text
invariant-loop-text l = l.calls
    ≡ map (λ x. numbers_among l.names (body_callees (body_named x l.items))) (take l.text-index l.texts)
