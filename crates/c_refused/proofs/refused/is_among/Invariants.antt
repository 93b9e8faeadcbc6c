use Rattle.std.proofs.Common.{◌≡◌, drop, map}
use Rattle.c_refused.specs.Refused.{is_among}
use Rattle.c_refused.proofs.refused.is_among.Given as goal

abbrev pub invariant-loop-one : goal.invariant-loop-one
invariant-loop-one l = is_among (map (λ one. one.now) (drop l.one-index l.texts)) l.text
    ≡ is_among (map (λ one. one.now) l.texts) l.text
