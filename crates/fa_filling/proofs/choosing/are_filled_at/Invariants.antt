use Rattle.std.proofs.Common.{take}
use Rattle.fa_filling.specs.Parted.{AreFilledAt, AreTopsBut}
use Rattle.fa_filling.proofs.choosing.are_filled_at.Given as goal

abbrev pub invariant-loop-part : goal.invariant-loop-part
invariant-loop-part l = AreFilledAt l.face l._parts l.place l.above (take l.part-index l.own)
    × AreTopsBut l._parts l.place l.tops
