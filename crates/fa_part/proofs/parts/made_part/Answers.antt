use Rattle.std.proofs.lemmas.Result.{IfOk-weaker}
use Rattle.fa_part.specs.Made.{IsBoxOf, IsMade}
use Rattle.fa_part.proofs.parts.made_part.Goals as goal

pub returns : goal.returns
returns c =
    IfOk-weaker c.box_of.result (IsBoxOf c.args.def.now c.in_ok-autos.autos)
    (IsMade c.args.forest.now.forest.autos c.args.def.now c.args.ports.now c.args.inner.now)
    (λ g h. (c.in_ok-autos.autos, h, c.in_ok-autos.ensures)) c.box_of.ensures
