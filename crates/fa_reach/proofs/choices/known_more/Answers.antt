use Rattle.fa_reach.proofs.Known.{gains_mark, mark_falls}
use Rattle.fa_reach.proofs.choices.known_more.Goals as goal

pub returns : goal.returns
returns c =
    let h = rw (c.as_slice-4.ensures) at c.in_ok-avoids.ensures.no c.if-avoids.false in
    rw (c.mark.ensures) (
      gains_mark c.args.parts.now c.args.known c.args.to h,
      mark_falls c.args.known c.args.to c.requires.unknown,
    )
