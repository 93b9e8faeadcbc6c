use Rattle.std.proofs.Common.{◌≡◌, ◌<◌, length, take, get_or, arith, sym, ap, ◌∙◌, length-take}
use Rattle.c_lexer.specs.inner.Steps.{cursor_after, moved}
use Rattle.c_lexer.proofs.PlaceLemmas.{cursor_bounds, cursor_more}
use Rattle.c_lexer.proofs.place.advance.Goals as goal

pub behind-cursor-requires : goal.behind-cursor-requires
behind-cursor-requires c =
    cursor_bounds c.loop-i.cursor (take c.loop-i.i c.args.text.now) c.loop-i.invariant
    (omega (arith, length-take c.loop-i.i c.args.text.now))

pub loop-i-preserved : goal.loop-i-preserved
loop-i-preserved c =
    let within : c.loop-i.i < length c.args.text.now = omega arith in
    let more = cursor_more c.args.text.now c.loop-i.i within in
    let here : c.loop-i.cursor ≡ cursor_after (take c.loop-i.i c.args.text.now) = c.loop-i.invariant in
    c.behind-cursor.ensures ∙ ap (λ k. moved k (get_or c.args.text.now c.loop-i.i 0)) here ∙ sym more
